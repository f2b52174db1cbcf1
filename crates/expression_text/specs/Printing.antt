-- The normal form of an expression (Req 13): one text for each tree, with brackets only where the tree needs them.
use Rattle.std.specs.Prelude.{ℕ, List, ◌∷◌, ◌++◌}
use Rattle.lists.specs.Characters.{char, codes}
use Rattle.hex_digits.specs.Digits.{digits_of}
use Rattle.hex_digits.specs.Numbers.{in_bytes}
use Rattle.operands.specs.Trees.{Tree}
use Rattle.operands.specs.Trees.Tree.{number, name, plus, minus}

-- a number always has eight digits, capitals, so that it has one text
abbrev pub in_hex : ℕ → List ℕ
in_hex v = char "$" ∷ digits_of (in_bytes 4 v)

-- a right side: a sum or difference needs brackets, as terms are added and subtracted from the left
abbrev pub side : Tree → List ℕ → List ℕ
side (number v) text = text
side (name n) text = text
side (plus a b) text = char "(" ∷ text ++ codes ")"
side (minus a b) text = char "(" ∷ text ++ codes ")"

-- a left side needs none
abbrev pub printed : Tree → List ℕ
printed (number v) = in_hex v
printed (name n) = n
printed (plus a b) = printed a ++ char "+" ∷ side b (printed b)
printed (minus a b) = printed a ++ char "-" ∷ side b (printed b)

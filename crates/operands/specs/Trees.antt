-- What an expression is, whatever its spelling (Req 13).
use Rattle.std.specs.Prelude.{ℕ, cond, List, eqb}
use Rattle.lists.specs.Characters.{char}

-- "numbers and names are added and subtracted"
pub data Tree : Type 0 where
  number : ℕ → Tree
  name : List ℕ → Tree
  plus : Tree → Tree → Tree
  minus : Tree → Tree → Tree

-- two trees under a sign, `+` or otherwise `-`
unfoldable pub operation : ℕ → Tree → Tree → Tree
operation sign a b = cond (eqb sign (char "+")) (plus a b) (minus a b)

-- Marks joined.
use Rattle.std.specs.Prelude.{ℕ, List, [], ◌∷◌}
use Rattle.std.specs.Int.Bits.{bit_or}

-- the bits of two lists of marks, byte by byte; those behind the shorter list are the longer one's
abbrev pub joined : List ℕ → List ℕ → List ℕ
joined [] others = others
joined (m ∷ marks) [] = m ∷ marks
joined (m ∷ marks) (k ∷ others) = bit_or m k ∷ joined marks others

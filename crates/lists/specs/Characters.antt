-- Characters as numbers.
use Rattle.std.specs.Prelude.{ℕ, List, [], ◌∷◌}
use Prim.Native.String.{String}
use Prim.Native.Char.{code}

-- the number of a string's first character
abbrev pub char : String → ℕ
char = elim [ String.[] ↦ 0 | String.◌∷◌ c (s → r) ↦ code c ]

-- the numbers of all its characters
abbrev pub codes : String → List ℕ
codes = elim [ String.[] ↦ [] | String.◌∷◌ c (s → r) ↦ code c ∷ r ]

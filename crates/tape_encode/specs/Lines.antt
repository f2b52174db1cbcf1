-- One line of a tape by its bytes: those of its address, its data, and its check.
use Rattle.std.specs.Prelude.{ℕ, List, [], ◌∷◌, ◌++◌, length}
use Rattle.lists.specs.Characters.{char}
use Rattle.hex_digits.specs.Digits.{digits_of}

-- ; and the pairs of length, address, data and check, then CR LF; for the bytes of an address and the right check it is `line`
unfoldable pub line_with : List ℕ → List ℕ → List ℕ → List ℕ
line_with address ds check = char ";" ∷ digits_of ((length ds ∷ address ++ ds) ++ check) ++ (char "\r" ∷ char "\n" ∷ [])

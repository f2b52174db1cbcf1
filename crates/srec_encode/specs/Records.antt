-- One record as a line of the text, by numbers: its type character, how many address bytes it has, its address and its data.
use Rattle.std.specs.Prelude.{ℕ, List, [], ◌∷◌, ◌++◌}
use Rattle.lists.specs.Characters.{char}
use Rattle.hex_digits.specs.Numbers.{in_bytes}
use Rattle.srec.specs.Writing.{record_with}

-- a record with these address bytes, and LF
unfoldable pub line_with : ℕ → List ℕ → List ℕ → List ℕ
line_with kind address ds = record_with kind address ds ++ (char "\n" ∷ [])

-- the same with an address in so many bytes; for the type and width of a kind it is `record_text` and LF
unfoldable pub line_of : ℕ → ℕ → ℕ → List ℕ → List ℕ
line_of kind width address ds = line_with kind (in_bytes width address) ds

-- Lines that are as long as their counts say.
use Rattle.std.specs.Prelude.{◌≡◌, ℕ, ◌+◌, ◌*◌, List, [], ◌∷◌, length, get_or}
use Rattle.hex_digits.specs.Digits.{byte_of}
use Rattle.text.specs.Lines.{Line}
use Rattle.formats.specs.declared.Format.{Format}
use Rattle.formats.specs.declared.Format.TheVariants.{Records, Tape}

-- how many characters a line that begins so has by its count
abbrev pub size_of : Format → List ℕ → ℕ
size_of Records cs = 4 + 2 * byte_of (get_or cs 2 0) (get_or cs 3 0)
size_of (Tape edition) cs = 11 + 2 * byte_of (get_or cs 1 0) (get_or cs 2 0)

-- the first of some lines, if there is one, is as long as its count says
abbrev pub LongAsCounted : Format → List Line → Type 0
LongAsCounted format [] = Unit {0}
LongAsCounted format (l ∷ ls) = length l.chars ≡ size_of format l.chars

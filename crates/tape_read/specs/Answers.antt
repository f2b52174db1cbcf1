-- What a line that was read says.
use Rattle.std.specs.Prelude.{◌≡◌, ℕ, ◌+◌, false, List, drop, Option, Some, None, Result, Ok, Err}
use Rattle.hex_digits.specs.Digits.{bytes}
use Rattle.tape.specs.declared.Edition.{Edition}
use Rattle.tape.specs.Reading.{Read, length_in, address_in, read}
use Rattle.tape.specs.Reading.Read.{good, bad}
use Rattle.tape.specs.Judging.{row7}
use Rattle.tape_read.specs.declared.Line.{Line}
use Rattle.text.specs.declared.Fault.{Fault}

-- what a line at a place says: its address or number, and its length field; or the row that refuses it, and where
abbrev pub as_line : ℕ → Read → Result Line Fault
as_line place (good bs) = Ok (record { address = address_in bs; len = length_in bs })
as_line place (bad f) = Err (record { row = f.reason; place = place + f.offset; want = 0 })

-- an answer is what the line says, whatever its place, and its check is right; of no answer nothing is said
abbrev pub CheckedIs : Edition → Option Line → List ℕ → Type 0
CheckedIs edition (Some line) chars = (Ok line ≡ as_line 0 (read chars)) × (row7 edition (bytes (drop 1 chars)) ≡ false)
CheckedIs edition None chars = Unit {0}

-- What a record that was read says.
use Rattle.std.specs.Prelude.{◌≡◌, ℕ, ◌+◌, cond, List, length, get_or, Option, Some, None, Result, Ok, Err}
use Rattle.std.proofs.Math.Option.{Option as Maybe, none, some}
use Rattle.text.specs.declared.Fault.{Fault}
use Rattle.srec.specs.Kinds.{Kind, kind_of, type_of, width}
use Rattle.srec.specs.Reading.{Read, row3, row4}
use Rattle.srec.specs.Reading.Read.{good, bad}
use Rattle.srec_fields.specs.declared.Record.{Record}

-- the address bytes of a type; 0 for a type that is not in the table
abbrev pub width_or0 : Maybe Kind → ℕ
width_or0 none = 0
width_or0 (some k) = width k

-- the address bytes of a record's type; 0 for a record that row 3 or 4 refuses
unfoldable pub width_in : List ℕ → ℕ
width_in chars = cond (row3 chars) 0 (cond (row4 chars) 0 (width_or0 (kind_of (get_or chars 1 0))))

-- what a record at a place says: its type, address and number of data bytes; or the row that refuses it, where, and the checksum that
-- would have been right (0 but for row 7)
abbrev pub as_record : ℕ → Read → Result Record Fault
as_record place (good k a ds) = Ok (record { kind = type_of k; address = a; count = length ds })
as_record place (bad f) = Err (record { row = f.reason; place = place + f.offset; want = f.want })

-- an answer is what the record says, whatever its place; of no answer nothing is said
abbrev pub GoodIs : Option Record → Read → Type 0
GoodIs (Some r) read = Ok r ≡ as_record 0 read
GoodIs None read = Unit {0}

-- The data bytes of a line, and where their digits stand.
use Rattle.std.specs.Prelude.{ℕ, ◌+◌, ◌*◌, List, [], get_or}
use Rattle.text.specs.Scan.{Step}
use Rattle.text.specs.Scan.Step.{refuse, skip, title, put, finish}
use Rattle.srec.specs.Kinds.{kind_of}
use Rattle.srec_fields.specs.Records.{width_or0}
use Rattle.formats.specs.declared.Format.{Format}
use Rattle.formats.specs.declared.Format.TheVariants.{Records, Tape}

-- the data bytes for cells that a line carries
abbrev pub bytes_in : Step → List ℕ
bytes_in (refuse f) = []
bytes_in skip = []
bytes_in (title h) = []
bytes_in (put a ds) = ds
bytes_in (finish e) = []

-- the index of the first digit of a line's data: behind S, type, count and address; behind ;, length and address
abbrev pub start_of : Format → List ℕ → ℕ
start_of Records chars = 4 + 2 * width_or0 (kind_of (get_or chars 1 0))
start_of (Tape edition) chars = 7

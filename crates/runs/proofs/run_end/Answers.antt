-- Where the run ends, in either form.
use Rattle.marks.proofs.FormLaws.{bytes_long}
use Rattle.marks.proofs.FlagLaws.{run_bytes, run_packed}
use Rattle.runs.proofs.run_end.Goals as goal

pub returns-in-Bytes : goal.returns-in-Bytes
returns-in-Bytes c = rw c.in-Bytes.is (run_bytes _ _ _ _ _ _ c.requires.0 c.min.ensures (bytes_long _ _ _ c.requires.1 c.in-Bytes.is) c.end_byte.ensures)

pub returns-in-Packed : goal.returns-in-Packed
returns-in-Packed c = rw c.in-Packed.is (run_packed _ _ _ _ _ _ c.requires.0 c.min.ensures c.next_clear.ensures)

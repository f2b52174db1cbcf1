-- The next set bit of packed marks is the next marked cell.
use Rattle.marks.proofs.FlagLaws.{next_found}
use Rattle.runs.proofs.next_marked.Goals as goal

pub returns-in-Packed : goal.returns-in-Packed
returns-in-Packed c = rw c.in-Packed.is (next_found _ _ _ _ c.next_set.ensures)

-- `are_free` meets its contract in either form.
use Rattle.std.proofs.Common.{arith}
use Rattle.marks.proofs.FlagLaws.{free_found}
use Rattle.claims.proofs.are_free.Goals as goal

pub returns-in-Packed : goal.returns-in-Packed
returns-in-Packed c =
    let a = c.args in
    rw c.in-Packed.is (free_found a.cells a.marks.now a.from a.to c.next_set.result (omega arith) (omega arith) c.next_set.ensures)

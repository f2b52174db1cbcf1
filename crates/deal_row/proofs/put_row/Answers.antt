-- `put_row` receives a row into a part of the chip's buffers.
use Rattle.std.proofs.Common.{◌+◌, arith}
use Rattle.chips.proofs.PutLaws.{part_received}
use Rattle.deal_row.proofs.put_row.Goals as goal

pub returns : goal.returns
returns c =
    let a = c.args in
    let used = c.requires.2 (omega arith) in
    part_received a.memory.now a.marks.now a.cells.now a.flags.now a.at (a.at + a.size) (omega arith) used.0 c.requires.1
    (omega arith) (omega arith) _ _ c.receive_row.ensures.0 c.receive_row.ensures.1

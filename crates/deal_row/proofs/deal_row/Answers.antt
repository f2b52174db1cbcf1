-- `deal_row` puts its row into each chip.
use Rattle.std.proofs.Common.{arith}
use Rattle.chips.specs.Boards.{board_of}
use Rattle.deal_row.proofs.DealLaws.{put_asks_by_size, row_dealt}
use Rattle.deal_row.proofs.deal_row.Goals as goal

pub put_row-requires : goal.put_row-requires
put_row-requires c = put_asks_by_size _ _ _ _ c.requires.2 c.args.at c.args.size c.requires.1 c.rows_of.result.1 c.rows_of.ensures.1 c.requires.0 0 (omega arith)

pub put_row-requires-2 : goal.put_row-requires-2
put_row-requires-2 c = put_asks_by_size _ _ _ _ c.requires.2 c.args.at c.args.size c.requires.1 c.rows_of.result.1 c.rows_of.ensures.1 c.requires.0 1 (omega arith)

pub put_row-requires-3 : goal.put_row-requires-3
put_row-requires-3 c = put_asks_by_size _ _ _ _ c.requires.2 c.args.at c.args.size c.requires.1 c.rows_of.result.1 c.rows_of.ensures.1 c.requires.0 2 (omega arith)

pub put_row-requires-4 : goal.put_row-requires-4
put_row-requires-4 c = put_asks_by_size _ _ _ _ c.requires.2 c.args.at c.args.size c.requires.1 c.rows_of.result.1 c.rows_of.ensures.1 c.requires.0 3 (omega arith)

pub returns : goal.returns
returns c =
    let after =
    board_of c.put_row.new.memory c.put_row.new.marks c.put_row-2.new.memory c.put_row-2.new.marks c.put_row-3.new.memory c.put_row-3.new.marks
    c.put_row-4.new.memory c.put_row-4.new.marks in
    row_dealt _ _ _ _ c.requires.2 c.args.at c.args.size c.requires.1 c.rows_of.result.1 c.rows_of.ensures.1 c.rows_of.result.0 c.rows_of.ensures.0 after
    c.put_row.ensures c.put_row-2.ensures c.put_row-3.ensures c.put_row-4.ensures

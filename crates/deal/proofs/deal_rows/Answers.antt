-- `deal_rows` deals one row behind the other.
use Rattle.std.proofs.Common.{◌+◌, arith}
use Rattle.chips.specs.Boards.{board_of}
use Rattle.deal.proofs.RowLaws.{begun, row_more, ended}
use Rattle.deal.proofs.deal_rows.Goals as goal

pub loop-at-init : goal.loop-at-init
loop-at-init c =
    let a = c.args in
    begun a.k a.memory.now a.marks.now (board_of a.memory0.now a.marks0.now a.memory1.now a.marks1.now a.memory2.now a.marks2.now a.memory3.now a.marks3.now)

pub loop-at-preserved : goal.loop-at-preserved
loop-at-preserved c =
    let a = c.args in
    let l = c.loop-at in
    let n = c.deal_row.new in
    row_more a.k a.memory.now a.marks.now (board_of a.memory0.now a.marks0.now a.memory1.now a.marks1.now a.memory2.now a.marks2.now a.memory3.now a.marks3.now)
    l.at (board_of l.memory0 l.marks0 l.memory1 l.marks1 l.memory2 l.marks2 l.memory3 l.marks3) l.invariant c.row_size-size.result
    (board_of n.memory0 n.marks0 n.memory1 n.marks1 n.memory2 n.marks2 n.memory3 n.marks3) c.loop-at-test.true c.row_size-size.ensures c.deal_row.ensures

pub returns : goal.returns
returns c =
    let a = c.args in
    let l = c.loop-at in
    ended a.k a.memory.now a.marks.now (board_of a.memory0.now a.marks0.now a.memory1.now a.marks1.now a.memory2.now a.marks2.now a.memory3.now a.marks3.now)
    l.at (board_of l.memory0 l.marks0 l.memory1 l.marks1 l.memory2 l.marks2 l.memory3 l.marks3) l.invariant c.loop-at-test.false

pub returns-2 : goal.returns-2
returns-2 c =
    let a = c.args in
    let l = c.loop-at in
    let n = c.deal_row.new in
    let b = board_of a.memory0.now a.marks0.now a.memory1.now a.marks1.now a.memory2.now a.marks2.now a.memory3.now a.marks3.now in
    let after = board_of n.memory0 n.marks0 n.memory1 n.marks1 n.memory2 n.marks2 n.memory3 n.marks3 in
    ended a.k a.memory.now a.marks.now b (l.at + 16) after
    (row_more a.k a.memory.now a.marks.now b l.at (board_of l.memory0 l.marks0 l.memory1 l.marks1 l.memory2 l.marks2 l.memory3 l.marks3) l.invariant c.row_size-size.result
    after c.loop-at-test.true c.row_size-size.ensures c.deal_row.ensures)
    (omega arith)

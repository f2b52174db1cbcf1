-- `collect_rows` collects one row behind the other.
use Rattle.std.proofs.Common.{◌+◌, arith}
use Rattle.chips.specs.Boards.{buffers_of, board_of}
use Rattle.collect.proofs.RowLaws.{begun, row_more, ended}
use Rattle.collect.proofs.collect_rows.Goals as goal

pub loop-at-init : goal.loop-at-init
loop-at-init c =
    let a = c.args in
    begun a.k (board_of a.memory0.now a.marks0.now a.memory1.now a.marks1.now a.memory2.now a.marks2.now a.memory3.now a.marks3.now) (buffers_of a.memory.now a.marks.now)

pub loop-at-preserved : goal.loop-at-preserved
loop-at-preserved c =
    let a = c.args in
    let l = c.loop-at in
    let b = board_of a.memory0.now a.marks0.now a.memory1.now a.marks1.now a.memory2.now a.marks2.now a.memory3.now a.marks3.now in
    row_more a.k b (buffers_of a.memory.now a.marks.now) l.at (buffers_of l.memory l.marks) l.invariant c.row_size-size.result
    (buffers_of c.collect_row.new.memory c.collect_row.new.marks) c.loop-at-test.true c.row_size-size.ensures c.collect_row.ensures

pub returns : goal.returns
returns c =
    let a = c.args in
    let l = c.loop-at in
    let b = board_of a.memory0.now a.marks0.now a.memory1.now a.marks1.now a.memory2.now a.marks2.now a.memory3.now a.marks3.now in
    ended a.k b (buffers_of a.memory.now a.marks.now) l.at (buffers_of l.memory l.marks) l.invariant c.requires c.loop-at-test.false

pub returns-2 : goal.returns-2
returns-2 c =
    let a = c.args in
    let l = c.loop-at in
    let b = board_of a.memory0.now a.marks0.now a.memory1.now a.marks1.now a.memory2.now a.marks2.now a.memory3.now a.marks3.now in
    ended a.k b (buffers_of a.memory.now a.marks.now) (l.at + 16) (buffers_of c.collect_row.new.memory c.collect_row.new.marks)
    (row_more a.k b (buffers_of a.memory.now a.marks.now) l.at (buffers_of l.memory l.marks) l.invariant c.row_size-size.result
    (buffers_of c.collect_row.new.memory c.collect_row.new.marks) c.loop-at-test.true c.row_size-size.ensures c.collect_row.ensures)
    c.requires (omega arith)

-- The loop's invariant: the whole has received the cells of the chips before this row.
use Rattle.std.proofs.Common.{◌*◌, ◌/◌, min, length}
use Rattle.chips.specs.Boards.{buffers_of, board_of}
use Rattle.collect_row.specs.Collecting.{Collects}
use Rattle.collect.proofs.collect_rows.Given as goal

abbrev pub invariant-loop-at : goal.invariant-loop-at
invariant-loop-at l =
    let i = l.initial in
    Collects l.k (board_of l.memory0 l.marks0 l.memory1 l.marks1 l.memory2 l.marks2 l.memory3 l.marks3) 0 (l.k * min l.at (length i.memory / l.k))
    (buffers_of i.memory i.marks) (buffers_of l.memory l.marks)

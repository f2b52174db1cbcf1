-- The loop's invariant: every chip has received its cells before this row.
use Rattle.std.proofs.Common.{◌/◌, min, length}
use Rattle.chips.specs.Boards.{board_of}
use Rattle.deal_row.specs.Dealing.{Dealt}
use Rattle.deal.proofs.deal_rows.Given as goal

abbrev pub invariant-loop-at : goal.invariant-loop-at
invariant-loop-at l =
    let i = l.initial in
    Dealt l.k l.memory l.marks 0 (min l.at (length l.memory / l.k)) (board_of i.memory0 i.marks0 i.memory1 i.marks1 i.memory2 i.marks2 i.memory3 i.marks3)
    (board_of l.memory0 l.marks0 l.memory1 l.marks1 l.memory2 l.marks2 l.memory3 l.marks3)

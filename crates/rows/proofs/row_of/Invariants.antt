-- The loop's invariant: the first i cells of the row are the chip's.
use Rattle.std.proofs.Common.{◌≡◌, length}
use Rattle.rows.specs.Rows.{RowOf}
use Rattle.rows.proofs.row_of.Given as goal

abbrev pub invariant-loop-i : goal.invariant-loop-i
invariant-loop-i l = (length l.row ≡ 16) × RowOf l.k l.chip l.i l.cells l.row

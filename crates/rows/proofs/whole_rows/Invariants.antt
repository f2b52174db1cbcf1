-- The loop's invariant: the chips before this one have their rows.
use Rattle.std.proofs.Common.{◌≡◌, ℕ, ◌<◌, [], length, get_or}
use Rattle.rows.specs.Rows.{RowOf}
use Rattle.rows.proofs.whole_rows.Given as goal

abbrev pub invariant-loop-chip : goal.invariant-loop-chip
invariant-loop-chip g l = (length l.rows ≡ 4) × ((c : ℕ) → c < l.chip → RowOf g.row.K c 16 l.cells (get_or l.rows c []))

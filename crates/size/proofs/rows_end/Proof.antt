-- `rows_end` meets its contract: after each turn one row more stands before the index.
use Prim.Native.Nat.{◌-◌}
use native.Mathlib.Omega.{arith}
use Rattle.marks.specs.Forms.{flags}
use Rattle.size.specs.Rows.{IsRow, RowsTo}
use Rattle.size.proofs.RowLaws.{no_rows, row_more, rows_inside}
use Rattle.size.proofs.rows_end.Statement.{statement}
use Rattle.size.proofs.rows_end.Tie as tie

abbrev invariant-loop : tie.invariant-loop-format
invariant-loop format base form marks cells at i₀ i = RowsTo format base (flags form cells marks) cells at i

abbrev decreases-loop : tie.decreases-loop-format
decreases-loop format base form marks cells at i₀ i = cells - i

loop-holds : tie.Need-loop-format-init invariant-loop decreases-loop
loop-holds c = no_rows _ _ _ _ _ c.requires.0

is-row-requires : tie.Need-is_row-requires invariant-loop decreases-loop
is-row-requires c κs = let s = c.before.before in (rows_inside _ _ _ _ _ _ c.loop-format.invariant, s.requires.1, s.requires.2)

-- the row at hand
row : (c : tie.In-loop-format invariant-loop decreases-loop) → let a = c.args in
    IsRow a.format a.base (flags a.form a.cells a.marks.now) a.cells c.loop-format.i
row c = c.is_row.ensures c.loop-format-test.true

add-i : tie.Need-overflow_add-i invariant-loop decreases-loop
add-i c = record { fits = omega (arith, (row c).0) }

loop-less : tie.Need-loop-format-smaller invariant-loop decreases-loop
loop-less c = omega (arith, (row c).0)

loop-again : tie.Need-loop-format-preserved invariant-loop decreases-loop
loop-again c = row_more _ _ _ _ _ _ c.loop-format.invariant (row c)

returns : tie.Need-returns invariant-loop decreases-loop
returns c = c.loop-format.invariant

pub rows_end_spec : {M : Type 1} → statement M
rows_end_spec = tie.close (tie.spec invariant-loop decreases-loop loop-holds is-row-requires add-i loop-less loop-again returns)

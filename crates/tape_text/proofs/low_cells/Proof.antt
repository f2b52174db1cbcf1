-- `low_cells` meets its contract: no cell, all of them, or those before the first address that is too large.
use native.Mathlib.Omega.{arith}
use Rattle.tape_text.specs.Pieces.{low_cells}
use borrow.Author.Rules.{rules}
use Rattle.tape_text.proofs.low_cells.Statement.{statement}
use Rattle.tape_text.proofs.low_cells.Tie as tie

returns : tie.Need-returns-then-low-ge-ADDRESSES
unfolding low_cells
returns c = omega (arith, c.if-low-ge-ADDRESSES.true)

returns-2 : tie.Need-returns-then-cells-most
unfolding low_cells
returns-2 c = omega (arith, c.if-cells-most.true, c.if-low-ge-ADDRESSES.false)

returns-3 : tie.Need-returns-else-cells-most
unfolding low_cells
returns-3 c = omega (arith, c.if-cells-most.false, c.if-low-ge-ADDRESSES.false)

pub low_cells_spec : {M : Type 1} → statement M
low_cells_spec = tie.close (tie.spec returns (λ c. search rules) returns-2 returns-3)

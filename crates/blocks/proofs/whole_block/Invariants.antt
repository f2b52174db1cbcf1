-- The loop's invariant: the first i columns are laid.
use Rattle.std.proofs.Common.{◌≡◌, length}
use Rattle.blocks.specs.Blocks.{BlockOf}
use Rattle.blocks.proofs.whole_block.Given as goal

abbrev pub invariant-loop-i : goal.invariant-loop-i
invariant-loop-i g l = (length l.block ≡ 64) × BlockOf g.row.K l.i l.rows l.block

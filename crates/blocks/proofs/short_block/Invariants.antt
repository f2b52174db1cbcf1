-- The loop's invariant: the first i cells are laid.
use Rattle.std.proofs.Common.{◌≡◌, ℕ, ◌/◌, ◌%◌, ◌<◌, [], length, get_or}
use Rattle.blocks.proofs.short_block.Given as goal

abbrev pub invariant-loop-i : goal.invariant-loop-i
invariant-loop-i l = (length l.block ≡ 64) × ((j : ℕ) → j < l.i → get_or l.block j 0 ≡ get_or (get_or l.rows (j % l.k) []) (j / l.k) 0)

-- The loop's invariant: the first i bytes are chosen.
use Rattle.std.proofs.Common.{◌≡◌, length, get_or}
use Rattle.chips.specs.Promises.{chosen, Filled}
use Rattle.receiving.proofs.blended.Given as goal

abbrev pub invariant-loop-i : goal.invariant-loop-i
invariant-loop-i l = (length l.bytes ≡ 64) × Filled (λ j. chosen (get_or l.flags j 0) (get_or l.cells j 0) (get_or l.old j 0)) l.i l.bytes

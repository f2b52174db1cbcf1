-- The loop's invariant: the first i bytes are those of the first i numbers.
use Rattle.std.proofs.Common.{◌≡◌, length, get_or}
use Rattle.chips.specs.Promises.{Filled}
use Rattle.rows.specs.Rows.{byte_of}
use Rattle.rows.proofs.lane.Given as goal

abbrev pub invariant-loop-i : goal.invariant-loop-i
invariant-loop-i l = (length l.row ≡ 16) × Filled (λ i. byte_of l.c (get_or l.words i 0)) l.i l.row

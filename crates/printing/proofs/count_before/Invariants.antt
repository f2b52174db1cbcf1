-- The count up to the loop's index and that of what is left make the whole.
use Rattle.std.proofs.Common.{◌≡◌, ◌+◌, drop}
use Rattle.printing.specs.Cases.{before}
use Rattle.printing.proofs.count_before.Given as goal

abbrev pub invariant-loop-i : goal.invariant-loop-i
invariant-loop-i l = before l.stop l.chars ≡ l.i + before l.stop (drop l.i l.chars)

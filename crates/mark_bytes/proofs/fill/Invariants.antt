-- The bytes up to this one have the value, and the others are as they were.
use Rattle.std.proofs.Common.{◌≡◌, ◌++◌, replicate, drop}
use Rattle.mark_bytes.proofs.fill.Given as goal

abbrev pub invariant-loop-mark : goal.invariant-loop-mark
invariant-loop-mark l = l.part ≡ replicate l.mark-index l.value ++ drop l.mark-index l.initial.part

-- The bits from `from` to below byte k are set.
use Rattle.std.proofs.Common.{◌*◌, max, min}
use Rattle.bits.specs.Steps.{Painted}
use Rattle.bits.proofs.set_bits.Given as goal

abbrev pub invariant-loop-k : goal.invariant-loop-k
invariant-loop-k l = Painted l.initial.marks l.from (max l.from (min l.to (8 * l.k))) l.marks

-- Without a fault so far the characters left decide.
use Rattle.std.proofs.Common.{◌≡◌, false, drop}
use Rattle.hex_sum.specs.Sums.{AreDigits}
use Rattle.hex_sum.proofs.has_fault.Given as goal

abbrev pub invariant-loop-k : goal.invariant-loop-k
invariant-loop-k l = l.fault ≡ false → (AreDigits (drop l.k l.a) → AreDigits l.a) × (AreDigits (drop l.k l.b) → AreDigits l.b)

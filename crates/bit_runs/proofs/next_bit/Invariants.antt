-- No bit was set in the bytes so far.
use Rattle.std.proofs.Common.{◌≡◌, ◌+◌, ◌-◌, ◌*◌, max, min}
use Rattle.window.specs.Walks.{unmarked}
use Rattle.bits.specs.Bits.{bits}
use Rattle.bits.specs.Steps.{flipped}
use Rattle.bit_runs.proofs.next_bit.Given as goal

abbrev pub invariant-loop-k : goal.invariant-loop-k
invariant-loop-k l =
    let at = max l.from (min l.to (8 * l.k)) in
    let ms = flipped l.flip l.marks in
    (l.low ≡ l.from - 8 * l.k) × (at + unmarked (bits ms at (l.to - at)) ≡ l.from + unmarked (bits ms l.from (l.to - l.from)))

-- The weights so far and those of the pairs left give the whole.
use Rattle.std.proofs.Common.{◌≡◌, ◌+◌, ◌*◌, ◌≤◌, drop}
use Rattle.hex_digits.specs.Tables.{weighed}
use Rattle.hex_read.proofs.DigitTable.weigh.Given as goal

abbrev pub invariant-loop-k : goal.invariant-loop-k
invariant-loop-k l =
    (l.high ≤ 131072 * l.k) × (l.low ≤ 131072 * l.k) × (16 * l.high + l.low + weighed (drop (2 * l.k) l.chars) ≡ weighed l.chars)

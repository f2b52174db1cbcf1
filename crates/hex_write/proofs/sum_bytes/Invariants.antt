-- The bytes so far are added.
use Rattle.std.proofs.Common.{◌≡◌, ◌*◌, ◌≤◌, take}
use Rattle.hex_digits.specs.Numbers.{sum}
use Rattle.hex_write.proofs.sum_bytes.Given as goal

abbrev pub invariant-loop-byte : goal.invariant-loop-byte
invariant-loop-byte l = (l.sum ≡ sum (take l.byte-index l.bytes)) × (l.sum ≤ 255 * l.byte-index)

-- The digits of the first k bytes are written.
use Rattle.std.proofs.Common.{◌≡◌, take}
use Rattle.lists.specs.Lists.{over}
use Rattle.hex_digits.specs.Digits.{digits_of}
use Rattle.hex_write.proofs.put_each.Given as goal

abbrev pub invariant-loop-k : goal.invariant-loop-k
invariant-loop-k g l = l.out ≡ over l.fn.out l.at (digits_of (take l.k l.bytes))

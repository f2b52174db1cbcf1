-- The checksum, and LF after it.
use Rattle.std.proofs.Common.{◌+◌, [], ◌∷◌, refl, arith}
use Rattle.lists.proofs.OverLaws.{over_store}
use Rattle.hex_digits.specs.Digits.{digits_of}
use Rattle.srec_encode.proofs.put_tail.Goals as goal

pub returns : goal.returns
returns c =
    let a = c.args in
    rw c.put_pair.ensures (over_store a.out.now a.at (digits_of (a.check ∷ [])) 10 (a.at + 2) refl (omega (arith, c.requires)))

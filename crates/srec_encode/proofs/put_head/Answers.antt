-- Two characters, and the count after them.
use Rattle.std.proofs.Common.{[], ◌∷◌, refl, arith}
use Rattle.lists.proofs.OverLaws.{over_two, over_next}
use Rattle.hex_digits.specs.Digits.{digits_of}
use Rattle.srec_encode.proofs.put_head.Goals as goal

pub returns : goal.returns
returns c =
    let a = c.args in
    rw (c.put_pair.ensures, over_two a.out.now 0 83 a.kind (omega (arith, c.requires)))
    (over_next a.out.now 0 (83 ∷ a.kind ∷ []) (digits_of (a.count ∷ [])) 2 refl (omega (arith, c.requires)))

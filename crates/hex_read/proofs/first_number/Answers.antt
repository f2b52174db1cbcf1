-- The number of four bytes without those behind the first.
use Rattle.std.proofs.Common.{◌≡◌, ℕ, ◌∷◌, [], ◌-◌, ◌*◌, ◌/◌, ◌^◌, ap, arith, ◌∙◌}
use Rattle.hex_digits.specs.Numbers.{number}
use Rattle.hex_read.proofs.LeadingLaws.{leading}
use Rattle.hex_read.proofs.first_number.Goals as goal

pub returns : goal.returns
returns c =
    let x = c.args in
    let e : c.from_be_bytes.result ≡ number (x.a ∷ x.b ∷ x.c ∷ x.d ∷ []) = omega (arith, c.from_be_bytes.ensures) in
    ap (λ (n : ℕ). n / 2 ^ (8 * (4 - x.width))) e
    ∙ leading x.a x.b x.c x.d x.width (omega arith) (omega arith) (omega arith) c.requires.0 c.requires.1

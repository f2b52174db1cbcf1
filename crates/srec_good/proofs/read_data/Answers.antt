-- A good answer is a law of ShapeReadLaws.
use mathlib.Core.Path.{ap, ◌∙◌}
use Prim.Native.Nat.{ℕ, ◌+◌, ◌-◌, ◌/◌}
use native.Mathlib.Omega.{arith}
use lib.ListN.{length, get_or}
use Rattle.srec_fields.proofs.FieldLaws.{says}
use Rattle.srec_good.proofs.ShapeReadLaws.{bounds, data_good}
use Rattle.srec_good.proofs.read_data.Goals as goal

pub gather-sum-requires : goal.gather-sum-requires
gather-sum-requires c =
    let b = bounds c.args.chars.now c.data_width-width.result c.requires c.data_width-width.ensures in
    (b.0, b.1, omega (arith, b.2, b.3), b.4, omega (arith, b.3))

pub returns : goal.returns
returns c =
    let cs = c.args.chars.now in
    let w = c.data_width-width.result in
    let right = c.is_right.ensures c.if-not-is_right.false in
    let told = c.gather-sum.ensures.0 right.0 in
    ap (λ (x : ℕ). says (get_or cs 1 0) x (length cs / 2 - 2 - (w + 1))) (c.gather-sum.ensures.1 right.0)
    ∙ data_good cs w c.requires c.data_width-width.ensures told.0 (omega (arith, told.1, right.1))

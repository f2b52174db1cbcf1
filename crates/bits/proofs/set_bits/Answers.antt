-- The bits of byte k are set.
use Rattle.std.proofs.Common.{arith}
use Rattle.bits.proofs.PaintLaws.{paint_next}
use Rattle.bits.proofs.set_bits.Goals as goal

pub loop-k-preserved : goal.loop-k-preserved
loop-k-preserved c =
    paint_next _ _ _ _ _ _ _ _ c.requires.0 c.loop-k.auto.k (omega arith) (omega arith) c.saturating_sub-low.ensures c.min-high.ensures c.mask.ensures c.loop-k.invariant

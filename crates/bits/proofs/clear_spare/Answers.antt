-- The spare bits of the last byte are cleared, or there are none.
use Rattle.bits.proofs.SpareLaws.{no_spare, spare_cleared}
use Rattle.std.proofs.Common.{arith}
use Rattle.bits.proofs.clear_spare.Goals as goal

pub returns-then-low-ne0 : goal.returns-then-low-ne0
returns-then-low-ne0 c = rw c.mask.ensures (spare_cleared _ _ (λ k. omega (arith, c.slice_known-1.given k)) c.requires c.if-low-ne0.true)

pub returns-else-low-ne0 : goal.returns-else-low-ne0
returns-else-low-ne0 c = no_spare _ _ (λ k. omega (arith, c.type_inv.marks k)) c.requires c.if-low-ne0.false

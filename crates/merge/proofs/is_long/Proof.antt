-- `is_long` meets its contract: the base's header, then the patch's.
use Rattle.merge.proofs.MergeLaws.{long_base, long_patch}
use Rattle.merge.proofs.is_long.Statement.{statement}
use Rattle.merge.proofs.is_long.Tie as tie

returns : tie.Need-returns-then-base-gt-MOST_HEADER
returns c = let a = c.args in long_base a.base.now a.patch.now c.if-base-gt-MOST_HEADER.true

returns-2 : tie.Need-returns
returns-2 c = let a = c.args in long_patch a.base.now a.patch.now c.if-base-gt-MOST_HEADER.false

pub is_long_spec : {M : Type 1} → statement M
is_long_spec = tie.close (tie.spec returns returns-2)

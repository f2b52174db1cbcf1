-- The two blocks cover the part between them.
use Rattle.std.proofs.Common.{arith}
use Rattle.mark_bytes.proofs.CoverLaws.{covered}
use Rattle.mark_bytes.proofs.cover.Goals as goal

pub returns : goal.returns
returns c = covered _ _ _ 16 _ (omega arith) (omega arith) c.fill-2.ensures c.fill-3.ensures

-- `choose` by its mask of 0 or 255.
use Rattle.std.proofs.Common.{arith}
use Rattle.receiving.proofs.ReceiveLaws.{masked}
use Rattle.receiving.proofs.choose.Goals as goal

pub returns : goal.returns
returns c = masked c.args.flag c.args.new c.args.old c.requires (omega arith) (omega arith)

use Rattle.std.proofs.Common.{arith}
use Rattle.hex_digits.specs.Tables.{pair_of}
use Rattle.hex_write.proofs.BlockLaws.{pair_by_bits}
use Rattle.hex_write.proofs.pair_of.Goals as goal

pub returns : goal.returns
unfolding pair_of
returns c = pair_by_bits c.args.byte (omega arith)

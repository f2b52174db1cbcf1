use Rattle.std.proofs.Common.{arith}
use Rattle.hex_digits.proofs.DigitTableLaws.{value_by_bits}
use Rattle.hex_read.proofs.value_of.Goals as goal

pub returns : goal.returns
returns c = (value_by_bits c.args.c (omega arith), omega arith)

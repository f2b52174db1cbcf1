use Rattle.std.proofs.Common.{arith}
use Rattle.hex_sum.proofs.FaultLaws.{fault_by_ranges}
use Rattle.hex_sum.proofs.is_fault.Goals as goal

pub returns : goal.returns
returns c = fault_by_ranges c.args.c (omega arith)

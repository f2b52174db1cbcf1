use Rattle.std.proofs.Common.{◌-◌, length}
use Rattle.symbols.proofs.BlockLaws.{Going}
use Rattle.symbols.proofs.read_lines.Given as goal

abbrev pub invariant-loop-line : goal.invariant-loop-line
invariant-loop-line l = Going l.text l.begin l.at l.read l.seen

abbrev pub decreases-loop-line : goal.decreases-loop-line
decreases-loop-line l = length l.text - l.at

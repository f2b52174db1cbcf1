use Rattle.std.proofs.Common.{◌-◌, length}
use Rattle.symbol_lines.proofs.LineLaws.{Going}
use Rattle.symbol_lines.proofs.pairs_of.Given as goal

abbrev pub invariant-loop-name : goal.invariant-loop-name
invariant-loop-name l = Going l.line l.at l.count

abbrev pub decreases-loop-name : goal.decreases-loop-name
decreases-loop-name l = length l.line - l.at

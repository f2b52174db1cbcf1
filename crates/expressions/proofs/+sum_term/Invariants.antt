-- Twice the text left falls with each call, and a sum has one more than its first term.
use Rattle.std.proofs.Common.{◌+◌, ◌-◌, ◌*◌, length}
use Rattle.symbol_table.specs.Symbols.{symbols_in}
use Rattle.expressions.proofs.SumLaws.{Going}
use Rattle.expressions.proofs.+sum_term.Given as goal

abbrev pub decreases-sum : goal.decreases-sum
decreases-sum l = 2 * (length l.text.now - l.at) + 1

abbrev pub decreases-term : goal.decreases-term
decreases-term l = 2 * (length l.text.now - l.at)

abbrev pub invariant-sum-loop-sign : goal.invariant-sum-loop-sign
invariant-sum-loop-sign l = Going (symbols_in l.table) l.text l.left l.at l.so_far

abbrev pub decreases-sum-loop-sign : goal.decreases-sum-loop-sign
decreases-sum-loop-sign l = length l.text - l.so_far.next

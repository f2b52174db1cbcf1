-- The span so far, with what is left, is that of the whole.
use Rattle.std.proofs.Common.{◌-◌, length}
use Rattle.symbol_table.specs.Symbols.{symbols_in}
use Rattle.sheet_survey.proofs.PairLaws.{Going}
use Rattle.sheet_survey.proofs.table_span.Given as goal

abbrev pub invariant-loop-pair : goal.invariant-loop-pair
invariant-loop-pair l = Going (symbols_in l.table) l.sheet l.span l.at

abbrev pub decreases-loop-pair : goal.decreases-loop-pair
decreases-loop-pair l = length l.sheet - l.at

-- What is left to walk gives what the whole gives, and the marks show its image.
use Rattle.std.proofs.Common.{◌-◌, length}
use Rattle.symbol_table.specs.Symbols.{symbols_in}
use Rattle.sheet_check.proofs.CheckLaws.{Going}
use Rattle.sheet_check.proofs.check_sheet.Given as goal

abbrev pub invariant-loop-pair : goal.invariant-loop-pair
invariant-loop-pair l = Going (symbols_in l.table) l.sheet l.base (length l.initial.marks) l.marks l.at l.fields l.records l.cells

abbrev pub decreases-loop-pair : goal.decreases-loop-pair
decreases-loop-pair l = length l.sheet - l.at

-- What is left to walk gives what the whole gives, and memory shows its image.
use Rattle.std.proofs.Common.{◌-◌, length}
use Rattle.symbol_table.specs.Symbols.{symbols_in}
use Rattle.sheet_store.proofs.StoreLaws.{Storing}
use Rattle.sheet_store.proofs.store_sheet.Given as goal

abbrev pub invariant-loop-pair : goal.invariant-loop-pair
invariant-loop-pair l = Storing (symbols_in l.table) l.sheet l.base l.initial.memory l.memory l.at

abbrev pub decreases-loop-pair : goal.decreases-loop-pair
decreases-loop-pair l = length l.sheet - l.at

-- The invariant: the name stands for the same in the rest of the table.
use Rattle.std.proofs.Common.{◌≡◌, ◌≤◌, ◌-◌, length}
use Rattle.symbol_table.specs.Symbols.{symbols_in, meaning}
use Rattle.symbol_table.proofs.SymbolLaws.{meaning_from}
use Rattle.symbol_table.proofs.find.Given as goal

abbrev pub invariant-loop-key : goal.invariant-loop-key
invariant-loop-key l = (l.at ≤ length l.table) × (meaning_from l.table l.at l.name ≡ meaning (symbols_in l.table) l.name)

abbrev pub decreases-loop-key : goal.decreases-loop-key
decreases-loop-key l = length l.table - l.at

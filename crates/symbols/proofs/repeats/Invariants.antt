-- The invariant: the names that are left decide.
use Rattle.std.proofs.Common.{◌≡◌, ◌≤◌, ◌-◌, length, drop}
use Rattle.text.specs.Lines.{lines}
use Rattle.words.specs.Words.{is_blank}
use Rattle.symbol_lines.specs.Lines.{parts_of}
use Rattle.symbols.specs.Blocks.{again}
use Rattle.symbols.proofs.repeats.Given as goal

abbrev pub invariant-loop-name : goal.invariant-loop-name
invariant-loop-name l =
    (l.at ≤ length l.line) × (again l.text l.begin l.place (lines is_blank l.at (drop l.at l.line)) ≡ again l.text l.begin l.place (parts_of l.line))

abbrev pub decreases-loop-name : goal.decreases-loop-name
decreases-loop-name l = length l.line - l.at

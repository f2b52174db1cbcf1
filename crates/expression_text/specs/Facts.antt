-- The normal form of an expression says the same as the expression. The proofs are in proofs/NormalForms.antt.
use Rattle.std.specs.Prelude.{◌≡◌, ℕ, List}
use Rattle.std.proofs.Math.Option.{some}
use Rattle.symbol_table.specs.Symbols.{Symbol}
use Rattle.operands.specs.Trees.{Tree}
use Rattle.operands.specs.Reading.{expression}
use Rattle.operands.specs.Values.{worth_of}
use Rattle.expression_text.specs.Printing.{printed}

-- whatever text a tree was read from, its normal form is read as the same tree; so it never needs more than the 32 brackets allowed
abbrev pub ReadsBack : Type 0
ReadsBack = (s : List ℕ) (t : Tree) → expression s ≡ some t → expression (printed t) ≡ some t

-- so it has the same answer, value or row, whatever the symbols
abbrev pub WorthTheSame : Type 0
WorthTheSame = (S : List Symbol) (s : List ℕ) (t : Tree) → expression s ≡ some t → worth_of S (printed t) ≡ worth_of S s

-- and the form tells trees apart: expressions of one normal form have one tree
abbrev pub TellsApart : Type 0
TellsApart = (s r : List ℕ) (t u : Tree) → expression s ≡ some t → expression r ≡ some u → printed t ≡ printed u → t ≡ u

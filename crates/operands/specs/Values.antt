-- What an expression is worth, and its rows: 25 its text form, 26 its names, 27 its sums, in that order (Req 13).
use Rattle.std.specs.Prelude.{ℕ, ◌+◌, ◌-◌, ◌^◌, Bool, true, cond, ◌&&◌, List, leb, ltb, Some, None, Result, Ok, Err}
use Rattle.std.specs.Prelude as std
use Rattle.std.proofs.Math.Option.{Option, none, some}
use Rattle.symbol_table.specs.Symbols.{Symbol, meaning, is_some}
use Rattle.operands.specs.declared.ExpressionError.{ExpressionError}
use Rattle.operands.specs.declared.ExpressionError.TheVariants.{Malformed, NoValue}
use Rattle.operands.specs.declared.ValueError.{ValueError}
use Rattle.operands.specs.declared.ValueError.TheVariants.{UnknownName, OutOfRange}
use Rattle.operands.specs.declared.Part.{Part}
use Rattle.operands.specs.Trees.{Tree}
use Rattle.operands.specs.Trees.Tree.{number, name, plus, minus}
use Rattle.operands.specs.Reading.{Read, expression}
use Rattle.operands.specs.Reading.Read.{tree, bad}

-- every name is known
abbrev pub known : List Symbol → Tree → Bool
known S (number v) = true
known S (name n) = is_some (meaning S n)
known S (plus a b) = known S a && known S b
known S (minus a b) = known S a && known S b

-- a sum, unless it passes 4,294,967,295: "each intermediate result must lie in 0 to 4,294,967,295"
abbrev pub added : Option ℕ → Option ℕ → Option ℕ
added none y = none
added (some v) none = none
added (some v) (some w) = cond (ltb (v + w) (2 ^ 32)) (some (v + w)) none

-- a difference, unless it is below 0
abbrev pub taken : Option ℕ → Option ℕ → Option ℕ
taken none y = none
taken (some v) none = none
taken (some v) (some w) = cond (leb w v) (some (v - w)) none

-- what an expression is worth, if every result on the way is in range
abbrev pub value : List Symbol → Tree → Option ℕ
value S (number v) = some v
value S (name n) = meaning S n
value S (plus a b) = added (value S a) (value S b)
value S (minus a b) = taken (value S a) (value S b)

-- row 27: some result is out of range
abbrev pub ranged : Option ℕ → Result ℕ ValueError
ranged none = Err OutOfRange
ranged (some v) = Ok v

-- row 26: some name is unknown; it comes before row 27
unfoldable pub verdict : List Symbol → Tree → Result ℕ ValueError
verdict S t = cond (known S t) (ranged (value S t)) (Err UnknownName)

-- the verdict on an expression that has the form
abbrev pub formed : Result ℕ ValueError → Result ℕ ExpressionError
formed (Ok v) = Ok v
formed (Err e) = Err (NoValue e)

-- row 25 comes before both
abbrev pub judged : List Symbol → Option Tree → Result ℕ ExpressionError
judged S none = Err Malformed
judged S (some t) = formed (verdict S t)

-- the answer for a text
unfoldable pub worth_of : List Symbol → List ℕ → Result ℕ ExpressionError
worth_of S s = judged S (expression s)

-- the number of a row
abbrev pub row_of : ExpressionError → ℕ
row_of Malformed = 25
row_of (NoValue UnknownName) = 26
row_of (NoValue OutOfRange) = 27

-- ---- what the reading functions answer: the verdict on what was read, and the place behind it

-- a verdict, and a place
abbrev pub part_of : Result ℕ ValueError → ℕ → Part
part_of v at = record { value = v; next = at }

-- what is told of something read
abbrev pub told : List Symbol → Read → std.Option Part
told S (tree t at) = Some (part_of (verdict S t) at)
told S bad = None

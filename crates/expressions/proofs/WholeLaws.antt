-- What an expression is worth by what is told of its sum: nothing may stand behind it.
use mathlib.Core.Path.{◌≡◌, refl}
use mathlib.Core.Bool.{cond}
use mathlib.Core.List.{List}
use Prim.Native.Nat.{ℕ}
use lib.Dec.{eqb}
use lib.ListN.{length}
use Rattle.std.specs.Prelude.{Option, Some, None, Result, Err}
use Rattle.lists.proofs.TestLaws.{by_test}
use Rattle.symbol_table.specs.Symbols.{Symbol}
use Rattle.operands.specs.declared.ExpressionError.{ExpressionError}
use Rattle.operands.specs.declared.ExpressionError.TheVariants.{Malformed}
use Rattle.operands.specs.declared.Part.{Part}
use Rattle.operands.specs.Reading.{Read, whole, sum_at, expression}
use Rattle.operands.specs.Reading.Read.{tree, bad}
use Rattle.operands.specs.Values.{formed, judged, told, worth_of}

-- a part is an expression, if it is the whole text
abbrev pub whole_part : List ℕ → Option Part → Result ℕ ExpressionError
whole_part s None = Err Malformed
whole_part s (Some p) = cond (eqb p.next (length s)) (formed p.value) (Err Malformed)

judged_whole : (S : List Symbol) (s : List ℕ) (r : Read) → judged S (whole s r) ≡ whole_part s (told S r)
judged_whole S s (tree t at) = by_test (eqb at (length s)) (λ e. rw e) (λ e. rw e)
judged_whole S s bad = refl

pub worth_told : (S : List Symbol) (s : List ℕ) → worth_of S s ≡ whole_part s (told S (sum_at 32 s 0))
unfolding worth_of expression
worth_told S s = judged_whole S s (sum_at 32 s 0)

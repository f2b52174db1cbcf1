-- The statements of specs/Facts.antt hold.
use mathlib.Core.Path.{◌≡◌, sym, ap, subst, ◌∙◌}
use Prim.Native.Nat.{ℕ}
use native.Mathlib.Omega.{arith}
use mathlib.Core.List.{List}
use mathlib.Core.Option.{none, some, some-injective}
use lib.Dec.{eqb}
use lib.ListN.{length}
use Rattle.lists.proofs.TestLaws.{by_test}
use Rattle.operands.specs.Trees.{Tree}
use Rattle.operands.specs.Reading.{Read, sum_at, whole, expression}
use Rattle.operands.specs.Reading.Read.{tree, bad}
use Rattle.operands.specs.Values.{judged, worth_of}
use Rattle.expression_text.specs.Facts.{ReadsBack, WorthTheSame, TellsApart}
use Rattle.expression_text.proofs.FitLaws.{Fit}
use Rattle.expression_text.proofs.PrintLaws.{printed_back}
use Rattle.expression_text.proofs.ReadingLaws.{IfRead, sum_fits}

-- a text that is no expression has no tree
no_tree : (t : Tree) → none ≡ some t → ⊥
no_tree t e = let z : ◌≡◌ {A = ℕ} 0 1 = cc in omega arith

-- what was read as the whole text fits
whole_fits : (s : List ℕ) (t : Tree) (r : Read) → IfRead (Fit 32) r → whole s r ≡ some t → Fit 32 t
whole_fits s t (tree u at) h e =
    by_test (eqb at (length s)) (λ f. subst (Fit 32) (some-injective u t (rw f at e)) h) (λ f. absurd (no_tree t (rw f at e)))
whole_fits s t bad h e = absurd (no_tree t e)

-- a normal form is read back
pub reads_back : ReadsBack
unfolding expression
reads_back s t e = printed_back t (whole_fits s t (sum_at 32 s 0) (sum_fits s 32 0) e)

-- and has the same answer
pub worth_the_same : WorthTheSame
unfolding worth_of
worth_the_same S s t e = ap (judged S) (reads_back s t e ∙ sym e)

-- and tells which tree it is of
pub tells_apart : TellsApart
tells_apart s r t u e f p = some-injective t u (sym (reads_back s t e) ∙ ap expression p ∙ reads_back r u f)

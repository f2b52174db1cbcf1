-- How far walks over marks go.
use Prim.Native.Nat.{ℕ, zero, suc, ◌-◌, ◌≤◌}
use native.Mathlib.Omega.{arith}
use mathlib.Core.List.{List, [], ◌∷◌}
use lib.Dec.{ltb}
use lib.ListN.{length}
use borrow.Author.Tests.{ltb-true}
use Rattle.lists.proofs.TestLaws.{by_test}
use Rattle.window.specs.Walks.{unmarked, run_on}

-- no more cells without a mark come first than there are cells
pub gap_inside : (ms : List ℕ) → unmarked ms ≤ length ms
gap_inside [] = omega arith
gap_inside (zero ∷ ms) = omega (arith, gap_inside ms)
gap_inside (suc m ∷ ms) = omega arith

-- a run has at most n cells more
pub run_short : (n : ℕ) (marks : List ℕ) → run_on n marks ≤ n
run_short n [] = omega arith
run_short n (zero ∷ marks) = omega arith
run_short n (suc m ∷ marks) =
    by_test (ltb 0 n) (λ t. rw t (omega (arith, run_short (n - 1) marks, ltb-true 0 n t))) (λ t. rw t (omega arith))

-- a run ends within the marks
pub run_inside : (n : ℕ) (marks : List ℕ) → run_on n marks ≤ length marks
run_inside n [] = omega arith
run_inside n (zero ∷ marks) = omega arith
run_inside n (suc m ∷ marks) = by_test (ltb 0 n) (λ t. rw t (omega (arith, run_inside (n - 1) marks))) (λ t. rw t (omega arith))

-- The tests of single lengths and numbers.
use mathlib.Core.Path.{◌≡◌}
use Prim.Native.Nat.{ℕ, ◌≤◌, ◌<◌}
use native.Mathlib.Omega.{arith}
use mathlib.Core.Bool.{false, not}
use mathlib.Core.Logic.{inl, inr}
use lib.Dec.{eqb}
use borrow.Author.Tests.{eqb-true, not-false}
use Rattle.lists.proofs.TestLaws.{by_test}
use Rattle.chips.specs.Refusals.{not_two_or_four}
use Rattle.chips.specs.Promises.{Count}

-- two numbers that a test does not tell apart
pub same_number : (m n : ℕ) → not (eqb m n) ≡ false → m ≡ n
same_number m n h = eqb-true m n (not-false (eqb m n) h)

pub count_inv : (k : ℕ) → not_two_or_four k ≡ false → Count k
unfolding not_two_or_four
count_inv k h = by_test (eqb k 2) (λ e. inl (eqb-true k 2 e)) (λ e. inr (same_number k 4 (rw e at h)))

pub count_is : (k : ℕ) → Count k → not_two_or_four k ≡ false
unfolding not_two_or_four
count_is k (inl e) = rw e
count_is k (inr e) = rw e

pub some_chips : (k : ℕ) → Count k → 0 < k
some_chips k (inl e) = omega arith
some_chips k (inr e) = omega arith

pub at_most_four : (k : ℕ) → Count k → k ≤ 4
at_most_four k (inl e) = omega arith
at_most_four k (inr e) = omega arith

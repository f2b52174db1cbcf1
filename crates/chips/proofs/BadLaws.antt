-- Row 16 of the sending marks.
use mathlib.Core.Path.{◌≡◌, sym, ap, ◌∙◌}
use Prim.Native.Nat.{ℕ}
use native.Mathlib.Omega.{arith}
use mathlib.Core.Bool.{true, false}
use mathlib.Core.List.{List}
use lib.Dec.{eqb}
use borrow.Author.Tests.{eqb-true}
use Rattle.lists.proofs.TestLaws.{by_test}
use Rattle.window.specs.declared.Refusal.{Refusal}
use Rattle.window.specs.Windows.{first_bad_mark, row16}
use Rattle.window.specs.Plans.{refusal, passes}
use Rattle.chips.specs.Refusals.{row16_or}

-- marks without a bad one leave it to what comes behind them
pub bad_none : (marks : List ℕ) (next : Refusal) → row16 marks ≡ false → next ≡ row16_or marks next
unfolding row16_or
bad_none marks next e = rw e

pub bad_found : (marks : List ℕ) (next : Refusal) → row16 marks ≡ true → refusal 16 0 (first_bad_mark marks) ≡ row16_or marks next
unfolding row16_or
bad_found marks next e = rw e

-- a call that passes has none
pub bad_inv : (marks : List ℕ) (next : Refusal) → passes (row16_or marks next) ≡ true → (row16 marks ≡ false) × (passes next ≡ true)
unfolding row16_or
bad_inv marks next h =
    by_test (row16 marks) (λ t. absurd (let z : eqb 16 0 ≡ true = rw t at h in omega (arith, eqb-true 16 0 z))) (λ t. (t, rw t at h))

-- the row of some marks alone is that of these and others behind them
pub bad_first : (marks : List ℕ) (r next : Refusal) → r ≡ row16_or marks (refusal 0 0 0) → (r.reason ≡ 0 → ⊥) → r ≡ row16_or marks next
unfolding row16_or
bad_first marks r next q z =
    by_test (row16 marks) (λ t. let y : r ≡ refusal 16 0 (first_bad_mark marks) = rw t at q in rw t y)
    (λ t. let y : r ≡ refusal 0 0 0 = rw t at q in absurd (z (ap (λ (x : Refusal). x.reason) y)))

-- marks that alone are not refused leave it to those behind them
pub bad_later : (marks : List ℕ) (r next : Refusal) → r ≡ row16_or marks (refusal 0 0 0) → r.reason ≡ 0 → next ≡ row16_or marks next
unfolding row16_or
bad_later marks r next q z =
    by_test (row16 marks)
    (λ t.
    let y : r ≡ refusal 16 0 (first_bad_mark marks) = rw t at q in
    absurd (let x : ◌≡◌ {A = ℕ} 16 0 = sym (ap (λ (x : Refusal). x.reason) y) ∙ z in omega arith))
    (λ t. rw t)

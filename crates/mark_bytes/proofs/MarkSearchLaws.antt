-- What the searches over marks find, and what a block of marks says.
use mathlib.Core.Path.{◌≡◌, refl, sym, ap, ◌∙◌}
use Prim.Native.Nat.{ℕ, zero, suc, ◌+◌, ◌-◌, ◌≤◌}
use native.Mathlib.Omega.{arith}
use mathlib.Core.Bool.{Bool, true, cond, not}
use mathlib.Core.List.{List, [], ◌∷◌}
use lib.Bits.{bit_and, and_le_l, and_le_r}
use lib.Dec.{eqb, ltb}
use lib.ListN.{length, take, drop, length-drop}
use lib.Seq.{drop-drop, length-take-le}
use borrow.Author.Tests.{le-leb, lt-leb, eqb-true, ne_eqb, ltb-true, ltb-false}
use Rattle.std.specs.List.{fold, position, position_or_len}
use Rattle.std.specs.Option.{unwrap_or}
use Rattle.std.proofs.lemmas.List.Recursion.{is_position_or_len}
use Rattle.std.proofs.lemmas.List.Folds.{fold_stays}
use Rattle.std.proofs.lemmas.List.Sums.{prefix_len-le-length}
use Rattle.lists.proofs.PartLaws.{drop_take}
use Rattle.lists.proofs.TestLaws.{and_both, by_test}
use Rattle.window.specs.Windows.{first_bad_mark}
use Rattle.window.specs.Marks.{is_free}
use Rattle.window.specs.Walks.{unmarked, run}

-- n marks of which none is set are passed
free_first : (n : ℕ) (ms : List ℕ) → n ≤ length ms → is_free (take n ms) ≡ true → n + unmarked (drop n ms) ≡ unmarked ms
free_first zero ms h f = omega arith
free_first (suc n) [] h f = absurd (omega arith)
free_first (suc n) (m ∷ ms) h f =
    let p = and_both (eqb m 0) (is_free (take n ms)) f in
    rw (eqb-true m 0 p.0) (omega (arith, free_first n ms (omega arith) p.1))

-- a block without a mark, up to j, is passed by `skip_free`
pub free_block : (ms : List ℕ) (i n j : ℕ) → i + n ≡ j → j ≤ length ms → is_free (take n (drop i ms)) ≡ true → j + unmarked (drop j ms) ≡ i + unmarked (drop i ms)
free_block ms i n j e h f =
    rw (← e, ← drop-drop n i ms) (omega (arith, free_first n (drop i ms) (omega (arith, length-drop i ms)) f))

-- a run through a part of the marks ends behind it
pub full_end : (ms : List ℕ) (at to : ℕ) → at ≤ to → to ≤ length ms
    → run (take (to - at) (drop at ms)) ≡ length (take (to - at) (drop at ms)) → to ≡ at + run (drop at (take to ms))
full_end ms at to l h e =
    let k = to - at in
    let d : at + k ≡ to = omega arith in
    rw (← d, drop_take at k ms) (omega (arith, e, length-take-le k (drop at ms) (omega (arith, length-drop at ms))))

-- the place that `position` finds, or else the length, is how far the search goes
pub place_found : (p : ℕ → Bool) (ms : List ℕ) → unwrap_or (position p ms) (length ms) ≡ position_or_len p ms
place_found p ms =
    by_test (ltb (position_or_len p ms) (length ms)) (λ t. rw t) (λ t. rw t (omega (arith, ltb-false _ _ t, prefix_len-le-length (λ m. not (p m)) ms)))

-- the first bad mark is the first above 1
pub bad_place : (ms : List ℕ) → position_or_len (ltb 1) ms ≡ first_bad_mark ms
bad_place ms = sym (is_position_or_len first_bad_mark (ltb 1) refl step ms)
  where
    step : (m : ℕ) (ms : List ℕ) → first_bad_mark (m ∷ ms) ≡ cond (ltb 1 m) 0 (1 + first_bad_mark ms)
    step m ms = by_test (ltb 1 m) (λ t. rw (t, lt-leb m 1 (ltb-true 1 m t))) (λ t. rw (t, le-leb m 1 (ltb-false 1 m t)) (omega arith))

-- the first mark that is set stands behind the unmarked ones
pub unmarked_place : (ms : List ℕ) → position_or_len (λ m. not (eqb m 0)) ms ≡ unmarked ms
unmarked_place ms = sym (is_position_or_len unmarked (λ m. not (eqb m 0)) refl step ms)
  where
    step : (m : ℕ) (ms : List ℕ) → unmarked (m ∷ ms) ≡ cond (not (eqb m 0)) 0 (1 + unmarked ms)
    step zero ms = omega arith
    step (suc m) ms = rw (ne_eqb (suc m) 0 (λ e. omega arith))

-- the first mark that is not set stands behind the run
pub run_place : (ms : List ℕ) → position_or_len (λ m. eqb m 0) ms ≡ run ms
run_place ms = sym (is_position_or_len run (λ m. eqb m 0) refl step ms)
  where
    step : (m : ℕ) (ms : List ℕ) → run (m ∷ ms) ≡ cond (eqb m 0) 0 (1 + run ms)
    step zero ms = refl
    step (suc m) ms = rw (ne_eqb (suc m) 0 (λ e. omega arith)) (omega arith)

-- marks that have a bit in common are a run
pub common_bit : (all : ℕ) (ms : List ℕ) → (fold bit_and all ms ≡ 0 → ⊥) → run ms ≡ length ms
common_bit all [] h = refl
common_bit all (zero ∷ ms) h =
    let none : bit_and all 0 ≡ 0 = omega (arith, and_le_r all 0) in
    absurd (h (rw none (fold_stays bit_and 0 (λ x. omega (arith, and_le_l 0 x)) ms)))
common_bit all (suc m ∷ ms) h = ap suc (common_bit (bit_and all (suc m)) ms h)

-- a run in a part, taken before or after what stands before it is dropped
pub run_part : (ms : List ℕ) (at to : ℕ) → at ≤ to → run (take (to - at) (drop at ms)) ≡ run (drop at (take to ms))
run_part ms at to h =
    let d : at + (to - at) ≡ to = omega arith in
    ap run (sym (drop_take at (to - at) ms) ∙ rw d)

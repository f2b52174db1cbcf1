-- What the loops over mark bytes and over packed marks find, as runs of flags, and as row 16. The form is known at each place.
use mathlib.Core.Path.{◌≡◌, refl, sym, ap, ◌∙◌}
use Prim.Native.Nat.{ℕ, zero, suc, ◌+◌, ◌-◌, ◌*◌, ◌≤◌, min}
use native.Mathlib.Nat.{zero-add}
use native.Mathlib.Omega.{arith}
use mathlib.Core.Bool.{true, false}
use mathlib.Core.List.{List, [], ◌∷◌}
use lib.Dec.{eqb}
use lib.ListN.{length, take, drop, length-drop}
use lib.Seq.{take-nil}
use borrow.Author.Tests.{eqb-true, eqb-false, lt-ltb}
use Rattle.lists.proofs.TestLaws.{by_test}
use Rattle.lists.proofs.PartLaws.{drop_take, take_least}
use Rattle.window.specs.Marks.{is_free}
use Rattle.window.specs.Walks.{unmarked, run, run_on}
use Rattle.window.proofs.WalkLaws.{gap_inside}
use Rattle.bits.specs.Bits.{bits, spare, byte_count}
use Rattle.bits.proofs.PackLaws.{length_bits, drop_bits, take_bits}
use Rattle.bits.proofs.SpanLaws.{unmarked_free, unmarked_taken, free, taken}
use Rattle.marks.specs.declared.Form.TheVariants.{Packed}
use Rattle.marks.specs.Forms.{flags, row16_in}

-- ---- runs

-- the next set bit is the next flag that is set
pub next_found : (n : ℕ) (ms : List ℕ) (at r : ℕ) → r ≡ at + unmarked (bits ms at (n - at)) → r ≡ at + unmarked (drop at (flags Packed n ms))
next_found n ms at r q = q ∙ rw (drop_bits ms 0 at n, zero-add at)

-- a run that may have n cells is one among the next n flags
run_take : (n : ℕ) (fs : List ℕ) → run (take n fs) ≡ run_on n fs
run_take n [] = rw (take-nil n)
run_take zero (zero ∷ fs) = refl
run_take zero (suc m ∷ fs) = refl
run_take (suc n) (zero ∷ fs) = refl
run_take (suc n) (suc m ∷ fs) = let e : suc n - 1 ≡ n = omega arith in rw (lt-ltb 0 (suc n) (omega arith), e) (ap suc (run_take n fs))

module _ (n : ℕ) (ms : List ℕ) (at most k r : ℕ) (h : at ≤ n) (few : k ≡ min most (n - at)) where
  -- the run that is found in mark bytes
  pub run_bytes : length ms ≡ n → r ≡ at + run (drop at (take (at + k) ms)) → r ≡ at + run_on most (drop at ms)
  run_bytes e q =
      let l : length (drop at ms) ≡ n - at = length-drop at ms ∙ ap (λ (x : ℕ). x - at) e in
      q ∙ rw (drop_take at k ms, few, ← l, take_least most (drop at ms), run_take most (drop at ms))

  -- the run that is found in packed marks
  pub run_packed : r ≡ at + run (bits ms at (at + k - at)) → r ≡ at + run_on most (drop at (bits ms 0 n))
  run_packed q =
      let d : at + k - at ≡ k = omega arith in
      let l : length (bits ms at (n - at)) ≡ n - at = length_bits ms at (n - at) in
      let own : take most (bits ms at (n - at)) ≡ bits ms at k
      = sym (take_least most (bits ms at (n - at))) ∙ rw (l, ← few) (take_bits ms at k (n - at) (omega arith)) in
      q ∙ rw (d, drop_bits ms 0 at n, zero-add at, ← (run_take most (bits ms at (n - at))), own)

-- cells of packed marks are free where no set bit is found among them
pub free_found : (n : ℕ) (ms : List ℕ) (from to r : ℕ) → from ≤ to → to ≤ n → r ≡ from + unmarked (bits ms from (to - from))
    → eqb r to ≡ is_free (take (to - from) (drop from (bits ms 0 n)))
free_found n ms from to r h k q =
    let e : to ≡ from + (to - from) = omega arith in
    by_test (eqb r to) (λ t. t ∙ sym (free n ms from (to - from) to e k r q (omega (arith, eqb-true r to t))))
    (λ t. let l = eqb-false r to t in
    t ∙ sym (taken n ms from (to - from) to e k r q (omega (arith, l, gap_inside (bits ms from (to - from)), length_bits ms from (to - from)))))

-- ---- row 16 of packed marks

module _ (n : ℕ) (ms : List ℕ) (r : ℕ) (e : length ms ≡ byte_count n) (q : r ≡ n + unmarked (spare n ms)) where
  -- a spare bit is set
  pub spare_set : (r ≡ 8 * length ms → ⊥) → row16_in Packed n ms ≡ true
  spare_set l = rw (unmarked_taken (spare n ms) (omega (arith, l, gap_inside (spare n ms), length_bits ms n (8 * length ms - n))))

  -- none is
  pub spare_clear : r ≡ 8 * length ms → row16_in Packed n ms ≡ false
  spare_clear l = rw (unmarked_free (spare n ms) (omega (arith, length_bits ms n (8 * length ms - n))))

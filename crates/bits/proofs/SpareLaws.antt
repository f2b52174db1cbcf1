-- Spare bits that are cleared: the bits of cells stay.
use mathlib.Core.Path.{◌≡◌, refl, sym, ap, ◌∙◌}
use Prim.Native.Nat.{ℕ, zero, suc, ◌+◌, ◌-◌, ◌*◌, ◌/◌, ◌%◌, ◌^◌, ◌≤◌, ◌<◌, min}
use native.Mathlib.Nat.{zero-add, zero-div}
use native.Mathlib.Omega.{arith}
use mathlib.Core.Bool.{true, cond, ◌&&◌}
use mathlib.Core.List.{List, [], ◌∷◌}
use lib.Bits.{bit_and, and_step, and_shr, and_le_l}
use lib.Dec.{eqb, leb, ltb}
use lib.ListN.{length, get_or, set, length-set, get_or-eq_default}
use lib.Seq.{get_or-set_same, get_or-set_other}
use borrow.Author.Tests.{eqb-true, eqb-false, lt-ltb, le-ltb, le-leb, ltb-true, ltb-false}
use Rattle.lists.proofs.TestLaws.{by_test, and_both}
use Rattle.window.specs.Marks.{is_free}
use Rattle.bits.specs.Bits.{bit, bits, spare, byte_count, pack}
use Rattle.bits.proofs.DigitLaws.{mask_digit_lem}
use Rattle.bits.proofs.PackLaws.{bit_small, length_bits, get_d_bits, Binary, pack_bit, pack_is}

-- marks with the bits of their cells, and no others, are those of the flags
cleared : (n : ℕ) (ms ms' : List ℕ) → ((k : ℕ) → get_or ms' k 0 < 256) → length ms' ≡ byte_count n
    → ((j : ℕ) → j < n → bit ms' j ≡ bit ms j) → ((j : ℕ) → n ≤ j → bit ms' j ≡ 0) → ms' ≡ pack (bits ms 0 n)
cleared n ms ms' bytes e same none =
    pack_is ms' (bits ms 0 n) bytes (rw (length_bits ms 0 n) e)
    (λ j. by_test (ltb j n)
    (λ t. same j (ltb-true j n t) ∙ sym (get_d_bits ms 0 n j (ltb-true j n t) ∙ rw (zero-add j)))
    (λ t. none j (ltb-false j n t) ∙ sym (get_or-eq_default (bits ms 0 n) 0 (omega (arith, length_bits ms 0 n, ltb-false j n t)))))

-- behind the last byte every bit is 0
no_bit : (ms : List ℕ) (j : ℕ) → 8 * length ms ≤ j → bit ms j ≡ 0
unfolding bit
no_bit ms j h = let e : get_or ms (j / 8) 0 ≡ 0 = get_or-eq_default ms 0 (omega arith) in rw (e, zero-div (2 ^ (j % 8)))

-- marks of whole bytes have no spare bits
pub no_spare : (n : ℕ) (ms : List ℕ) → ((k : ℕ) → get_or ms k 0 < 256) → length ms ≡ byte_count n → n % 8 ≡ 0 → ms ≡ pack (bits ms 0 n)
no_spare n ms bytes e w = cleared n ms ms bytes e (λ j h. refl) (λ j h. no_bit ms j (omega arith))

-- of free flags none is set
free_zero : (fs : List ℕ) → is_free fs ≡ true → (j : ℕ) → get_or fs j 0 ≡ 0
free_zero [] h j = refl
free_zero (m ∷ fs) h zero = eqb-true m 0 (and_both (eqb m 0) (is_free fs) h).0
free_zero (m ∷ fs) h (suc j) = free_zero fs (and_both (eqb m 0) (is_free fs) h).1 j

-- marks without a spare bit that is set are those of their flags
pub spare_free : (n : ℕ) (ms : List ℕ) → ((k : ℕ) → get_or ms k 0 < 256) → length ms ≡ byte_count n → is_free (spare n ms) ≡ true → ms ≡ pack (bits ms 0 n)
spare_free n ms bytes e f = cleared n ms ms bytes e (λ j h. refl) none
  where
    none : (j : ℕ) → n ≤ j → bit ms j ≡ 0
    none j h =
        by_test (ltb j (8 * length ms))
        (λ t. let q : n + (j - n) ≡ j = omega arith in
        ap (bit ms) (sym q) ∙ sym (get_d_bits ms n (8 * length ms - n) (j - n) (omega (arith, ltb-true j (8 * length ms) t))) ∙ free_zero (spare n ms) f (j - n))
        (λ t. no_bit ms j (ltb-false j (8 * length ms) t))

-- bits that are all clear are free
clear_free : (ms : List ℕ) (i n : ℕ) → ((j : ℕ) → i ≤ j → bit ms j ≡ 0) → is_free (bits ms i n) ≡ true
clear_free ms i zero h = refl
clear_free ms i (suc n) h = rw (h i (omega arith)) (clear_free ms (suc i) n (λ j k. h j (omega arith)))

-- packed flags leave no spare bit set
pub pack_spare : (fs : List ℕ) → Binary fs → is_free (spare (length fs) (pack fs)) ≡ true
pack_spare fs two =
    clear_free (pack fs) (length fs) (8 * length (pack fs) - length fs) (λ j h. pack_bit fs two j ∙ get_or-eq_default fs 0 (omega arith))

-- a digit of an and is set where both are
and_digit : (a b r : ℕ) → bit_and a b / 2 ^ r % 2 ≡ min (a / 2 ^ r % 2) (b / 2 ^ r % 2)
and_digit a b r = rw (and_shr a b r) (omega (arith, and_step (a / 2 ^ r) (b / 2 ^ r)))

-- the last byte without its spare bits
module _ (n : ℕ) (ms : List ℕ) (bytes : (k : ℕ) → get_or ms k 0 < 256) (e : length ms ≡ byte_count n) (s : n % 8 ≡ 0 → ⊥) where
  abbrev last : ℕ
  last = bit_and (get_or ms (n / 8) 0) (2 ^ (n % 8) - 2 ^ 0)

  inside : n / 8 < length ms
  inside = omega (arith, s)

  other : (j : ℕ) → (j / 8 ≡ n / 8 → ⊥) → bit (set ms (n / 8) last) j ≡ bit ms j
  unfolding bit
  other j q = rw (get_or-set_other ms (n / 8) (j / 8) last 0 q)

  here : (j : ℕ) → j / 8 ≡ n / 8 → bit (set ms (n / 8) last) j ≡ min (bit ms j) (cond (leb 0 (j % 8) && ltb (j % 8) (n % 8)) 1 0)
  unfolding bit
  here j q =
      rw (q, get_or-set_same ms (n / 8) last 0 inside, and_digit (get_or ms (n / 8) 0) (2 ^ (n % 8) - 2 ^ 0) (j % 8))
      (ap (min (get_or ms (n / 8) 0 / 2 ^ (j % 8) % 2)) (mask_digit_lem (n % 8) 0 (j % 8) (omega arith) (omega arith) (omega arith)))

  keeps : (j : ℕ) → j < n → bit (set ms (n / 8) last) j ≡ bit ms j
  keeps j h =
      by_test (eqb (j / 8) (n / 8))
      (λ t. let q : j / 8 ≡ n / 8 = eqb-true (j / 8) (n / 8) t in
      here j q ∙ rw (le-leb 0 (j % 8) (omega arith), lt-ltb (j % 8) (n % 8) (omega arith)) (omega (arith, bit_small ms j)))
      (λ t. other j (eqb-false (j / 8) (n / 8) t))

  clears : (j : ℕ) → n ≤ j → bit (set ms (n / 8) last) j ≡ 0
  clears j h =
      by_test (eqb (j / 8) (n / 8))
      (λ t. let q : j / 8 ≡ n / 8 = eqb-true (j / 8) (n / 8) t in
      here j q ∙ rw (le-leb 0 (j % 8) (omega arith), le-ltb (j % 8) (n % 8) (omega arith)) (omega arith))
      (λ t. other j (eqb-false (j / 8) (n / 8) t) ∙ no_bit ms j (omega (arith, eqb-false (j / 8) (n / 8) t)))

  still_bytes : (k : ℕ) → get_or (set ms (n / 8) last) k 0 < 256
  still_bytes k =
      by_test (eqb k (n / 8))
      (λ t. let q : k ≡ n / 8 = eqb-true k (n / 8) t in rw (q, get_or-set_same ms (n / 8) last 0 inside) (omega (arith, and_le_l (get_or ms (n / 8) 0) (2 ^ (n % 8) - 2 ^ 0), bytes (n / 8))))
      (λ t. rw (get_or-set_other ms (n / 8) k last 0 (eqb-false k (n / 8) t)) (bytes k))

  -- spare bits that are cleared leave the marks of the flags
  pub spare_cleared : set ms (n / 8) last ≡ pack (bits ms 0 n)
  spare_cleared = cleared n ms (set ms (n / 8) last) still_bytes (length-set ms (n / 8) last ∙ e) keeps clears

-- `next_bit`: how far ahead of a cell the next set bit stands, by the rest of the cell's byte.
use mathlib.Core.Path.{◌≡◌, refl, sym, ap, ◌∙◌}
use Prim.Native.Nat.{ℕ, zero, suc, ◌+◌, ◌-◌, ◌*◌, ◌/◌, ◌%◌, ◌^◌, ◌≤◌, ◌<◌, max, min}
use native.Mathlib.Nat.{add-zero, zero-add, suc-add, lt_of_not-le, zero-div}
use native.Mathlib.Omega.{arith}
use mathlib.Core.List.{List, [], ◌∷◌}
use lib.Bits.{bit_xor, differ, xor_lt, xor_zero_r, xor_step, xor_shr}
use lib.Dec.{eqb, ltb, eqb→eq}
use borrow.Author.Tests.{ltb-true, ltb-false}
use lib.ListN.{length, get_or}
use lib.Count.{count_trailing_zeros}
use lib.Pow.{shr-shr, shr_le}
use Rattle.bits.specs.Bits.{bit, bits}
use Rattle.bits.specs.Steps.{flipped}
use Rattle.lists.proofs.TestLaws.{below, by_test}
use Rattle.window.specs.Walks.{unmarked, run}
use Rattle.bits.proofs.PackLaws.{bit_small}
use Rattle.bits.proofs.DigitLaws.{high_digit, trailing_zero, trailing_one}

-- ---- marks that are read with bits flipped

pub flipped_at : (flip : ℕ) (ms : List ℕ) (k : ℕ) → k < length ms → get_or (flipped flip ms) k 0 ≡ bit_xor (get_or ms k 0) flip
flipped_at flip [] k h = absurd (omega arith)
flipped_at flip (m ∷ ms) zero h = refl
flipped_at flip (m ∷ ms) (suc k) h = flipped_at flip ms k (omega arith)

-- a byte that is flipped is a byte
pub flipped_byte : (b flip : ℕ) → b < 256 → flip < 256 → bit_xor b flip < 256
flipped_byte b flip h k = xor_lt 8 b flip h k

-- nothing is flipped
pub flipped_none : (ms : List ℕ) → flipped 0 ms ≡ ms
flipped_none [] = refl
flipped_none (m ∷ ms) = rw (xor_zero_r m) (ap {B = List ℕ} (λ (r : List ℕ). m ∷ r) (flipped_none ms))

-- the digits of 255 below 8 are ones
full_digit : (r : ℕ) → r < 8 → 255 / 2 ^ r % 2 ≡ 1
full_digit r h = eqb→eq _ _ (below (λ x. eqb (255 / 2 ^ x % 2) 1) 8 tt r h)

-- a digit is turned over by a one
turned : (a b : ℕ) → b % 2 ≡ 1 → bit_xor a b % 2 ≡ 1 - a % 2
turned a b e = go (a % 2) (omega arith) (rw e at (xor_step a b))
  where
    go : (d : ℕ) → d ≤ 1 → bit_xor a b ≡ bit_xor (a / 2) (b / 2) * 2 + differ d 1 → bit_xor a b % 2 ≡ 1 - d
    go zero h q = omega arith
    go (suc zero) h q = omega arith
    go (suc (suc d)) h q = absurd (omega arith)

-- the bit of a cell, with all bits turned over
flipped_bit : (ms : List ℕ) (j : ℕ) → j < 8 * length ms → bit (flipped 255 ms) j ≡ 1 - bit ms j
unfolding bit
flipped_bit ms j h =
    rw (flipped_at 255 ms (j / 8) (omega arith), xor_shr (get_or ms (j / 8) 0) 255 (j % 8))
    (turned (get_or ms (j / 8) 0 / 2 ^ (j % 8)) (255 / 2 ^ (j % 8)) (full_digit (j % 8) (omega arith)))

-- where all bits are turned over, the cells before a set bit are those before a clear one
pub run_flipped : (ms : List ℕ) (i n : ℕ) → i + n ≤ 8 * length ms → unmarked (bits (flipped 255 ms) i n) ≡ run (bits ms i n)
run_flipped ms i zero h = refl
run_flipped ms i (suc n) h = rw (flipped_bit ms i (omega arith)) (go (bit ms i) (bit_small ms i) (run_flipped ms (suc i) n (omega arith)))
  where
    go : (b : ℕ) → b ≤ 1 → unmarked (bits (flipped 255 ms) (suc i) n) ≡ run (bits ms (suc i) n)
        → unmarked ((1 - b) ∷ bits (flipped 255 ms) (suc i) n) ≡ run (b ∷ bits ms (suc i) n)
    go zero k e = refl
    go (suc zero) k e = ap suc e
    go (suc (suc b)) k e = absurd (omega arith)

-- ---- gaps in bits

-- k clear cells come before the unmarked behind them
pub clear_run : (ms : List ℕ) (i k n : ℕ) → ((j : ℕ) → i ≤ j → j < i + k → bit ms j ≡ 0) → unmarked (bits ms i (k + n)) ≡ k + unmarked (bits ms (i + k) n)
clear_run ms i zero n h = rw (zero-add n, add-zero i, zero-add (unmarked (bits ms i n)))
clear_run ms i (suc k) n h =
    let e : i + suc k ≡ suc i + k = omega arith in
    rw (suc-add k n, h i (omega arith) (omega arith), e) (omega (arith, clear_run ms (suc i) k n (λ j l m. h j (omega arith) (omega arith))))

-- n clear cells are a unmarked of n
pub all_clear : (ms : List ℕ) (i n : ℕ) → ((j : ℕ) → i ≤ j → j < i + n → bit ms j ≡ 0) → unmarked (bits ms i n) ≡ n
all_clear ms i n h = let e : unmarked (bits ms i (n + 0)) ≡ n + unmarked (bits ms (i + n) 0) = clear_run ms i n 0 h in rw (add-zero n) at e

-- where the cell behind k clear cells is set, they are the unmarked
pub first_set : (ms : List ℕ) (i k n : ℕ) → ((j : ℕ) → i ≤ j → j < i + k → bit ms j ≡ 0) → bit ms (i + k) ≡ 1 → k < n → unmarked (bits ms i n) ≡ k
first_set ms i k n h s l =
    let e : n ≡ k + suc (n - suc k) = omega arith in
    rw e (clear_run ms i k (suc (n - suc k)) h ∙ rw (s, add-zero))

-- ---- the cells of one byte

-- the trailing zeros of what is left of a byte from a bit on lead to a bit of it
pub inside_byte : (b low : ℕ) → b < 256 → (b / 2 ^ low ≡ 0 → ⊥) → low + count_trailing_zeros 8 (b / 2 ^ low) < 8
inside_byte b low byte n =
    let rest : ℕ = b / 2 ^ low in
    let ahead : ℕ = count_trailing_zeros 8 rest in
    lt_of_not-le (λ l. absurd (omega (arith, trailing_one 8 rest (omega (arith, shr_le b low)) n, high_digit 8 b (low + ahead) byte l, shr-shr b low ahead)))

-- the bit of a cell behind i in the same byte, by the rest of the byte from i on
near : (ms : List ℕ) (i j : ℕ) → i ≤ j → j / 8 ≡ i / 8 → bit ms j ≡ get_or ms (i / 8) 0 / 2 ^ (i % 8) / 2 ^ (j - i) % 2
unfolding bit
near ms i j l e =
    let r : j % 8 ≡ i % 8 + (j - i) = omega arith in
    rw (e, r, ← (shr-shr (get_or ms (i / 8) 0) (i % 8) (j - i)))

module _ (ms : List ℕ) (i to b : ℕ) (h : i < to) (e : get_or ms (i / 8) 0 ≡ b) where
  -- the rest of the byte of cell i, from its bit on
  abbrev rest : ℕ
  rest = b / 2 ^ (i % 8)

  rest_bit : (j : ℕ) → i ≤ j → j / 8 ≡ i / 8 → bit ms j ≡ rest / 2 ^ (j - i) % 2
  rest_bit j l q = near ms i j l q ∙ rw e

  -- a rest of zero: the cells of the byte from i on are clear
  clear_rest : rest ≡ 0 → (j : ℕ) → i ≤ j → j < i + (8 - i % 8) → bit ms j ≡ 0
  clear_rest z j l m = rest_bit j l (omega arith) ∙ rw (z, zero-div)

  -- and it is the last byte
  pub clear_last : rest ≡ 0 → to - i ≤ 8 - i % 8 → i + unmarked (bits ms i (to - i)) ≡ to
  clear_last z l = rw (all_clear ms i (to - i) (λ j a b. clear_rest z j a (omega arith))) (omega arith)

  -- or it is not
  pub clear_on : rest ≡ 0 → 8 - i % 8 < to - i
      → i + (8 - i % 8) + unmarked (bits ms (i + (8 - i % 8)) (to - (i + (8 - i % 8)))) ≡ i + unmarked (bits ms i (to - i))
  clear_on z l =
      let q : to - i ≡ 8 - i % 8 + (to - (i + (8 - i % 8))) = omega arith in
      rw q (omega (arith, clear_run ms i (8 - i % 8) (to - (i + (8 - i % 8))) (clear_rest z)))

  -- a rest that is not zero: its trailing zeros lead to the next set bit
  module _ (byte : b < 256) (n : rest ≡ 0 → ⊥) where
    abbrev ahead : ℕ
    ahead = count_trailing_zeros 8 rest

    rest_one : rest / 2 ^ ahead % 2 ≡ 1
    rest_one = trailing_one 8 rest (omega (arith, shr_le b (i % 8))) n

    -- it is in this byte
    inside : i % 8 + ahead < 8
    inside = inside_byte b (i % 8) byte n

    ahead_clear : (j : ℕ) → i ≤ j → j < i + ahead → bit ms j ≡ 0
    ahead_clear j l m = rest_bit j l (omega (arith, inside)) ∙ trailing_zero 8 rest (j - i) (omega arith)

    ahead_set : bit ms (i + ahead) ≡ 1
    ahead_set =
        let q : i + ahead - i ≡ ahead = omega arith in
        rest_bit (i + ahead) (omega arith) (omega (arith, inside)) ∙ rw q rest_one

    -- it stands below the end
    pub set_ahead : ahead < to - i → i + unmarked (bits ms i (to - i)) ≡ i + ahead
    set_ahead l = rw (first_set ms i ahead (to - i) ahead_clear ahead_set l)

    -- or not
    pub set_behind : to - i ≤ ahead → i + unmarked (bits ms i (to - i)) ≡ to
    set_behind l = rw (all_clear ms i (to - i) (λ j a c. ahead_clear j a (omega arith))) (omega arith)

-- ---- the bytes of a search, from that of the cell `from` on

-- at the end nothing is left
at_to : (ms : List ℕ) (i to : ℕ) → i ≡ to → i + unmarked (bits ms i (to - i)) ≡ to
at_to ms i to e = let none : to - i ≡ 0 = omega arith in rw none (omega arith)

-- where the rest of the byte of cell i is zero the search goes on behind it, or ends
step_on : (ms : List ℕ) (i to j b : ℕ) → i ≤ to → get_or ms (i / 8) 0 ≡ b → j ≡ min to (i + (8 - i % 8)) → b / 2 ^ (i % 8) ≡ 0
    → j + unmarked (bits ms j (to - j)) ≡ i + unmarked (bits ms i (to - i))
step_on ms i to j b h e q z =
    by_test (ltb i to)
    (λ s. by_test (ltb (8 - i % 8) (to - i))
    (λ u. let p : j ≡ i + (8 - i % 8) = omega (arith, ltb-true (8 - i % 8) (to - i) u) in rw p (clear_on ms i to b (ltb-true i to s) e z (ltb-true _ _ u)))
    (λ u. let p : j ≡ to = omega (arith, ltb-false (8 - i % 8) (to - i) u) in at_to ms j to p ∙ sym (clear_last ms i to b (ltb-true i to s) e z (ltb-false _ _ u))))
    (λ s. let p : i ≡ to = omega (arith, ltb-false i to s) in let r : j ≡ to = omega arith in at_to ms j to r ∙ sym (at_to ms i to p))

-- and else ends in this byte, or before
step_end : (ms : List ℕ) (i to b : ℕ) → i ≤ to → get_or ms (i / 8) 0 ≡ b → b < 256 → (b / 2 ^ (i % 8) ≡ 0 → ⊥)
    → min to (i + count_trailing_zeros 8 (b / 2 ^ (i % 8))) ≡ i + unmarked (bits ms i (to - i))
step_end ms i to b h e small n =
    let ahead : ℕ = count_trailing_zeros 8 (b / 2 ^ (i % 8)) in
    by_test (ltb i to)
    (λ s. by_test (ltb ahead (to - i))
    (λ u. omega (arith, ltb-true ahead (to - i) u, set_ahead ms i to b (ltb-true i to s) e small n (ltb-true _ _ u)))
    (λ u. omega (arith, ltb-false ahead (to - i) u, set_behind ms i to b (ltb-true i to s) e small n (ltb-false _ _ u))))
    (λ s. let p : i ≡ to = omega (arith, ltb-false i to s) in omega (arith, at_to ms i to p))

module _ (ms : List ℕ) (from to k low b : ℕ) (f : from ≤ to) (g : from / 8 ≤ k) (t : 8 * k < to) (l : low ≡ from - 8 * k) (e : get_or ms k 0 ≡ b) where
  -- the cell that byte k is searched from, and that of the next byte
  abbrev at : ℕ
  at = max from (min to (8 * k))

  abbrev next : ℕ
  next = max from (min to (8 * (k + 1)))

  at_bit : at % 8 ≡ low
  at_bit = omega arith

  at_byte : get_or ms (at / 8) 0 ≡ b
  at_byte = let q : at / 8 ≡ k = omega arith in rw q e

  pub turn_on : b / 2 ^ low ≡ 0 → next + unmarked (bits ms next (to - next)) ≡ at + unmarked (bits ms at (to - at))
  turn_on z = let i : at ≤ to = omega arith in let n : next ≡ min to (at + (8 - at % 8)) = omega arith in step_on ms at to next b i at_byte n (rw at_bit z)

  pub turn_end : b < 256 → (b / 2 ^ low ≡ 0 → ⊥) → min to (8 * k + low + count_trailing_zeros 8 (b / 2 ^ low)) ≡ at + unmarked (bits ms at (to - at))
  turn_end small n =
      let i : at ≤ to = omega arith in
      let q : 8 * k + low ≡ at = omega arith in
      rw q (rw at_bit at (step_end ms at to b i at_byte small (λ z. n (rw at_bit at z))))

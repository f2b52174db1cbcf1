-- Binary digits of a number: x / 2 ^ r % 2 is the digit r.
use mathlib.Core.Path.{◌≡◌, refl}
use Prim.Native.Nat.{ℕ, zero, suc, ◌+◌, ◌-◌, ◌/◌, ◌%◌, ◌^◌, ◌≤◌, ◌<◌, max}
use native.Mathlib.Nat.{two-pow-succ, lt_of_lt_of_le, div-eq_of_lt}
use native.Mathlib.Omega.{arith}
use lib.Count.{count_trailing_zeros, under}
use lib.Pow.{shr-shr, pow_mono}
use mathlib.Core.Bool.{Bool, cond, ◌&&◌}
use lib.Bits.{bit_or, or_step, or_shr}
use lib.Dec.{eqb, leb, ltb, eqb→eq}
use Rattle.lists.proofs.TestLaws.{upto, below}

-- the digit r + 1 of a number is the digit r of its half
pub half_digit : (x r : ℕ) → x / 2 ^ suc r ≡ x / 2 / 2 ^ r
half_digit x r = let e : suc r ≡ 1 + r = omega arith in rw (e, ← (shr-shr x 1 r))

-- a number of k digits has none from k on
pub high_digit : (k x r : ℕ) → x < 2 ^ k → k ≤ r → x / 2 ^ r % 2 ≡ 0
high_digit k x r h l = rw (div-eq_of_lt (lt_of_lt_of_le h (pow_mono l)))

-- below the trailing zeros' number every digit is 0
pub trailing_zero : (k x r : ℕ) → r < count_trailing_zeros k x → x / 2 ^ r % 2 ≡ 0
unfolding count_trailing_zeros
trailing_zero zero x r h = absurd (omega arith)
trailing_zero (suc k) x r h = go (trailing_zero k (x / 2)) (x % 2) refl r h
  where
    go : ((r : ℕ) → r < count_trailing_zeros k (x / 2) → x / 2 / 2 ^ r % 2 ≡ 0) → (d : ℕ) → x % 2 ≡ d → (r : ℕ) → r < under d (count_trailing_zeros k (x / 2)) → x / 2 ^ r % 2 ≡ 0
    go ih zero e zero h = omega arith
    go ih zero e (suc r) h = rw (half_digit x r) (ih r (omega arith))
    go ih (suc d) e r h = absurd (omega arith)

-- and the digit behind them is 1, in a number of k digits that is not 0
pub trailing_one : (k x : ℕ) → x < 2 ^ k → (x ≡ 0 → ⊥) → x / 2 ^ count_trailing_zeros k x % 2 ≡ 1
unfolding count_trailing_zeros
trailing_one zero x h n = absurd (n (omega arith))
trailing_one (suc k) x h n = go (λ m. trailing_one k (x / 2) (omega (arith, two-pow-succ k)) m) (x % 2) refl
  where
    go : ((x / 2 ≡ 0 → ⊥) → x / 2 / 2 ^ count_trailing_zeros k (x / 2) % 2 ≡ 1) → (d : ℕ) → x % 2 ≡ d → x / 2 ^ under d (count_trailing_zeros k (x / 2)) % 2 ≡ 1
    go ih zero e = rw (half_digit x (count_trailing_zeros k (x / 2))) (ih (λ z. n (omega arith)))
    go ih (suc d) e = omega arith

-- ---- digits that are set

-- a digit of an or is set where one of the two is
pub or_digit : (a b r : ℕ) → bit_or a b / 2 ^ r % 2 ≡ max (a / 2 ^ r % 2) (b / 2 ^ r % 2)
or_digit a b r = rw (or_shr a b r) (omega (arith, or_step (a / 2 ^ r) (b / 2 ^ r)))

-- the digit r of 2 ^ high - 2 ^ low
mask_digit : ℕ → ℕ → ℕ → Bool
mask_digit high low r = eqb ((2 ^ high - 2 ^ low) / 2 ^ r % 2) (cond (leb low r && ltb r high) 1 0)

-- it is 1 from low to below high, and 0 elsewhere: computed for every byte
pub mask_digit_lem : (high low r : ℕ) → high ≤ 8 → low ≤ 8 → r < 8 → (2 ^ high - 2 ^ low) / 2 ^ r % 2 ≡ cond (leb low r && ltb r high) 1 0
unfolding mask_digit
mask_digit_lem high low r h l b =
    eqb→eq _ _ (below (mask_digit high low) 8
    (below (λ x. upto (mask_digit high x) 8) 9
    (below (λ y. upto (λ x. upto (mask_digit y x) 8) 9) 9 tt high (omega arith)) low (omega arith)) r b)

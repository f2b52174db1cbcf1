-- Digits and pairs of digits: what is written is read back, and what is read is small.
use mathlib.Core.Path.{◌≡◌, refl, ap₂, ◌∙◌}
use Prim.Native.Nat.{ℕ, zero, suc, ◌+◌, ◌-◌, ◌*◌, ◌/◌, ◌%◌, ◌≤◌, ◌<◌}
use native.Mathlib.Omega.{arith}
use mathlib.Core.Bool.{true, cond}
use mathlib.Core.List.{List, [], ◌∷◌}
use lib.Dec.{leb, eqb, eqb→eq, leb→le, lit<}
use lib.ListN.{length, get_or, take, drop}
use mir.Facts.{and_yes}
use Rattle.hex_digits.specs.Digits.{between, is_hex, is_capital, value, digit, bytes, digits_of, first_bad, DigitsAreCapital}
use Rattle.lists.proofs.ByteLaws.{Bytes}
use Rattle.lists.proofs.TestLaws.{by_test, TTrue, true_T, below}

-- ---- digits

-- the digit that is written for a number below 16 is read as that number
value_digit : (n : ℕ) → n < 16 → value (digit n) ≡ n
unfolding value digit between
value_digit n h = eqb→eq _ _ (below (λ n. eqb (value (digit n)) n) 16 tt n h)

-- what is written for a number below 16 is a hex digit
is_hex_digit : (n : ℕ) → n < 16 → is_hex (digit n) ≡ true
unfolding is_hex digit between
is_hex_digit n h = TTrue {b = is_hex (digit n)} (below (λ n. is_hex (digit n)) 16 tt n h)

-- what is written is a capital
pub capital_digit : DigitsAreCapital
unfolding is_capital digit between
capital_digit n h = TTrue {b = is_capital (digit n)} (below (λ n. is_capital (digit n)) 16 tt n h)

-- what a range gives, or r outside of it, is below 16 where the range's highest value and r are
small_if : (low high off c r : ℕ) → high - off < 16 → r < 16 → cond (between low high c) (c - off) r < 16
unfolding between
small_if low high off c r k h =
    by_test (between low high c)
    (λ e. rw e (let g : c ≤ high = leb→le c high (and_yes (leb low c) (leb c high) (true_T e)).1 in omega arith))
    (λ e. rw e h)

-- a digit's value is below 16, whatever the character
pub value_small : (c : ℕ) → value c < 16
unfolding value
value_small c = small_if 48 57 48 c _ (lit< tt) (small_if 65 70 55 c _ (lit< tt) (small_if 97 102 87 c _ (lit< tt) (lit< tt)))

-- the high digit of a byte is below 16
pub high_small : (b : ℕ) → b < 256 → b / 16 < 16
high_small b h = omega arith

-- the low digit is below 16, whatever the number
pub low_small : (b : ℕ) → b % 16 < 16
low_small b = omega arith

-- ---- pairs of digits

-- pairs of characters stand for bytes, whatever the characters
pub bytes_small : (cs : List ℕ) → Bytes (bytes cs)
bytes_small [] = tt
bytes_small (c ∷ []) = tt
bytes_small (c ∷ d ∷ cs) = (omega (arith, value_small c, value_small d), bytes_small cs)

-- bytes that are written are read back
pub bytes_pairs : (bs : List ℕ) → Bytes bs → bytes (digits_of bs) ≡ bs
bytes_pairs [] h = refl
bytes_pairs (b ∷ bs) h =
    ap₂ {B = List ℕ} (λ (x : ℕ) (r : List ℕ). x ∷ r)
    (ap₂ (λ x y. 16 * x + y) (value_digit (b / 16) (high_small b h.0)) (value_digit (b % 16) (low_small b)) ∙ omega arith)
    (bytes_pairs bs h.1)

-- each byte is written as two digits
pub length_pairs : (bs : List ℕ) → length (digits_of bs) ≡ 2 * length bs
length_pairs [] = refl
length_pairs (b ∷ bs) = omega (arith, length_pairs bs)

-- what is written is all digits
pub first_bad_pairs : (bs : List ℕ) → Bytes bs → first_bad (digits_of bs) ≡ length (digits_of bs)
first_bad_pairs [] h = refl
first_bad_pairs (b ∷ bs) h =
    rw (is_hex_digit (b / 16) (high_small b h.0), is_hex_digit (b % 16) (low_small b), first_bad_pairs bs h.1)

-- ---- parts of digits

-- of digits the first is one, and the others are
pub first_is : (c : ℕ) (cs : List ℕ) → length (c ∷ cs) ≤ first_bad (c ∷ cs) → (is_hex c ≡ true) × (length cs ≤ first_bad cs)
first_is c cs h =
    by_test (is_hex c) (λ e. let k : suc (length cs) ≤ suc (first_bad cs) = rw e at h in (e, omega arith))
    (λ e. absurd (let k : suc (length cs) ≤ 0 = rw e at h in omega arith))

-- each is one
pub digit_in : (cs : List ℕ) (i : ℕ) → length cs ≤ first_bad cs → i < length cs → is_hex (get_or cs i 0) ≡ true
digit_in [] i h l = absurd (omega arith)
digit_in (c ∷ cs) zero h l = (first_is c cs h).0
digit_in (c ∷ cs) (suc i) h l = digit_in cs i (first_is c cs h).1 (omega arith)

-- those behind the first i are digits
digits_drop : (i : ℕ) (cs : List ℕ) → length cs ≤ first_bad cs → length (drop i cs) ≤ first_bad (drop i cs)
digits_drop zero cs h = h
digits_drop (suc i) [] h = h
digits_drop (suc i) (c ∷ cs) h = digits_drop i cs (first_is c cs h).1

-- the first n are digits
digits_take : (n : ℕ) (cs : List ℕ) → length cs ≤ first_bad cs → length (take n cs) ≤ first_bad (take n cs)
digits_take zero cs h = omega arith
digits_take (suc n) [] h = h
digits_take (suc n) (c ∷ cs) h = let f = first_is c cs h in rw f.0 (omega (arith, digits_take n cs f.1))

-- a part of digits is digits
pub digits_part : (n i : ℕ) (cs : List ℕ) → length cs ≤ first_bad cs → length (take n (drop i cs)) ≤ first_bad (take n (drop i cs))
digits_part n i cs h = digits_take n (drop i cs) (digits_drop i cs h)

-- A digit by ranges, the table of digits at each entry, and what a sum of entries tells.
use mathlib.Core.Path.{◌≡◌, refl, sym, ap, ◌∙◌}
use Prim.Native.Nat.{ℕ, zero, suc, ◌+◌, ◌-◌, ◌*◌, ◌/◌, ◌%◌, ◌≤◌, ◌<◌}
use native.Mathlib.Nat.{add-zero, zero-add, add-suc, suc-add, not-suc-le-zero, le_of_suc-le-suc}
use native.Mathlib.Omega.{arith}
use mathlib.Core.Bool.{true, false, and-false, not, ◌||◌}
use mathlib.Core.List.{List, [], ◌∷◌}
use lib.Dec.{T, leb, ltb, eqb, eqb→eq}
use lib.ListN.{length, get_or, drop, length-drop}
use borrow.Author.Tests.{le-leb, lt-leb, lt-ltb}
use Rattle.hex_digits.specs.Digits.{between, is_hex, value, byte_of, bytes, first_bad}
use Rattle.hex_digits.specs.Numbers.{sum}
use Rattle.hex_digits.specs.Tables.{digit_or16, table_from, weight, digit_table, weighed, pair_of, pair_table}
use Rattle.lists.proofs.TestLaws.{by_test, below}
use Rattle.hex_digits.proofs.DigitLaws.{value_small, first_is}
use Rattle.hex_digits.proofs.PairLaws.{pair_split}

-- ---- ranges

-- a character from low to high is in the range
pub inside : (low high c : ℕ) → low ≤ c → c ≤ high → between low high c ≡ true
unfolding between
inside low high c l h = rw (le-leb low c l, le-leb c high h)

-- a character below low is not in the range
pub under : (low high c : ℕ) → c < low → between low high c ≡ false
unfolding between
under low high c l = rw (lt-leb low c l)

-- a character above high is not in the range
pub over : (low high c : ℕ) → high < c → between low high c ≡ false
unfolding between
over low high c l = rw (lt-leb c high l) (and-false (leb low c))

-- for 0 to 9 the value is the character less 48
pub decimal : (c : ℕ) → between 48 57 c ≡ true → c - 48 ≡ digit_or16 c
unfolding digit_or16 is_hex value
decimal c p = rw p

-- for A to F the value is the character less 55
pub capital : (c : ℕ) → between 48 57 c ≡ false → between 65 70 c ≡ true → c - 55 ≡ digit_or16 c
unfolding digit_or16 is_hex value
capital c p q = rw (p, q)

-- for a to f the value is the character less 87
pub letter : (c : ℕ) → between 48 57 c ≡ false → between 65 70 c ≡ false → between 97 102 c ≡ true → c - 87 ≡ digit_or16 c
unfolding digit_or16 is_hex value
letter c p q r = rw (p, q, r)

-- for a character of none of the three ranges it is 16
pub no_digit : (c : ℕ) → between 48 57 c ≡ false → between 65 70 c ≡ false → between 97 102 c ≡ false → 16 ≡ digit_or16 c
unfolding digit_or16 is_hex value
no_digit c p q r = rw (p, q, r)

-- 16 means no digit
pub hex_none : (c : ℕ) → digit_or16 c ≡ 16 → is_hex c ≡ false
unfolding digit_or16
hex_none c h = by_test (is_hex c) (λ e. absurd (let q : value c ≡ 16 = rw e at h in omega (arith, q, value_small c))) (λ e. e)

-- and every other number a digit
pub hex_some : (c : ℕ) → (digit_or16 c ≡ 16 → ⊥) → is_hex c ≡ true
unfolding digit_or16
hex_some c h = by_test (is_hex c) (λ e. e) (λ e. absurd (h (rw e)))

-- ---- digits by arithmetic

-- a digit's value: one computed test over all characters
pub value_by_bits : (c : ℕ) → c < 256 → is_hex c ≡ true → (c % 16 + c / 64 * 9) % 16 ≡ value c
unfolding is_hex value between
value_by_bits c h e =
    let t : T (not (is_hex c) || eqb ((c % 16 + c / 64 * 9) % 16) (value c))
    = below (λ c. not (is_hex c) || eqb ((c % 16 + c / 64 * 9) % 16) (value c)) 256 tt c h in
    eqb→eq ((c % 16 + c / 64 * 9) % 16) (value c) (rw e at t)

-- ---- the table

-- entry k of a table that begins with f at i is f at i + k
table_at : (f : ℕ → ℕ) (i n k : ℕ) → k < n → get_or (table_from f i n) k 0 ≡ f (i + k)
table_at f i zero k h = absurd (not-suc-le-zero h)
table_at f i (suc n) zero h = ap f (sym (add-zero i))
table_at f i (suc n) (suc k) h = table_at f (suc i) n k (le_of_suc-le-suc h) ∙ ap f (suc-add i k ∙ sym (add-suc i k))

-- the table has at c the weight of c
pub weight_at : (c : ℕ) → c < 256 → get_or digit_table c 0 ≡ weight c
unfolding digit_table
weight_at c h = table_at weight 0 256 c h ∙ ap weight (zero-add c)

-- the table of pairs has at b both digits of b
pub pair_at : (b : ℕ) → b < 256 → get_or pair_table b 0 ≡ pair_of b
unfolding pair_table
pair_at b h = table_at pair_of 0 256 b h ∙ ap pair_of (zero-add b)

-- ---- what a weight says

-- a character that is no hex digit has the value 0
value_none : (c : ℕ) → is_hex c ≡ false → value c ≡ 0
unfolding is_hex value
value_none c h =
    by_test (between 48 57 c) (λ e. absurd (never (rw e at h)))
    (λ e. by_test (between 65 70 c) (λ f. absurd (never (rw (e, f) at h)))
    (λ f. by_test (between 97 102 c) (λ g. absurd (never (rw (e, f, g) at h))) (λ g. rw (e, f, g))))
  where
    never : true ≡ false → ⊥
    never q = let z : ◌≡◌ {A = ℕ} 0 1 = cc in omega arith

-- what the entry of a character tells: is it a digit, and what it stands for
pub entry_digit : (c : ℕ) → ltb (digit_or16 c) 16 ≡ is_hex c
unfolding digit_or16
entry_digit c = by_test (is_hex c) (λ e. rw e (lt-ltb (value c) 16 (value_small c))) (λ e. rw e)

pub entry_value : (c : ℕ) → digit_or16 c % 16 ≡ value c
unfolding digit_or16
entry_value c = by_test (is_hex c) (λ e. rw e (omega (arith, value_small c))) (λ e. rw e (sym (value_none c e)))

-- a digit's weight is its value
weight_digit : (c : ℕ) → is_hex c ≡ true → weight c ≡ value c
unfolding weight
weight_digit c e = rw e

-- that of another character is far above
weight_none : (c : ℕ) → is_hex c ≡ false → weight c ≡ 131072
unfolding weight
weight_none c e = rw e

-- no weight is above 131072
pub weight_most : (c : ℕ) → weight c ≤ 131072
weight_most c = by_test (is_hex c) (λ e. omega (arith, weight_digit c e, value_small c)) (λ e. omega (arith, weight_none c e))

-- modulo 131072 a weight is the value
weight_value : (c : ℕ) → weight c % 131072 ≡ value c
weight_value c =
    by_test (is_hex c) (λ e. omega (arith, weight_digit c e, value_small c)) (λ e. omega (arith, weight_none c e, value_none c e))

-- the byte of a pair from its weights: 131072 is a multiple of 256
pub weight_byte : (c d : ℕ) → (16 * weight c + weight d) % 256 ≡ byte_of c d
weight_byte c d = omega (arith, weight_value c, weight_value d, value_small c, value_small d)

-- ---- weighing

-- one pair more: a turn of `weigh`
pub weigh_turn : (cs : List ℕ) (k : ℕ) → 2 * k + 1 < length cs
    → weighed (drop (2 * k) cs) ≡ 16 * weight (get_or cs (2 * k) 0) + weight (get_or cs (2 * k + 1) 0) + weighed (drop (2 * (k + 1)) cs)
weigh_turn cs k h = ap weighed (pair_split cs k h)

-- no whole pair is left
pub weigh_end : (cs : List ℕ) (k : ℕ) → length cs / 2 ≤ k → weighed (drop (2 * k) cs) ≡ 0
weigh_end cs k h = short (drop (2 * k) cs) (omega (arith, length-drop (2 * k) cs))
  where
    short : (ds : List ℕ) → length ds < 2 → weighed ds ≡ 0
    short [] h = refl
    short (d ∷ []) h = refl
    short (d ∷ e ∷ ds) h = absurd (omega arith)

-- a weight below 131072 tells that all characters are digits
pub weigh_tells : (n : ℕ) (cs : List ℕ) → length cs ≡ 2 * n → weighed cs < 131072 → length cs ≤ first_bad cs
weigh_tells n [] l h = omega arith
weigh_tells n (c ∷ []) l h = absurd (omega arith)
weigh_tells zero (c ∷ d ∷ cs) l h = absurd (omega arith)
weigh_tells (suc n) (c ∷ d ∷ cs) l h =
    by_test (is_hex c)
    (λ e. by_test (is_hex d)
    (λ f. rw (e, f) (omega (arith, weigh_tells n cs (omega arith) (omega arith))))
    (λ f. absurd (omega (arith, weight_none d f))))
    (λ e. absurd (omega (arith, weight_none c e)))

-- the weight of digits is the sum of their bytes
pub weigh_sum : (cs : List ℕ) → length cs ≤ first_bad cs → weighed cs ≡ sum (bytes cs)
weigh_sum [] h = refl
weigh_sum (c ∷ []) h = refl
weigh_sum (c ∷ d ∷ cs) h =
    let f = first_is c (d ∷ cs) h in
    let g = first_is d cs f.1 in
    omega (arith, weight_digit c f.0, weight_digit d g.0, weigh_sum cs g.1)

-- Numbers of up to eight digits, as a loop comes to their digits.
use mathlib.Core.Path.{◌≡◌, refl}
use Prim.Native.Nat.{ℕ, zero, suc, ◌+◌, ◌-◌, ◌*◌, ◌^◌, ◌≤◌, ◌<◌}
use native.Mathlib.Nat.{pow-suc, pow-le-pow_right}
use native.Mathlib.Numerals.{add-one}
use native.Mathlib.Omega.{arith}
use mathlib.Core.List.{List, [], ◌∷◌}
use lib.Dec.{lit<}
use lib.ListN.{length, get_or, take, drop, drop_of_length-le}
use lib.Seq.{drop-cons}
use Rattle.hex_digits.specs.Digits.{value}
use Rattle.words.specs.Words.{digits_after}

-- the digits from the k-th on up to the eighth, behind the number a
abbrev pub rest : ℕ → ℕ → List ℕ → ℕ
rest a k cs = digits_after a (take (8 - k) (drop k cs))

-- one digit more: a turn of a loop over them
pub number_turn : (a k : ℕ) (cs : List ℕ) → k < length cs → k < 8 → rest (a * 16 + value (get_or cs k 0)) (k + 1) cs ≡ rest a k cs
number_turn a k cs h l =
    let e : 8 - k ≡ suc (8 - (k + 1)) = omega arith in
    rw (e, drop-cons cs k 0 h, add-one k)

-- nothing follows
none : (a n : ℕ) → digits_after a (take n []) ≡ a
none a zero = refl
none a (suc n) = refl

-- no digit is left
pub number_end : (a k : ℕ) (cs : List ℕ) → length cs ≤ k → rest a k cs ≡ a
number_end a k cs h = rw (drop_of_length-le cs h) (none a (8 - k))

-- eight digits were read
pub number_eight : (a k : ℕ) (cs : List ℕ) → k ≡ 8 → rest a k cs ≡ a
number_eight a k cs e = rw e

-- the number of so many digits and one more: a turn of `number`
pub digits_more : (a k : ℕ) (cs : List ℕ) → k < length cs → digits_after a (take (suc k) cs) ≡ digits_after a (take k cs) * 16 + value (get_or cs k 0)
digits_more a k [] h = absurd (omega arith)
digits_more a zero (c ∷ cs) h = refl
digits_more a (suc k) (c ∷ cs) h = digits_more (a * 16 + value c) k cs (omega arith)

-- a digit more keeps a number of n digits below the next power
pub one_more : (a n d : ℕ) → a < 16 ^ n → d < 16 → a * 16 + d < 16 ^ (n + 1)
one_more a n d h l = rw add-one (omega (arith, pow-suc 16 n))

-- seven digits leave room for one more in 32 bits
pub seven : (a n : ℕ) → a < 16 ^ n → n < 8 → a < 2 ^ 28
seven a n h l = omega (arith, pow-le-pow_right {n = 16} (lit< tt) (let q : n ≤ 7 = omega arith in q))

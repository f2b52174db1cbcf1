-- Numbers in bytes: what is written is read back, and w bytes stand for less than 2 ^ (8 * w).
use mathlib.Core.Path.{◌≡◌, refl, ap, ◌∙◌}
use Prim.Native.Nat.{ℕ, zero, suc, ◌+◌, ◌*◌, ◌/◌, ◌%◌, ◌^◌, ◌≤◌, ◌<◌}
use native.Mathlib.Nat.{div-lt_iff_lt-mul, div-add-mod', mul-suc, mul-le-mul_right}
use native.Mathlib.Numerals.{add-one}
use native.Mathlib.Omega.{arith}
use mathlib.Core.List.{List, [], ◌∷◌, ◌++◌}
use lib.Dec.{lit<}
use lib.ListN.{length, length-append}
use lib.Pow.{pow-add, pow_mono}
use Rattle.hex_digits.specs.Numbers.{number_after, number, in_bytes}
use Rattle.lists.proofs.ByteLaws.{Bytes, BytesAppend}

-- the low w bytes of a number are w bytes
pub length_in_bytes : (w n : ℕ) → length (in_bytes w n) ≡ w
length_in_bytes zero n = refl
length_in_bytes (suc w) n = length-append (in_bytes w (n / 256)) (n % 256 ∷ []) ∙ omega (arith, length_in_bytes w (n / 256))

-- the low w bytes of a number are each below 256
pub in_bytes_small : (w n : ℕ) → Bytes (in_bytes w n)
in_bytes_small zero n = tt
in_bytes_small (suc w) n = BytesAppend (in_bytes w (n / 256)) (n % 256 ∷ []) (in_bytes_small w (n / 256)) (omega arith, tt)

-- one byte more at the end: the number before it times 256, and that byte
number_after_snoc : (k : ℕ) (xs : List ℕ) (b : ℕ) → number_after k (xs ++ (b ∷ [])) ≡ number_after k xs * 256 + b
number_after_snoc k [] b = refl
number_after_snoc k (x ∷ xs) b = number_after_snoc (k * 256 + x) xs b

-- one byte more
eight : (w : ℕ) → 2 ^ (8 * suc w) ≡ 2 ^ (8 * w) * 256
eight w = ap (λ (k : ℕ). 2 ^ k) (mul-suc 8 w) ∙ pow-add 2 (8 * w) 8

-- a number that w bytes hold is read back
pub number_in_bytes : (w n : ℕ) → n < 2 ^ (8 * w) → number (in_bytes w n) ≡ n
number_in_bytes zero n h = omega arith
number_in_bytes (suc w) n h =
    number_after_snoc 0 (in_bytes w (n / 256)) (n % 256)
    ∙ ap (λ (x : ℕ). x * 256 + n % 256) (number_in_bytes w (n / 256) ((div-lt_iff_lt-mul (lit< tt)).1 (rw eight at h)))
    ∙ div-add-mod' n 256

-- n followed by w bytes is below (n + 1) * 2 ^ (8 * w)
number_after_small : (n : ℕ) (bs : List ℕ) → Bytes bs → number_after n bs < suc n * 2 ^ (8 * length bs)
number_after_small n [] h = omega arith
number_after_small n (b ∷ bs) h =
    let l : suc (n * 256 + b) ≤ suc n * 256 = omega (arith, h.0) in
    let p : 2 ^ (8 * suc (length bs)) ≡ 2 ^ (8 * length bs) * 256 = eight (length bs) in
    omega (arith, number_after_small (n * 256 + b) bs h.1, mul-le-mul_right (2 ^ (8 * length bs)) l, ap (λ (x : ℕ). suc n * x) p)

-- at most w bytes stand for less than 2 ^ (8 * w)
pub number_small : (bs : List ℕ) (w : ℕ) → length bs ≤ w → Bytes bs → number bs < 2 ^ (8 * w)
number_small bs w l h = omega (arith, number_after_small 0 bs h, pow_mono {i = 8 * length bs} {j = 8 * w} (omega arith))

-- ---- a number as a loop reads it, byte by byte

-- a number of k bytes with one byte more is one of k + 1 bytes
pub one_more : (a b k : ℕ) → a < 2 ^ (8 * k) → b < 256 → a * 256 + b < 2 ^ (8 * (k + 1))
one_more a b k h l = rw (add-one k, eight k) (omega arith)

-- for the loop of `number_of`: up to three bytes stay below 2 ^ 24
pub three_bytes : (a k : ℕ) → a < 2 ^ (8 * k) → k < 4 → a < 2 ^ 24
three_bytes a k h l = omega (arith, pow_mono {i = 8 * k} {j = 24} (omega arith))

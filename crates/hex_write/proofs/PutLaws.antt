-- Bytes taken one at a time: their digits, their sum, and the bytes of an address.
use mathlib.Core.Path.{◌≡◌, refl, sym, ap, ◌∙◌, subst}
use Prim.Native.Nat.{ℕ, zero, suc, ◌+◌, ◌-◌, ◌*◌, ◌/◌, ◌%◌, ◌≤◌, ◌<◌}
use native.Mathlib.Nat.{add-suc, add-zero}
use native.Mathlib.Numerals.{add-one}
use native.Mathlib.Omega.{arith}
use mathlib.Core.List.{List, [], ◌∷◌, ◌++◌}
use lib.ListN.{length, get_or, take, drop}
use lib.Seq.{length-take-le, take_all, take-suc, drop-append-le, drop-length}
use Rattle.hex_digits.specs.Digits.{digits_of}
use Rattle.hex_digits.specs.Numbers.{in_bytes, sum}
use Rattle.hex_digits.proofs.DigitLaws.{length_pairs}
use Rattle.hex_digits.proofs.NumberLaws.{length_in_bytes}
use Rattle.lists.specs.Lists.{over}
use Rattle.lists.proofs.OverLaws.{over_more}

-- digits of bytes that stand side by side
pub digits_append : (xs ys : List ℕ) → digits_of (xs ++ ys) ≡ digits_of xs ++ digits_of ys
digits_append [] ys = refl
digits_append (x ∷ xs) ys = rw (digits_append xs ys)

-- their sum
pub sum_append : (xs ys : List ℕ) → sum (xs ++ ys) ≡ sum xs + sum ys
sum_append [] ys = omega arith
sum_append (x ∷ xs) ys = omega (arith, sum_append xs ys)

-- one byte more is written: a turn of `put_pairs`
pub pairs_more : (o : List ℕ) (at : ℕ) (bs : List ℕ) (k : ℕ) → at + 2 * length bs ≤ length o → k < length bs
    → over (over o at (digits_of (take k bs))) (at + 2 * k) (digits_of (get_or bs k 0 ∷ [])) ≡ over o at (digits_of (take (k + 1) bs))
pairs_more o at bs k h l =
    let e : length (digits_of (take k bs)) ≡ 2 * k = length_pairs (take k bs) ∙ ap (λ (n : ℕ). 2 * n) (length-take-le k bs (omega arith)) in
    let f : at + length (digits_of (take k bs)) ≤ length o = omega arith in
    rw (add-one, take-suc bs k 0 l, digits_append, ← e) (over_more o at (digits_of (take k bs)) (digits_of (get_or bs k 0 ∷ [])) f)

-- one byte more is added: a turn of `sum_bytes`
pub sum_more : (bs : List ℕ) (k : ℕ) → k < length bs → sum (take k bs) + get_or bs k 0 ≡ sum (take (k + 1) bs)
sum_more bs k l = rw (add-one, take-suc bs k 0 l, sum_append) (omega arith)

-- the low w bytes are the last w of more
pub low_bytes : (k w n : ℕ) → drop k (in_bytes (k + w) n) ≡ in_bytes w n
low_bytes k zero n =
    let e : length (in_bytes k n) ≡ k = length_in_bytes k n in
    rw add-zero (ap (λ (i : ℕ). drop i (in_bytes k n)) (sym e) ∙ drop-length (in_bytes k n))
low_bytes k (suc w) n =
    let l : k ≤ length (in_bytes (k + w) (n / 256)) = omega (arith, length_in_bytes (k + w) (n / 256)) in
    rw (add-suc, drop-append-le k (in_bytes (k + w) (n / 256)) (n % 256 ∷ []) l, low_bytes k w (n / 256))

-- the last w of the four bytes of a number: the address field of any width
pub address_field : (w n : ℕ) → w ≤ 4 → take (4 - (4 - w)) (drop (4 - w) (in_bytes 4 n)) ≡ in_bytes w n
address_field w n h =
    let e : 4 - w + w ≡ 4 = omega arith in
    let d : drop (4 - w) (in_bytes 4 n) ≡ in_bytes w n = subst (λ (k : ℕ). drop (4 - w) (in_bytes k n) ≡ in_bytes w n) e (low_bytes (4 - w) w n) in
    ap (take (4 - (4 - w))) d ∙ take_all (4 - (4 - w)) (in_bytes w n) (omega (arith, length_in_bytes w n))

-- Packed marks: what is packed is read back, and bytes that are read as these flags are the packed ones.
use mathlib.Core.Path.{◌≡◌, refl, sym, ap, ◌∙◌}
use Prim.Native.Nat.{ℕ, zero, suc, ◌+◌, ◌-◌, ◌*◌, ◌/◌, ◌%◌, ◌^◌, ◌≤◌, ◌<◌}
use native.Mathlib.Nat.{add-zero, zero-add, mod-eq_of_lt, zero-div, two-pow-succ}
use native.Mathlib.Omega.{arith}
use mathlib.Core.List.{List, [], ◌∷◌, ◌++◌}
use mathlib.Core.Option.{none, some}
use lib.ListN.{length, get_or, take, drop, replicate, get_or-eq_default}
use lib.Pow.{mod-pow-add}
use lib.Seq.{ext_get_or}
use borrow.Author.Tests.{ltb-true, ltb-false, le-leb}
use lib.Dec.{ltb}
use Rattle.lists.specs.Lists.{over}
use Rattle.lists.proofs.TestLaws.{by_test}
use Rattle.window.specs.Windows.{first_bad_mark}
use Rattle.window.specs.Images.{Image, marks_of}
use Rattle.bits.specs.Bits.{bit, bits, byte_of, pack_from, pack}
use Rattle.bits.proofs.DigitLaws.{half_digit}

-- ---- bits of some cells

-- a bit is 0 or 1
pub bit_small : (ms : List ℕ) (j : ℕ) → bit ms j ≤ 1
unfolding bit
bit_small ms j = omega arith

-- there are n
pub length_bits : (ms : List ℕ) (i n : ℕ) → length (bits ms i n) ≡ n
length_bits ms i zero = refl
length_bits ms i (suc n) = ap suc (length_bits ms (suc i) n)

-- the bit of the cell j behind i
pub get_d_bits : (ms : List ℕ) (i n j : ℕ) → j < n → get_or (bits ms i n) j 0 ≡ bit ms (i + j)
get_d_bits ms i zero j h = absurd (omega arith)
get_d_bits ms i (suc n) zero h = rw (add-zero i)
get_d_bits ms i (suc n) (suc j) h = let e : i + suc j ≡ suc i + j = omega arith in rw e (get_d_bits ms (suc i) n j (omega arith))

-- the bits behind k cells
pub drop_bits : (ms : List ℕ) (i k n : ℕ) → drop k (bits ms i n) ≡ bits ms (i + k) (n - k)
drop_bits ms i zero n = let e : n - 0 ≡ n = omega arith in rw (add-zero i, e)
drop_bits ms i (suc k) zero = let e : 0 - suc k ≡ 0 = omega arith in rw e
drop_bits ms i (suc k) (suc n) =
    let e : i + suc k ≡ suc i + k = omega arith in
    let d : suc n - suc k ≡ n - k = omega arith in
    rw (e, d) (drop_bits ms (suc i) k n)

-- the first k of them
pub take_bits : (ms : List ℕ) (i k n : ℕ) → k ≤ n → take k (bits ms i n) ≡ bits ms i k
take_bits ms i zero n h = refl
take_bits ms i (suc k) zero h = absurd (omega arith)
take_bits ms i (suc k) (suc n) h = ap {B = List ℕ} (λ (r : List ℕ). bit ms i ∷ r) (take_bits ms (suc i) k n (omega arith))

-- ---- flags that are 0 or 1

-- each flag is 0 or 1
abbrev pub Binary : List ℕ → Type 0
Binary fs = (j : ℕ) → get_or fs j 0 ≤ 1

-- bits are
pub binary_bits : (ms : List ℕ) (i n : ℕ) → Binary (bits ms i n)
binary_bits ms i n j =
    by_test (ltb j n) (λ t. rw (get_d_bits ms i n j (ltb-true j n t)) (bit_small ms (i + j)))
    (λ t. let e : get_or (bits ms i n) j 0 ≡ 0 = get_or-eq_default (bits ms i n) 0 (omega (arith, length_bits ms i n, ltb-false j n t)) in omega arith)

-- an image's marks are
pub binary_marks : (img : Image) → Binary (marks_of img)
binary_marks [] j = omega arith
binary_marks (none ∷ img) zero = omega arith
binary_marks (some b ∷ img) zero = omega arith
binary_marks (o ∷ img) (suc j) = binary_marks img j

-- lists of such flags one behind the other are, and parts of one
binary_append : (fs gs : List ℕ) → Binary fs → Binary gs → Binary (fs ++ gs)
binary_append [] gs p q j = q j
binary_append (f ∷ fs) gs p q zero = p 0
binary_append (f ∷ fs) gs p q (suc j) = binary_append fs gs (λ i. p (suc i)) q j

binary_take : (n : ℕ) (fs : List ℕ) → Binary fs → Binary (take n fs)
binary_take zero fs p j = omega arith
binary_take (suc n) [] p j = omega arith
binary_take (suc n) (f ∷ fs) p zero = p 0
binary_take (suc n) (f ∷ fs) p (suc j) = binary_take n fs (λ i. p (suc i)) j

binary_drop : (n : ℕ) (fs : List ℕ) → Binary fs → Binary (drop n fs)
binary_drop zero fs p = p
binary_drop (suc n) [] p = p
binary_drop (suc n) (f ∷ fs) p = binary_drop n fs (λ i. p (suc i))

pub binary_replicate : (n m : ℕ) → m ≤ 1 → Binary (replicate n m)
binary_replicate zero m h j = omega arith
binary_replicate (suc n) m h zero = h
binary_replicate (suc n) m h (suc j) = binary_replicate n m h j

-- flags with others in place of some of them are
pub binary_over : (fs : List ℕ) (i : ℕ) (gs : List ℕ) → Binary fs → Binary gs → Binary (over fs i gs)
unfolding over
binary_over fs i gs p q =
    binary_append (take i fs) (gs ++ drop (i + length gs) fs) (binary_take i fs p) (binary_append gs (drop (i + length gs) fs) q (binary_drop (i + length gs) fs p))

-- no bit is above 1: row 16's search finds nothing
pub bits_good : (ms : List ℕ) (i n : ℕ) → first_bad_mark (bits ms i n) ≡ length (bits ms i n)
bits_good ms i zero = refl
bits_good ms i (suc n) = rw (le-leb (bit ms i) 1 (bit_small ms i)) (ap suc (bits_good ms (suc i) n))

-- ---- one byte

module _ (fs : List ℕ) where
  -- flags that are the digits of b make the lowest digits of b
  byte_is : (i k b : ℕ) → ((r : ℕ) → r < k → get_or fs (i + r) 0 ≡ b / 2 ^ r % 2) → byte_of fs i k ≡ b % 2 ^ k
  unfolding byte_of
  byte_is i zero b h = omega arith
  byte_is i (suc k) b h =
      let ih : byte_of fs (suc i) k ≡ b / 2 % 2 ^ k
      = byte_is (suc i) k (b / 2) (λ r l. let e : suc i + r ≡ i + suc r = omega arith in rw e (h (suc r) (omega arith) ∙ rw (half_digit b r))) in
      let z : get_or fs i 0 ≡ b / 2 ^ 0 % 2 = rw (add-zero i) at (h 0 (omega arith)) in
      let m : b % 2 ^ (k + 1) ≡ b / 2 ^ 1 % 2 ^ k * 2 ^ 1 + b % 2 ^ 1 = mod-pow-add b k 1 in
      let e : suc k ≡ k + 1 = omega arith in
      rw (e, m, ih, z) (omega arith)

  module _ (two : Binary fs) where
    byte_digit : (i k r : ℕ) → r < k → byte_of fs i k / 2 ^ r % 2 ≡ get_or fs (i + r) 0
    unfolding byte_of
    byte_digit i zero r h = absurd (omega arith)
    byte_digit i (suc k) zero h = rw (add-zero i) (omega (arith, two i))
    byte_digit i (suc k) (suc r) h =
        let half : (get_or fs i 0 + 2 * byte_of fs (suc i) k) / 2 ≡ byte_of fs (suc i) k = omega (arith, two i) in
        let e : i + suc r ≡ suc i + r = omega arith in
        rw (half_digit (get_or fs i 0 + 2 * byte_of fs (suc i) k) r, half, e) (byte_digit (suc i) k r (omega arith))

    byte_small : (i k : ℕ) → byte_of fs i k < 2 ^ k
    unfolding byte_of
    byte_small i zero = omega arith
    byte_small i (suc k) = omega (arith, two i, byte_small (suc i) k, two-pow-succ k)

-- ---- all bytes

length_from : (fs : List ℕ) (k n : ℕ) → length (pack_from fs k n) ≡ n
length_from fs k zero = refl
length_from fs k (suc n) = ap suc (length_from fs (suc k) n)

get_d_from : (fs : List ℕ) (k n j : ℕ) → j < n → get_or (pack_from fs k n) j 0 ≡ byte_of fs (8 * (k + j)) 8
get_d_from fs k zero j h = absurd (omega arith)
get_d_from fs k (suc n) zero h = rw (add-zero k)
get_d_from fs k (suc n) (suc j) h = let e : k + suc j ≡ suc k + j = omega arith in rw e (get_d_from fs (suc k) n j (omega arith))

-- Req 08's "cells / 8 rounded up"
pub pack_length : (fs : List ℕ) → length (pack fs) ≡ (length fs + 7) / 8
unfolding pack
pack_length fs = length_from fs 0 ((length fs + 7) / 8)

pack_at : (fs : List ℕ) (k : ℕ) → k < (length fs + 7) / 8 → get_or (pack fs) k 0 ≡ byte_of fs (8 * k) 8
unfolding pack
pack_at fs k h = get_d_from fs 0 ((length fs + 7) / 8) k h ∙ rw (zero-add k)

-- Req 08's "cell i in bit i modulo 8 of byte i / 8", and no other bit is set
pub pack_bit : (fs : List ℕ) → Binary fs → (j : ℕ) → bit (pack fs) j ≡ get_or fs j 0
unfolding bit
pack_bit fs two j =
    by_test (ltb (j / 8) ((length fs + 7) / 8))
    (λ t. let e : 8 * (j / 8) + j % 8 ≡ j = omega arith in
    rw (pack_at fs (j / 8) (ltb-true (j / 8) ((length fs + 7) / 8) t), byte_digit fs two (8 * (j / 8)) 8 (j % 8) (omega arith), e))
    (λ t. let h : (length fs + 7) / 8 ≤ j / 8 = ltb-false (j / 8) ((length fs + 7) / 8) t in
    let out : get_or (pack fs) (j / 8) 0 ≡ 0 = get_or-eq_default (pack fs) 0 (omega (arith, pack_length fs)) in
    rw (out, zero-div (2 ^ (j % 8))) (sym (get_or-eq_default fs 0 (omega arith))))

-- they are bytes
pub pack_bytes : (fs : List ℕ) → Binary fs → (k : ℕ) → get_or (pack fs) k 0 < 256
pack_bytes fs two k =
    by_test (ltb k ((length fs + 7) / 8)) (λ t. rw (pack_at fs k (ltb-true k ((length fs + 7) / 8) t)) (byte_small fs two (8 * k) 8))
    (λ t. let out : get_or (pack fs) k 0 ≡ 0 = get_or-eq_default (pack fs) 0 (omega (arith, pack_length fs, ltb-false k ((length fs + 7) / 8) t)) in omega arith)

-- what is packed is read back
pub bits_pack : (fs : List ℕ) → Binary fs → bits (pack fs) 0 (length fs) ≡ fs
bits_pack fs two =
    ext_get_or 0 (bits (pack fs) 0 (length fs)) fs (length_bits (pack fs) 0 (length fs))
    (λ j h. get_d_bits (pack fs) 0 (length fs) j (rw (length_bits (pack fs) 0 (length fs)) at h) ∙ rw (zero-add j) (pack_bit fs two j))

-- bytes that read as these flags, with all bits behind them zero, are the packed flags
pub pack_is : (ms fs : List ℕ) → ((k : ℕ) → get_or ms k 0 < 256) → length ms ≡ (length fs + 7) / 8 → ((j : ℕ) → bit ms j ≡ get_or fs j 0) → ms ≡ pack fs
unfolding bit
pack_is ms fs bytes e same =
    ext_get_or 0 ms (pack fs) (e ∙ sym (pack_length fs))
    (λ k h. sym (pack_at fs k (omega arith) ∙ byte_is fs (8 * k) 8 (get_or ms k 0) (digit k) ∙ mod-eq_of_lt (bytes k)))
  where
    digit : (k r : ℕ) → r < 8 → get_or fs (8 * k + r) 0 ≡ get_or ms k 0 / 2 ^ r % 2
    digit k r l =
        let q : (8 * k + r) / 8 ≡ k = omega arith in
        let m : (8 * k + r) % 8 ≡ r = omega arith in
        sym (same (8 * k + r)) ∙ rw (q, m)

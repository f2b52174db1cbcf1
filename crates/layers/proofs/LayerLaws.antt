-- Joined marks, one at a time, and in a form.
use mathlib.Core.Path.{◌≡◌, refl, sym, ap, ◌∙◌}
use Prim.Native.Nat.{ℕ, zero, suc, ◌/◌, ◌%◌, ◌^◌, ◌≤◌, ◌<◌, max}
use native.Mathlib.Nat.{le_of_suc-le-suc, not-suc-le-zero}
use native.Mathlib.Omega.{arith}
use mathlib.Core.List.{List, [], ◌∷◌}
use lib.Bits.{bit_or, or_zero_l, or_zero_r, or_self, or_lt}
use lib.ListN.{length, get_or}
use Rattle.bits.specs.Bits.{bit, bits, byte_count, pack}
use Rattle.bits.proofs.DigitLaws.{or_digit}
use Rattle.bits.proofs.PackLaws.{Binary, binary_bits, pack_length, pack_bit, pack_bytes, pack_is}
use Rattle.marks.specs.declared.Form.{Form}
use Rattle.marks.specs.declared.Form.TheVariants.{Bytes, Packed}
use Rattle.marks.specs.Forms.{flags, stored, Tidy}
use Rattle.layers.specs.Layers.{joined}

-- byte i of joined marks
pub joined_at : (marks others : List ℕ) (i : ℕ) → length others ≡ length marks → i < length marks
    → bit_or (get_or marks i 0) (get_or others i 0) ≡ get_or (joined marks others) i 0
joined_at [] others i e h = absurd (not-suc-le-zero h)
joined_at (m ∷ marks) [] i e h = absurd (omega arith)
joined_at (m ∷ marks) (k ∷ others) zero e h = refl
joined_at (m ∷ marks) (k ∷ others) (suc i) e h = joined_at marks others i (omega arith) (le_of_suc-le-suc h)

-- joined marks are as many
pub joined_length : (marks others : List ℕ) → length others ≡ length marks → length (joined marks others) ≡ length marks
joined_length [] others e = e
joined_length (m ∷ marks) [] e = refl
joined_length (m ∷ marks) (k ∷ others) e = ap suc (joined_length marks others (omega arith))

-- ---- joined marks in a form

-- flags that are 0 or 1
small_or : (x y : ℕ) → x ≤ 1 → y ≤ 1 → bit_or x y ≡ max x y
small_or zero y p q = or_zero_l y ∙ omega arith
small_or (suc zero) zero p q = or_zero_r 1
small_or (suc zero) (suc zero) p q = or_self 1
small_or (suc zero) (suc (suc y)) p q = absurd (omega arith)
small_or (suc (suc x)) y p q = absurd (omega arith)

-- joined flags, at any index
joined_any : (fs gs : List ℕ) (j : ℕ) → length gs ≡ length fs → get_or (joined fs gs) j 0 ≡ bit_or (get_or fs j 0) (get_or gs j 0)
joined_any [] gs j e = refl
joined_any (f ∷ fs) [] j e = absurd (omega arith)
joined_any (f ∷ fs) (g ∷ gs) zero e = refl
joined_any (f ∷ fs) (g ∷ gs) (suc j) e = joined_any fs gs j (omega arith)

-- packed flags, joined, are joined flags, packed
module _ (fs gs : List ℕ) (e : length gs ≡ length fs) (p : Binary fs) (q : Binary gs) where
  long : length (pack gs) ≡ length (pack fs)
  long = pack_length gs ∙ ap byte_count e ∙ sym (pack_length fs)

  same : (j : ℕ) → bit (joined (pack fs) (pack gs)) j ≡ get_or (joined fs gs) j 0
  unfolding bit
  same j =
      let a : get_or (pack fs) (j / 8) 0 / 2 ^ (j % 8) % 2 ≡ get_or fs j 0 = pack_bit fs p j in
      let b : get_or (pack gs) (j / 8) 0 / 2 ^ (j % 8) % 2 ≡ get_or gs j 0 = pack_bit gs q j in
      rw (joined_any (pack fs) (pack gs) (j / 8) long, or_digit (get_or (pack fs) (j / 8) 0) (get_or (pack gs) (j / 8) 0) (j % 8), a, b)
      (sym (joined_any fs gs j e ∙ small_or (get_or fs j 0) (get_or gs j 0) (p j) (q j)))

  joined_pack : joined (pack fs) (pack gs) ≡ pack (joined fs gs)
  joined_pack =
      pack_is (joined (pack fs) (pack gs)) (joined fs gs)
      (λ k. rw (joined_any (pack fs) (pack gs) k long) (or_lt 8 (get_or (pack fs) k 0) (get_or (pack gs) k 0) (pack_bytes fs p k) (pack_bytes gs q k)))
      (joined_length (pack fs) (pack gs) long ∙ pack_length fs ∙ ap byte_count (sym (joined_length fs gs e))) same

-- tidy marks, joined, are those of their flags, joined
pub joined_stored : (form : Form) (n : ℕ) (ms os : List ℕ) → Tidy form n ms → Tidy form n os
    → joined ms os ≡ stored form (joined (flags form n ms) (flags form n os))
joined_stored Bytes n ms os t u = refl
joined_stored Packed n ms os t u =
    (λ i. joined (t.1 i) (u.1 i)) ∙ joined_pack (bits ms 0 n) (bits os 0 n) (u.0 ∙ sym t.0) (binary_bits ms 0 n) (binary_bits os 0 n)

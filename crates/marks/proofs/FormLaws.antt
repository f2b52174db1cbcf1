-- Marks in a form: what is stored is read back; cleared marks; marks that show an image; tidy marks; row 16.
use mathlib.Core.Path.{◌≡◌, refl, sym, ap, ◌∙◌}
use Prim.Native.Nat.{ℕ, zero, suc, ◌/◌, ◌%◌, ◌^◌, ◌≤◌, ◌<◌}
use native.Mathlib.Nat.{zero-div}
use native.Mathlib.Omega.{arith}
use mathlib.Core.Bool.{true, false}
use mathlib.Core.List.{List, ◌∷◌}
use lib.ListN.{length, get_or, replicate, length-map, length-replicate}
use borrow.Author.Tests.{le-ltb, not-false}
use Rattle.lists.proofs.TestLaws.{by_test}
use Rattle.window.specs.Windows.{first_bad_mark, row16}
use Rattle.window.specs.Images.{Image, mark, marks_of}
use Rattle.window.specs.Marks.{is_free}
use Rattle.bits.specs.Bits.{bit, bits, spare, byte_count, pack}
use Rattle.bits.proofs.PackLaws.{length_bits, Binary, binary_bits, binary_marks, bits_good, pack_length, bits_pack, pack_is}
use Rattle.bits.proofs.SpareLaws.{spare_free, pack_spare}
use Rattle.marks.specs.declared.Form.{Form}
use Rattle.marks.specs.declared.Form.TheVariants.{Bytes, Packed}
use Rattle.std.specs.Prelude.{Some, None}
use Rattle.marks.specs.Forms.{flags, mark_bytes, stored, Tidy, marks_in, row16_in, bad_at, bad_mark}

-- ---- what is stored is read back

-- flags that are 0 or 1 and are stored in a form are those that the form's marks say
pub flags_stored : (form : Form) (fs : List ℕ) → Binary fs → flags form (length fs) (stored form fs) ≡ fs
flags_stored Bytes fs two = refl
flags_stored Packed fs two = bits_pack fs two

-- what is stored is as long as row 1 asks for
pub length_stored : (form : Form) (fs : List ℕ) → length (stored form fs) ≡ mark_bytes form (length fs)
length_stored Bytes fs = refl
length_stored Packed fs = pack_length fs

-- marks take no more bytes than there are cells
pub mark_bytes_few : (form : Form) (n : ℕ) → mark_bytes form n ≤ n
mark_bytes_few Bytes n = omega arith
mark_bytes_few Packed n = omega arith

-- marks of the length that row 1 asks for say something of each cell
pub flags_length : (form : Form) (n : ℕ) (ms : List ℕ) → length ms ≡ mark_bytes form n → length (flags form n ms) ≡ n
flags_length Bytes n ms e = e
flags_length Packed n ms e = length_bits ms 0 n

-- how many bytes marks of that length are, by the form
pub bytes_long : (form : Form) (n : ℕ) (ms : List ℕ) → length ms ≡ mark_bytes form n → form ≡ Bytes → length ms ≡ n
bytes_long form n ms e told = e ∙ ap (λ (f : Form). mark_bytes f n) told

pub packed_long : (form : Form) (n : ℕ) (ms : List ℕ) → length ms ≡ mark_bytes form n → form ≡ Packed → length ms ≡ byte_count n
packed_long form n ms e told = e ∙ ap (λ (f : Form). mark_bytes f n) told

-- ---- cleared marks

-- of zeros each is 0
get_d_zeros : (n j : ℕ) → get_or (replicate {A = ℕ} n 0) j 0 ≡ 0
get_d_zeros zero j = refl
get_d_zeros (suc n) zero = refl
get_d_zeros (suc n) (suc j) = get_d_zeros n j

bit_zeros : (n j : ℕ) → bit (replicate n 0) j ≡ 0
unfolding bit
bit_zeros n j = rw (get_d_zeros n (j / 8), zero-div (2 ^ (j % 8)))

-- marks that are all zero, as many as a form takes, say that no cell was addressed
pub stored_clear : (form : Form) (n : ℕ) → replicate (mark_bytes form n) 0 ≡ stored form (replicate n 0)
stored_clear Bytes n = refl
stored_clear Packed n =
    pack_is (replicate (byte_count n) 0) (replicate n 0) (λ k. rw (get_d_zeros (byte_count n) k) (omega arith))
    (length-replicate (byte_count n) 0 ∙ ap byte_count (sym (length-replicate n 0))) (λ j. bit_zeros (byte_count n) j ∙ sym (get_d_zeros n j))

bits_zeros : (k i n : ℕ) → bits (replicate k 0) i n ≡ replicate n 0
bits_zeros k i zero = refl
bits_zeros k i (suc n) = rw (bit_zeros k i) (ap {B = List ℕ} (λ (r : List ℕ). 0 ∷ r) (bits_zeros k (suc i) n))

-- and that is what they are read as
pub flags_clear : (form : Form) (n : ℕ) → flags form n (replicate (mark_bytes form n) 0) ≡ replicate n 0
flags_clear Bytes n = refl
flags_clear Packed n = bits_zeros (byte_count n) 0 n

-- ---- tidy marks

-- tidy marks have the length that row 1 asks for
pub tidy_length : (form : Form) (n : ℕ) (ms : List ℕ) → Tidy form n ms → length ms ≡ mark_bytes form n
tidy_length form n ms t = ap length t.1 ∙ length_stored form (flags form n ms) ∙ ap (mark_bytes form) t.0

-- mark bytes of that length are tidy, whatever they are
pub tidy_bytes : (n : ℕ) (ms : List ℕ) → length ms ≡ n → Tidy Bytes n ms
tidy_bytes n ms e = (e, refl)

-- clearing spare bits changes no flag
pub flags_tidied : (form : Form) (n : ℕ) (ms : List ℕ) → flags form n (stored form (flags form n ms)) ≡ flags form n ms
flags_tidied Bytes n ms = refl
flags_tidied Packed n ms =
    ap (bits (pack (bits ms 0 n)) 0) (sym (length_bits ms 0 n)) ∙ bits_pack (bits ms 0 n) (binary_bits ms 0 n)

-- marks whose spare bits were cleared are tidy
pub tidied : (form : Form) (n : ℕ) (ms : List ℕ) → length ms ≡ mark_bytes form n → Tidy form n (stored form (flags form n ms))
tidied form n ms e =
    let same = flags_tidied form n ms in (ap length same ∙ flags_length form n ms e, ap (stored form) (sym same))

-- ---- marks that show an image

module _ (form : Form) (img : Image) (n : ℕ) (long : length img ≡ n) (ms : List ℕ) (e : ms ≡ marks_in form img) where
  -- their flags are the image's
  pub flags_are : flags form n ms ≡ marks_of img
  flags_are =
      ap (flags form n) e ∙ ap (λ (k : ℕ). flags form k (marks_in form img)) (sym (length-map img mark ∙ long))
      ∙ flags_stored form (marks_of img) (binary_marks img)

  -- they are tidy
  pub image_tidy : Tidy form n ms
  image_tidy = (ap length flags_are ∙ length-map img mark ∙ long, e ∙ ap (stored form) (sym flags_are))

-- ---- row 16, as `first_bad` answers

module _ (form : Form) (n : ℕ) (ms : List ℕ) where
  -- it applies, at its place
  pub bad_at_lem : (place : ℕ) → Some place ≡ bad_mark form n ms → (row16_in form n ms ≡ true) × (place ≡ bad_at form n ms)
  bad_at_lem place q =
      by_test (row16_in form n ms) (λ t. let p : Some place ≡ Some (bad_at form n ms) = q ∙ rw t in (t, cc))
      (λ t. absurd (let p : Some place ≡ None = q ∙ rw t in let z : ◌≡◌ {A = ℕ} 0 1 = cc in omega arith))

  -- it does not apply
  pub no_bad : None ≡ bad_mark form n ms → row16_in form n ms ≡ false
  no_bad q =
      by_test (row16_in form n ms)
      (λ t. absurd (let p : None ≡ Some (bad_at form n ms) = q ∙ rw t in let z : ◌≡◌ {A = ℕ} 0 1 = cc in omega arith)) (λ t. t)

-- where it does not apply, no flag is above 1
pub flags_good : (form : Form) (n : ℕ) (ms : List ℕ) → row16_in form n ms ≡ false → row16 (flags form n ms) ≡ false
unfolding row16
flags_good Bytes n ms e = e
flags_good Packed n ms e = le-ltb (first_bad_mark (bits ms 0 n)) (length (bits ms 0 n)) (omega (arith, bits_good ms 0 n))

-- and marks of the length that row 1 asks for are tidy
pub clean_tidy : (form : Form) (n : ℕ) (ms : List ℕ) → ((k : ℕ) → get_or ms k 0 < 256) → length ms ≡ mark_bytes form n → row16_in form n ms ≡ false
    → Tidy form n ms
clean_tidy Bytes n ms bytes e f = tidy_bytes n ms e
clean_tidy Packed n ms bytes e f = (length_bits ms 0 n, spare_free n ms bytes e (not-false (is_free (spare n ms)) f))

-- row 16 does not apply to packed flags
pub pack_clean : (fs : List ℕ) (n : ℕ) → length fs ≡ n → Binary fs → row16_in Packed n (pack fs) ≡ false
pack_clean fs n e two = ap (λ (m : ℕ). row16_in Packed m (pack fs)) (sym e) ∙ rw (pack_spare fs two)

-- nor to the packed marks of an image
pub image_clean : (img : Image) (n : ℕ) → length img ≡ n → row16_in Packed n (marks_in Packed img) ≡ false
image_clean img n long = pack_clean (marks_of img) n (length-map img mark ∙ long) (binary_marks img)

-- A record's line: written piece by piece, and as a record of each kind.
use mathlib.Core.Path.{◌≡◌, refl, sym, ap, ◌∙◌}
use Prim.Native.Nat.{ℕ, ◌+◌, ◌*◌, ◌-◌, ◌%◌, ◌≤◌}
use native.Mathlib.Omega.{arith}
use mathlib.Core.List.{List, [], ◌∷◌, ◌++◌, append_assoc}
use lib.ListN.{length, length-append}
use Rattle.hex_digits.specs.Digits.{digits_of}
use Rattle.hex_digits.specs.Numbers.{in_bytes, sum}
use Rattle.hex_digits.proofs.DigitLaws.{length_pairs}
use Rattle.hex_digits.proofs.NumberLaws.{length_in_bytes}
use Rattle.lists.specs.Lists.{over}
use Rattle.srec.specs.Kinds.{Kind, type_of, width}
use Rattle.srec.specs.Reading.{checksum}
use Rattle.srec.specs.Writing.{summed, record_with, record_text}
use Rattle.srec.specs.Canonical.{line}
use Rattle.srec_encode.specs.Records.{line_with, line_of}
use Rattle.lists.proofs.OverLaws.{over_next, over_all}
use Rattle.hex_write.proofs.PutLaws.{digits_append, sum_append}

-- the line that numbers describe is the record of the kind that has them, and LF
pub line_text : (k : Kind) (a : ℕ) (ds : List ℕ) → line_of (type_of k) (width k) a ds ≡ record_text k a ds ++ (10 ∷ [])
unfolding line_of line_with
line_text k a ds = refl

-- a line is put before the rest
pub line_before : (k : Kind) (a : ℕ) (ds rest : List ℕ) → line k a ds rest ≡ line_of (type_of k) (width k) a ds ++ rest
unfolding line
line_before k a ds rest = sym (ap (λ (l : List ℕ). l ++ rest) (line_text k a ds) ∙ append_assoc (record_text k a ds) (10 ∷ []) rest)

-- the length, for the address bytes
length_with : (kind : ℕ) (address ds : List ℕ) → length (line_with kind address ds) ≡ 7 + 2 * length address + 2 * length ds
unfolding line_with record_with summed
length_with kind address ds = simp (length-append, length_pairs) (omega arith)

-- 7 characters, and two for each byte of address and data
pub length_line : (kind w a : ℕ) (ds : List ℕ) → length (line_of kind w a ds) ≡ 7 + 2 * w + 2 * length ds
unfolding line_of
length_line kind w a ds = length_with kind (in_bytes w a) ds ∙ rw (length_in_bytes w a)

-- the sums add up to the checksum: the return of `check_byte`
pub checksum_parts : (count : ℕ) (address ds : List ℕ) → 255 - (count + sum address + sum ds) % 256 ≡ checksum (count ∷ address ++ ds)
unfolding checksum
checksum_parts count address ds = rw (sum_append address ds) (omega arith)

-- ---- a line written piece by piece

module _ (o : List ℕ) (kind : ℕ) (address ds : List ℕ) (h : length o ≡ 7 + 2 * length address + 2 * length ds) where
  -- the count
  abbrev count : ℕ
  count = length address + length ds + 1

  -- the checksum
  abbrev check : ℕ
  check = checksum (summed address ds)

  -- what is written before the address
  abbrev before_address : List ℕ
  before_address = 83 ∷ kind ∷ digits_of (count ∷ [])

  -- what is written before the data
  abbrev before_data : List ℕ
  before_data = before_address ++ digits_of address

  -- what is written before the checksum
  abbrev before_check : List ℕ
  before_check = before_data ++ digits_of ds

  -- what is written last
  abbrev after_data : List ℕ
  after_data = digits_of (check ∷ []) ++ (10 ∷ [])

  -- the place of the data
  length_data : length before_data ≡ 4 + 2 * length address
  length_data = omega (arith, length_pairs address)

  -- the place of the checksum
  length_check : length before_check ≡ 4 + 2 * length address + 2 * length ds
  length_check = length-append before_data (digits_of ds) ∙ omega (arith, length_data, length_pairs ds)

  -- all pieces together
  pieces : before_check ++ after_data ≡ line_with kind address ds
  unfolding line_with record_with summed
  pieces = rw (digits_append (address ++ ds) (check ∷ []), digits_append address ds) (sym (append_assoc before_check (digits_of (check ∷ [])) (10 ∷ [])))

  -- the output after all pieces
  abbrev stored : List ℕ
  stored =
      over (over (over (over o 0 before_address) 4 (digits_of address)) (4 + 2 * length address) (digits_of ds))
      (4 + 2 * length address + 2 * length ds) after_data

  -- they leave the line
  line_stored : stored ≡ line_with kind address ds
  line_stored =
      rw (
        over_next o 0 before_address (digits_of address) 4 refl (omega (arith, h)),
        over_next o 0 before_data (digits_of ds) (4 + 2 * length address) (omega (arith, length_data)) (omega (arith, h)),
        over_next o 0 before_check after_data (4 + 2 * length address + 2 * length ds) (omega (arith, length_check)) (omega (arith, h)),
        over_all o (before_check ++ after_data) (ap length pieces ∙ length_with kind address ds ∙ sym h),
      )
      pieces

  -- piece by piece: the return of `put_fields` and of `put_row_fields`
  pub line_written : (o₁ o₂ o₃ o₄ : List ℕ) (c : ℕ) → o₁ ≡ over o 0 before_address → o₂ ≡ over o₁ 4 (digits_of address)
      → o₃ ≡ over o₂ (4 + 2 * length address) (digits_of ds) → c ≡ check
      → o₄ ≡ over o₃ (4 + 2 * length address + 2 * length ds) (digits_of (c ∷ []) ++ (10 ∷ [])) → o₄ ≡ line_with kind address ds
  line_written o₁ o₂ o₃ o₄ c head address-put data-put sum tail = rw (tail, data-put, address-put, head, sum) line_stored

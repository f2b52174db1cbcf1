-- A line of a tape: its check, its length, and the line written piece by piece.
use mathlib.Core.Path.{◌≡◌, refl, sym, ap, ◌∙◌}
use Prim.Native.Nat.{ℕ, ◌+◌, ◌*◌, ◌/◌, ◌%◌}
use native.Mathlib.Omega.{arith}
use mathlib.Core.List.{List, [], ◌∷◌, ◌++◌, append_assoc}
use lib.ListN.{length, set, length-append}
use Rattle.lists.specs.Lists.{over}
use Rattle.lists.proofs.OverLaws.{over_one, over_next, over_store, over_all}
use Rattle.hex_digits.specs.Digits.{digits_of}
use Rattle.hex_digits.specs.Numbers.{in_bytes, sum}
use Rattle.hex_digits.proofs.DigitLaws.{length_pairs}
use Rattle.hex_digits.proofs.NumberLaws.{length_in_bytes}
use Rattle.hex_write.proofs.PutLaws.{digits_append, sum_append}
use Rattle.tape.specs.declared.Edition.{Edition}
use Rattle.tape.specs.Reading.{address_in}
use Rattle.tape.specs.Judging.{check_by, check_of}
use Rattle.tape.specs.Canonical.{fields, line_text, line}
use Rattle.tape_encode.specs.Lines.{line_with}

-- ---- the check

-- what `check_of` is given is that of what the check is about: the length, the low two bytes of the address, and the sum
pub check_given : (edition : Edition) (a : ℕ) (ds : List ℕ) (total : ℕ) → total ≡ length ds + sum (in_bytes 2 a) + sum ds
    → check_by edition (length ds) (a % 65536) total ≡ check_of edition (fields a ds)
unfolding check_of fields address_in
check_given edition a ds total e =
    let address : a % 65536 ≡ (0 * 256 + a / 256 % 256) * 256 + a % 256 = omega arith in
    let all : total ≡ length ds + sum (in_bytes 2 a ++ ds) = omega (arith, e, sum_append (in_bytes 2 a) ds) in
    (λ i. check_by edition (length ds) (address i) (all i))

-- ---- the line

-- with the two bytes of an address and the right check it is the line of the tape
pub line_with_lem : (edition : Edition) (a : ℕ) (ds : List ℕ) → line_with (in_bytes 2 a) ds (in_bytes 2 (check_of edition (fields a ds))) ≡ line edition a ds []
unfolding line_with line line_text fields
line_with_lem edition a ds = refl

-- 13 characters, and two for each data byte
length_with : (address ds check : List ℕ) → length address ≡ 2 → length check ≡ 2 → length (line_with address ds check) ≡ 13 + 2 * length ds
unfolding line_with
length_with address ds check h k = simp (length-append, length_pairs) (omega (arith, h, k))

pub length_line : (edition : Edition) (a : ℕ) (ds : List ℕ) → length (line edition a ds []) ≡ 13 + 2 * length ds
length_line edition a ds =
    sym (ap length (line_with_lem edition a ds))
    ∙ length_with (in_bytes 2 a) ds _ (length_in_bytes 2 a) (length_in_bytes 2 (check_of edition (fields a ds)))

-- a line is put before the rest
pub line_before : (edition : Edition) (a : ℕ) (ds rest : List ℕ) → line edition a ds rest ≡ line edition a ds [] ++ rest
unfolding line
line_before edition a ds rest = sym (append_assoc (line_text edition a ds) (13 ∷ 10 ∷ []) rest)

-- ---- a line written piece by piece

module _ (o address ds check : List ℕ) (h : length o ≡ 13 + 2 * length ds) (two : length address ≡ 2) (short : length check ≡ 2) where
  -- what is written before the address
  abbrev before_address : List ℕ
  before_address = 59 ∷ digits_of (length ds ∷ [])

  -- what is written before the data
  abbrev before_data : List ℕ
  before_data = before_address ++ digits_of address

  -- what is written before the check
  abbrev before_check : List ℕ
  before_check = before_data ++ digits_of ds

  -- what is written before CR LF
  abbrev before_end : List ℕ
  before_end = before_check ++ digits_of check

  -- the place of the data
  length_data : length before_data ≡ 7
  length_data = omega (arith, length_pairs address, two)

  -- the place of the check
  length_check : length before_check ≡ 7 + 2 * length ds
  length_check = length-append before_data (digits_of ds) ∙ omega (arith, length_data, length_pairs ds)

  -- the place of CR
  length_end : length before_end ≡ 7 + 2 * length ds + 4
  length_end = length-append before_check (digits_of check) ∙ omega (arith, length_check, length_pairs check, short)

  -- all pieces together
  pieces : before_end ++ (13 ∷ 10 ∷ []) ≡ line_with address ds check
  unfolding line_with
  pieces = rw (digits_append (address ++ ds) check, digits_append address ds)

  -- the output after each piece, and the last two characters: the return of `put_fields`
  pub line_stored : (o₁ o₂ o₃ o₄ : List ℕ) → o₁ ≡ over (set o 0 59) 1 (digits_of (length ds ∷ [])) → o₂ ≡ over o₁ 3 (digits_of address)
      → o₃ ≡ over o₂ 7 (digits_of ds) → o₄ ≡ over o₃ (7 + 2 * length ds) (digits_of check)
      → set (set o₄ (7 + 2 * length ds + 4) 13) (7 + 2 * length ds + 5) 10 ≡ line_with address ds check
  line_stored o₁ o₂ o₃ o₄ p q r t =
      rw (
        t,
        r,
        q,
        p,
        over_one o 0 59 (omega (arith, h)),
        over_next o 0 (59 ∷ []) (digits_of (length ds ∷ [])) 1 refl (omega (arith, h)),
        over_next o 0 before_address (digits_of address) 3 refl (omega (arith, h)),
        over_next o 0 before_data (digits_of ds) 7 (omega (arith, length_data)) (omega (arith, h)),
        over_next o 0 before_check (digits_of check) (7 + 2 * length ds) (omega (arith, length_check)) (omega (arith, h)),
        over_store o 0 before_end 13 (7 + 2 * length ds + 4) (omega (arith, length_end)) (omega (arith, h)),
        over_store o 0 (before_end ++ (13 ∷ [])) 10 (7 + 2 * length ds + 5)
            (omega (arith, length-append before_end (13 ∷ []), length_end)) (omega (arith, h)),
        append_assoc before_end (13 ∷ []) (10 ∷ []),
        over_all o (before_end ++ (13 ∷ 10 ∷ [])) (ap length pieces ∙ length_with address ds check two short ∙ sym h),
      )
      pieces

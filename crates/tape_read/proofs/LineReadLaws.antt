-- Rows 3 to 6 by the characters of a line: one law for each answer of `read_line`; row 7 by the check that it has.
use mathlib.Core.Path.{◌≡◌, sym, ap, ◌∙◌}
use Prim.Native.Nat.{ℕ, ◌+◌, ◌-◌, ◌*◌, ◌≤◌, ◌<◌}
use native.Mathlib.Nat.{add-zero}
use native.Mathlib.Omega.{arith}
use mathlib.Core.Bool.{false}
use mathlib.Core.List.{List}
use lib.ListN.{length, get_or, drop, length-drop}
use borrow.Author.Tests.{eq-eqb, ne_eqb, lt-ltb, le-ltb}
use Rattle.hex_digits.specs.Digits.{first_bad}
use Rattle.tape.specs.declared.Edition.{Edition}
use Rattle.tape.specs.Reading.{fault, length_in, address_in, covered, check_in, row3, row4, row5, row6, read}
use Rattle.tape.specs.Judging.{check_of, row7}
use Rattle.tape_read.specs.Answers.{as_line}
use Rattle.tape_read.proofs.LineFieldLaws.{good_line, bad_line, bs, LineGot, line_is}

-- a refusal at the line's first character
at_start : (place : ℕ) (chars : List ℕ) (reason : ℕ) → fault reason 0 ≡ read chars → bad_line reason place ≡ as_line place (read chars)
at_start place chars reason e = ap (bad_line reason) (sym (add-zero place)) ∙ ap (as_line place) e

module _ (place : ℕ) (chars : List ℕ) where
  -- the line is too long
  pub row_3 : 521 < length chars → bad_line 3 place ≡ as_line place (read chars)
  unfolding read row3
  row_3 h = at_start place chars 3 (rw (lt-ltb 521 (length chars) h))

  -- it has fewer than 3 characters
  pub row_4_short : length chars ≤ 521 → length chars < 3 → bad_line 4 place ≡ as_line place (read chars)
  unfolding read row3 row4
  row_4_short short h = at_start place chars 4 (rw (le-ltb 521 (length chars) short, lt-ltb (length chars) 3 h))

  -- it does not begin with ;
  pub row_4_first : length chars ≤ 521 → 3 ≤ length chars → (get_or chars 0 0 ≡ 59 → ⊥) → bad_line 4 place ≡ as_line place (read chars)
  unfolding read row3 row4
  row_4_first short three h =
      at_start place chars 4 (rw (le-ltb 521 (length chars) short, le-ltb (length chars) 3 three, ne_eqb (get_or chars 0 0) 59 h))

-- a line that passes rows 3 and 4
pub record LineHead (chars : List ℕ) : Type 0 where
  pub short : length chars ≤ 521
  pub three : 3 ≤ length chars
  pub letter : get_or chars 0 0 ≡ 59

module _ (chars : List ℕ) (h : LineHead chars) where
  -- neither row applies
  rows_3_4 : (row3 chars ≡ false) × (row4 chars ≡ false)
  unfolding row3 row4
  rows_3_4 = (le-ltb 521 (length chars) h.short, rw (le-ltb (length chars) 3 h.three, eq-eqb (get_or chars 0 0) 59 h.letter))

  -- a character from the second on is no digit
  pub row_5 : (place wrong : ℕ) → wrong ≡ first_bad (drop 1 chars) → wrong < length chars - 1
      → bad_line 5 (place + (1 + wrong)) ≡ as_line place (read chars)
  unfolding read row5
  row_5 place wrong e l =
      let k : first_bad (drop 1 chars) < length (drop 1 chars) = omega (arith, length-drop 1 chars) in
      rw (rows_3_4.0, rows_3_4.1, lt-ltb (first_bad (drop 1 chars)) (length (drop 1 chars)) k, e)

  module _ (digits : length (drop 1 chars) ≤ first_bad (drop 1 chars)) (len : ℕ) (is : len ≡ length_in (bs chars)) where
    -- row 5 does not apply
    five : row5 chars ≡ false
    unfolding row5
    five = le-ltb (first_bad (drop 1 chars)) (length (drop 1 chars)) digits

    -- the length is another than the length field says
    pub row_6 : (place : ℕ) → (length chars ≡ 11 + 2 * len → ⊥) → bad_line 6 place ≡ as_line place (read chars)
    unfolding read row6
    row_6 place l =
        at_start place chars 6 (rw (
          rows_3_4.0,
          rows_3_4.1,
          five,
          ne_eqb (length chars) (11 + 2 * length_in (bs chars)) (λ q. l (q ∙ ap (λ (k : ℕ). 11 + 2 * k) (sym is))),
        ))

    -- no row refuses the line
    pub line_good : length chars ≡ 11 + 2 * len → (a : ℕ) → a ≡ address_in (bs chars) → LineGot chars a len
    unfolding read row6
    line_good l a e = record {
      is = rw (rows_3_4.0, rows_3_4.1, five, eq-eqb (length chars) (11 + 2 * length_in (bs chars)) (l ∙ ap (λ (k : ℕ). 11 + 2 * k) is));
      short = h.short;
      letter = h.letter;
      digits = digits;
      len_is = is;
      address_is = e;
      long = l;
    }

    -- and so it is read
    pub read_good : (place : ℕ) → length chars ≡ 11 + 2 * len → (a : ℕ) → a ≡ address_in (bs chars) → good_line a len ≡ as_line place (read chars)
    read_good place l a e = line_is chars a len place (line_good l a e)

-- the check that a line has is the right one
pub no_row_7 : (edition : Edition) (chars : List ℕ) (given right : ℕ) → given ≡ check_in (bs chars) → right ≡ check_of edition (covered (bs chars))
    → given ≡ right → row7 edition (bs chars) ≡ false
unfolding row7
no_row_7 edition chars given right e f h = rw (eq-eqb (check_in (bs chars)) (check_of edition (covered (bs chars))) (sym e ∙ h ∙ f))

-- Where the fields of a line stand in its characters, and what a line that was read says of them.
use mathlib.Core.Path.{◌≡◌, sym, ap, ◌∙◌}
use Prim.Native.Nat.{ℕ, zero, suc, ◌+◌, ◌-◌, ◌*◌, ◌≤◌}
use native.Mathlib.Omega.{arith}
use mathlib.Core.Bool.{false, not}
use mathlib.Core.List.{List, [], ◌∷◌}
use lib.Dec.{ltb, eqb}
use lib.ListN.{length, get_or, take, drop, length-drop}
use lib.Seq.{get_or-drop, length-take-le, drop-drop}
use borrow.Author.Tests.{eqb-true, ltb-false, not-false}
use Rattle.lists.proofs.TestLaws.{by_test, or_neither}
use Rattle.hex_digits.specs.Digits.{byte_of, bytes, first_bad}
use Rattle.hex_digits.specs.Numbers.{number, sum}
use Rattle.hex_digits.proofs.PairLaws.{pair_split, pairs_end, byte_at, take_bytes, drop_bytes, length_bytes}
use Rattle.tape.specs.declared.Edition.{Edition}
use Rattle.tape.specs.Reading.{length_in, address_in, data_in, covered, check_in, row3, row4, row5, row6, read}
use Rattle.tape.specs.Reading.Read.{good}
use Rattle.tape.specs.Judging.{check_by, check_of}
use Rattle.tape.proofs.TapeCheckLaws.{covered_length, covered_number}
use Rattle.std.specs.Prelude.{Result, Ok, Err}
use Rattle.text.specs.declared.Fault.{Fault}
use Rattle.tape_read.specs.declared.Line.{Line}
use Rattle.tape_read.specs.Answers.{as_line}

-- ---- the two answers

-- a line that was read
abbrev pub good_line : ℕ → ℕ → Result Line Fault
good_line address len = Ok (record { address = address; len = len })

-- a line that a row refuses at a place
abbrev pub bad_line : ℕ → ℕ → Result Line Fault
bad_line row place = Err (record { row = row; place = place; want = 0 })

-- what two lines say is the same where both were read and their answers are the same
good_same : (a len a' len' : ℕ) → good_line a len ≡ good_line a' len' → (a ≡ a') × (len ≡ len')
good_same a len a' len' q =
    let r : ◌≡◌ {A = Line} (record { address = a; len = len }) (record { address = a'; len = len' }) = cc in
    (ap (λ (x : Line). x.address) r, ap (λ (x : Line). x.len) r)

-- ---- fields by their characters

module _ (chars : List ℕ) where
  -- the bytes behind ;
  abbrev pub bs : List ℕ
  bs = bytes (drop 1 chars)

  -- the length field by its two characters
  pub length_at_lem : 3 ≤ length chars → byte_of (get_or chars 1 0) (get_or chars 2 0) ≡ length_in bs
  length_at_lem h = sym (byte_at 0 (drop 1 chars) (omega (arith, length-drop 1 chars)) ∙ rw (get_or-drop, get_or-drop))

  -- the address by its four characters
  pub address_at : number (bytes (take 4 (drop 3 chars))) ≡ address_in bs
  unfolding address_in
  address_at =
      sym (ap (λ (x : List ℕ). number (take 2 x)) (drop_bytes 1 (drop 1 chars) ∙ ap bytes (drop-drop 2 1 chars))
      ∙ ap number (take_bytes 2 (drop 3 chars)))

  module _ (len : ℕ) (is : len ≡ length_in bs) where
    -- what the check covers
    pub covered_at : bytes (take (7 + 2 * len - 1) (drop 1 chars)) ≡ covered bs
    unfolding covered
    covered_at =
        let e : 7 + 2 * len - 1 ≡ 2 * (3 + len) = omega arith in
        ap (λ (k : ℕ). bytes (take k (drop 1 chars))) e ∙ sym (take_bytes (3 + len) (drop 1 chars)) ∙ ap (λ (k : ℕ). take (3 + k) bs) is

    module _ (long : length chars ≡ 11 + 2 * len) where
      -- the check itself
      pub check_at : number (bytes (take (length chars - (7 + 2 * len)) (drop (7 + 2 * len) chars))) ≡ check_in bs
      unfolding check_in
      check_at =
          let n : length chars - (7 + 2 * len) ≡ 4 = omega arith in
          let e : 7 + 2 * len ≡ 1 + 2 * (3 + len) = omega arith in
          ap (λ (k : ℕ). number (bytes (take k (drop (7 + 2 * len) chars)))) n ∙ ap (λ (k : ℕ). number (bytes (take 4 (drop k chars)))) e
          ∙ ap (λ (x : List ℕ). number (bytes (take 4 x))) (sym (drop-drop (2 * (3 + len)) 1 chars))
          ∙ ap number (sym (take_bytes 2 (drop (2 * (3 + len)) (drop 1 chars))))
          ∙ ap (λ (x : List ℕ). number (take 2 x)) (sym (drop_bytes (3 + len) (drop 1 chars)))
          ∙ ap (λ (k : ℕ). number (take 2 (drop (3 + k) bs))) is

      -- how many bytes there are
      pub length_all : length bs ≡ 5 + len
      length_all = length_bytes (5 + len) (drop 1 chars) (omega (arith, length-drop 1 chars))

      -- how many data bytes there are
      pub length_data : length (data_in bs) ≡ len
      unfolding data_in
      length_data = length-take-le (length_in bs) (drop 3 bs) (omega (arith, length_all, length-drop 3 bs, is)) ∙ sym is

-- ---- a line that was read

-- what the characters of a good line say: its length, its ;, its digits and fields
pub record LineGot (chars : List ℕ) (a len : ℕ) : Type 0 where
  pub is : read chars ≡ good (bs chars)
  pub short : length chars ≤ 521
  pub letter : get_or chars 0 0 ≡ 59
  pub digits : length (drop 1 chars) ≤ first_bad (drop 1 chars)
  pub len_is : len ≡ length_in (bs chars)
  pub address_is : a ≡ address_in (bs chars)
  pub long : length chars ≡ 11 + 2 * len

-- a line that passes row 3 is not too long
past_3 : (chars : List ℕ) → row3 chars ≡ false → length chars ≤ 521
unfolding row3
past_3 chars three = ltb-false 521 (length chars) three

-- a line that passes row 4 begins with ;
past_4 : (chars : List ℕ) → row4 chars ≡ false → get_or chars 0 0 ≡ 59
unfolding row4
past_4 chars four =
    eqb-true (get_or chars 0 0) 59 (not-false (eqb (get_or chars 0 0) 59) (or_neither (ltb (length chars) 3) (not (eqb (get_or chars 0 0) 59)) four).1)

-- a line that passes row 5 has digits behind it
past_5 : (chars : List ℕ) → row5 chars ≡ false → length (drop 1 chars) ≤ first_bad (drop 1 chars)
unfolding row5
past_5 chars five = ltb-false (first_bad (drop 1 chars)) (length (drop 1 chars)) five

-- a line that passes row 6 is as long as its length field says
past_6 : (n len : ℕ) → row6 n len ≡ false → n ≡ 11 + 2 * len
unfolding row6
past_6 n len six = eqb-true n (11 + 2 * len) (not-false (eqb n (11 + 2 * len)) six)

-- a good answer of `read_line` says what was read
pub line_got : (chars : List ℕ) (place a len : ℕ) → good_line a len ≡ as_line place (read chars) → LineGot chars a len
unfolding read
line_got chars place a len q =
    by_test (row3 chars) (λ t. absurd (never (rw t at q)))
    (λ t₃. by_test (row4 chars) (λ t. absurd (never (rw (t₃, t) at q)))
    (λ t₄. by_test (row5 chars) (λ t. absurd (never (rw (t₃, t₄, t) at q)))
    (λ t₅. by_test (row6 (length chars) (length_in (bs chars))) (λ t. absurd (never (rw (t₃, t₄, t₅, t) at q)))
    (λ t₆. made t₃ t₄ t₅ t₆ (rw (t₃, t₄, t₅, t₆)) (rw (t₃, t₄, t₅, t₆) at q)))))
  where
    never : {reason at : ℕ} → good_line a len ≡ bad_line reason at → ⊥
    never e = let z : ◌≡◌ {A = ℕ} 0 1 = cc in omega arith

    made : row3 chars ≡ false → row4 chars ≡ false → row5 chars ≡ false → row6 (length chars) (length_in (bs chars)) ≡ false
        → read chars ≡ good (bs chars) → good_line a len ≡ good_line (address_in (bs chars)) (length_in (bs chars)) → LineGot chars a len
    made t₃ t₄ t₅ t₆ r e =
        let same = good_same a len (address_in (bs chars)) (length_in (bs chars)) e in
        record {
          is = r;
          short = past_3 chars t₃;
          letter = past_4 chars t₄;
          digits = past_5 chars t₅;
          len_is = same.1;
          address_is = same.0;
          long = past_6 (length chars) (length_in (bs chars)) t₆ ∙ ap (λ (k : ℕ). 11 + 2 * k) (sym same.1);
        }

-- such a line is the same at any place
pub line_is : (chars : List ℕ) (a len place : ℕ) → LineGot chars a len → good_line a len ≡ as_line place (read chars)
line_is chars a len place g = (λ i. good_line (g.address_is i) (g.len_is i)) ∙ ap (as_line place) (sym g.is)

-- ---- the right check

-- what `check_of` is given is that of what the check covers
pub check_given : (edition : Edition) (chars : List ℕ) (a len s r : ℕ) → LineGot chars a len → s ≡ sum (covered (bs chars))
    → r ≡ check_by edition len a s → r ≡ check_of edition (covered (bs chars))
unfolding check_of
check_given edition chars a len s r g e q =
    q ∙ (λ i. check_by edition ((g.len_is ∙ sym (covered_length (bs chars))) i) ((g.address_is ∙ sym (covered_number (bs chars))) i) (e i))

-- ---- all bytes of a line

-- a sum in two parts
sum_split : (k : ℕ) (bs : List ℕ) → sum bs ≡ sum (take k bs) + sum (drop k bs)
sum_split zero bs = omega arith
sum_split (suc k) [] = omega arith
sum_split (suc k) (b ∷ bs) = omega (arith, sum_split k bs)

module _ (chars : List ℕ) where
  -- the byte of two characters that stand so far before the end
  abbrev before_end : ℕ → ℕ → ℕ
  before_end i j = byte_of (get_or chars (length chars - i) 0) (get_or chars (length chars - j) 0)

  -- the two bytes of the check
  abbrev pub high : ℕ
  high = before_end 4 3

  abbrev pub low : ℕ
  low = before_end 2 1

  module _ (len : ℕ) (is : len ≡ length_in (bs chars)) (long : length chars ≡ 11 + 2 * len) where
    -- a character behind ; in its line
    char_at : (i j : ℕ) → 1 + i ≡ j → get_or (drop 1 chars) i 0 ≡ get_or chars j 0
    char_at i j e = rw get_or-drop (ap (λ (k : ℕ). get_or chars k 0) e)

    -- they are the last bytes
    tail_at : drop (3 + len) (bs chars) ≡ high ∷ low ∷ []
    tail_at =
        let l : length (drop 1 chars) ≡ 10 + 2 * len = omega (arith, length-drop 1 chars) in
        let e₄ = char_at (2 * (3 + len)) (length chars - 4) (omega arith) in
        let e₃ = char_at (2 * (3 + len) + 1) (length chars - 3) (omega arith) in
        let e₂ = char_at (2 * (3 + len + 1)) (length chars - 2) (omega arith) in
        let e₁ = char_at (2 * (3 + len + 1) + 1) (length chars - 1) (omega arith) in
        drop_bytes (3 + len) (drop 1 chars)
        ∙ ap bytes (pair_split (drop 1 chars) (3 + len) (omega (arith, l)))
        ∙ (λ i. byte_of (e₄ i) (e₃ i) ∷ bytes (pair_split (drop 1 chars) (3 + len + 1) (omega (arith, l)) i))
        ∙ (λ i. high ∷ byte_of (e₂ i) (e₁ i) ∷ pairs_end (drop 1 chars) (3 + len + 1 + 1) (omega (arith, l)) i)

    -- they give the check
    pub check_is : 256 * high + low ≡ check_in (bs chars)
    unfolding check_in
    check_is = rw (← is, tail_at) (omega arith)

    -- the sum of all bytes has them beside what the check covers
    pub sum_is : sum (bs chars) ≡ sum (covered (bs chars)) + (high + low)
    unfolding covered
    sum_is =
        let t : sum (drop (3 + len) (bs chars)) ≡ high + (low + 0) = ap sum tail_at in
        rw (← is) (omega (arith, sum_split (3 + len) (bs chars), t))

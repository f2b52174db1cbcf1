-- Rows 3 to 7 by the characters of a record: one law for each answer of `read_record`.
use mathlib.Core.Path.{◌≡◌, refl, sym, ap, ◌∙◌}
use Prim.Native.Nat.{ℕ, zero, suc, ◌+◌, ◌-◌, ◌*◌, ◌%◌, ◌≤◌, ◌<◌}
use native.Mathlib.Nat.{add-zero, add_assoc, add-sub_cancel_left}
use native.Mathlib.Omega.{arith}
use mathlib.Core.Bool.{true, false, cond, not}
use mathlib.Core.List.{List, [], ◌∷◌}
use mathlib.Core.Option.{Option, none, some}
use lib.Dec.{eqb, ltb}
use lib.ListN.{length, get_or, take, drop, length-drop}
use lib.Seq.{get_or-drop}
use borrow.Author.Tests.{lt-ltb, le-ltb, ltb-false, eq-eqb, ne_eqb, not-true, not-false}
use Rattle.std.specs.Prelude.{Result}
use Rattle.lists.proofs.PartLaws.{rest}
use Rattle.text.specs.declared.Fault.{Fault as TextFault}
use Rattle.srec_fields.specs.declared.Record.{Record}
use Rattle.lists.proofs.TestLaws.{by_test}
use Rattle.hex_digits.specs.Digits.{byte_of, bytes, first_bad}
use Rattle.hex_digits.specs.Numbers.{number, sum}
use Rattle.hex_digits.specs.Tables.{weighed}
use Rattle.hex_digits.proofs.DigitLaws.{value_small, digits_part}
use Rattle.hex_digits.proofs.DigitTableLaws.{weigh_sum}
use Rattle.hex_digits.proofs.PairLaws.{byte_at, take_bytes, length_bytes}
use Rattle.srec.specs.Kinds.{Kind, kind_of, width, is_known, known}
use Rattle.srec.specs.Reading.{Read, fault, mismatch, right, checksum, row3, row4, row5, row6, row7, address_in, data_in, read}
use Rattle.srec.specs.Reading.Read.{good, bad}
use Rattle.srec_fields.specs.Records.{width_or0, width_in, as_record}
use Rattle.srec_fields.proofs.KindLaws.{Known, known_type, width_least, known_kind, row_6_inv}
use Rattle.srec_fields.proofs.FieldLaws.{says, refused, bs, count, count_at, past_4, address_at, length_data}

-- a refusal at the record's first character
pub at_place : (place : ℕ) {reason : ℕ} {r : Read} → fault reason 0 ≡ r → refused reason place 0 ≡ as_record place r
at_place place {reason} e = ap (λ (p : ℕ). refused reason p 0) (sym (add-zero place)) ∙ ap (as_record place) e

module _ (chars : List ℕ) where
  -- the record is too long
  pub row_3 : 514 < length chars → fault 3 0 ≡ read chars
  unfolding read row3
  row_3 h = rw (lt-ltb 514 (length chars) h)

  -- a record that passes rows 3 and 4, of a type with w address bytes
  pub record Head (w : ℕ) : Type 0 where
    pub short : length chars ≤ 514
    pub four : 4 ≤ length chars
    pub letter : get_or chars 0 0 ≡ 83
    pub type_known : Known (get_or chars 1 0) w

  -- ---- the four answers of `width_in`

  -- too many characters
  pub width_long : 514 < length chars → 0 ≡ width_in chars
  unfolding width_in row3
  width_long h = rw (lt-ltb 514 (length chars) h)

  -- too few
  pub width_short : length chars ≤ 514 → length chars < 4 → 0 ≡ width_in chars
  unfolding width_in row3 row4
  width_short h l = rw (le-ltb 514 (length chars) h, lt-ltb (length chars) 4 l)

  -- another first character
  pub width_letter : length chars ≤ 514 → 4 ≤ length chars → (get_or chars 0 0 ≡ 83 → ⊥) → 0 ≡ width_in chars
  unfolding width_in row3 row4
  width_letter h l n = rw (le-ltb 514 (length chars) h, le-ltb (length chars) 4 l, ne_eqb (get_or chars 0 0) 83 n)

  -- the type decides
  pub width_type : length chars ≤ 514 → 4 ≤ length chars → get_or chars 0 0 ≡ 83 → width_or0 (kind_of (get_or chars 1 0)) ≡ width_in chars
  unfolding width_in row3 row4
  width_type h l s = rw (le-ltb 514 (length chars) h, le-ltb (length chars) 4 l, eq-eqb (get_or chars 0 0) 83 s) (go (kind_of (get_or chars 1 0)))
    where
      go : (o : Option Kind) → width_or0 o ≡ cond (not (is_known o)) 0 (width_or0 o)
      go none = refl
      go (some k) = refl

  -- ---- what an answer of `width_in` says

  -- not 0: rows 3 and 4 let the record pass
  pub head_of : (w : ℕ) → w ≡ width_in chars → (w ≡ 0 → ⊥) → Head w
  unfolding width_in row3
  head_of w q z =
      by_test (ltb 514 (length chars)) (λ t. absurd (z (q ∙ rw t)))
      (λ t. by_test (row4 chars) (λ f. absurd (z (q ∙ rw (t, f))))
      (λ f. let p = past_4 chars f in
      record {
        short = ltb-false 514 (length chars) t;
        four = p.0;
        letter = p.1;
        type_known = known_type (get_or chars 1 0) w (q ∙ rw (t, f)) z;
      }))

  -- 0: row 4 refuses it, or row 3
  pub row_4 : (w : ℕ) → w ≡ width_in chars → w ≡ 0 → length chars ≤ 514 → fault 4 0 ≡ read chars
  unfolding width_in row3 read
  row_4 w q z h =
      let three : ltb 514 (length chars) ≡ false = le-ltb 514 (length chars) h in
      by_test (row4 chars) (λ t. rw (three, t))
      (λ t. absurd (let k : Known (get_or chars 1 0) (width (known (kind_of (get_or chars 1 0)))) = known_kind (get_or chars 1 0) _ (past_4 chars t).2 in
      let e : w ≡ width (known (kind_of (get_or chars 1 0)))
      = q ∙ rw (three, t) (ap width_or0 (past_4 chars t).2) in
      omega (arith, k.low, e, z)))

  module _ (w : ℕ) (h : Head w) where
    -- its kind
    abbrev k : Kind
    k = known (kind_of (get_or chars 1 0))

    -- rows 5 to 7 are left
    left : read chars ≡ cond (row5 chars) (fault 5 (2 + first_bad (drop 2 chars)))
        (cond (row6 k (length chars) (count chars)) (fault 6 0)
        (cond (row7 (bs chars)) (mismatch (bs chars)) (good k (address_in k (bs chars)) (data_in k (bs chars)))))
    unfolding read row3 row4
    left = rw (le-ltb 514 (length chars) h.short, le-ltb (length chars) 4 h.four, eq-eqb (get_or chars 0 0) 83 h.letter, h.type_known.is)

    -- a character from the third on is no digit
    pub row_5 : first_bad (drop 2 chars) < length (drop 2 chars) → fault 5 (2 + first_bad (drop 2 chars)) ≡ read chars
    unfolding row5
    row_5 l = sym (left ∙ rw (lt-ltb (first_bad (drop 2 chars)) (length (drop 2 chars)) l))

    -- length, count and type do not agree
    pub row_6 : length (drop 2 chars) ≤ first_bad (drop 2 chars) → {n : ℕ} → n ≡ count chars → row6 k (length chars) n ≡ true → fault 6 0 ≡ read chars
    unfolding row5
    row_6 l e six = sym (left ∙ rw (le-ltb (first_bad (drop 2 chars)) (length (drop 2 chars)) l, ap (row6 k (length chars)) (sym e) ∙ six))

-- the answers of `width_in`
pub ruleset width_laws = (width_long, width_short, width_letter, width_type, width_least)

-- a record that passes rows 3 to 6
pub record Sized (chars : List ℕ) (w n : ℕ) : Type 0 where
  pub head : Head chars w
  pub digits : length (drop 2 chars) ≤ first_bad (drop 2 chars)
  pub count_is : n ≡ count chars
  pub six : row6 (known (kind_of (get_or chars 1 0))) (length chars) n ≡ false
  pub long : length chars ≡ 4 + 2 * n
  pub least : w + 1 ≤ n

module _ (chars : List ℕ) (w n : ℕ) (z : Sized chars w n) where
  -- its kind
  abbrev v : Kind
  v = z.head.type_known.kind

  -- its bytes, the count first
  abbrev all : List ℕ
  all = bs chars

  -- the checksum that the record has
  abbrev pub given : ℕ
  given = byte_of (get_or chars (2 + 2 * n) 0) (get_or chars (2 + 2 * n + 1) 0)

  -- the checksum that it should have
  abbrev pub wanted : ℕ
  wanted = 255 - sum (bytes (take (2 * n) (drop 2 chars))) % 256

  -- the bytes that the checksum covers, by their characters
  sum_at_lem : take (count chars) all ≡ bytes (take (2 * n) (drop 2 chars))
  sum_at_lem = ap (λ (j : ℕ). take j all) (sym z.count_is) ∙ take_bytes n (drop 2 chars)

  -- the checksum by its two characters
  check_at : get_or all (count chars) 0 ≡ given
  check_at =
      ap (λ (j : ℕ). get_or all j 0) (sym z.count_is) ∙ byte_at n (drop 2 chars) (omega (arith, length-drop 2 chars, z.long))
      ∙ rw (get_or-drop, get_or-drop, add_assoc)

  -- row 7 alone is left
  left_seven : read chars ≡ cond (not (eqb given wanted)) (bad (record { reason = 7; offset = 0; want = wanted }))
      (good v (address_in v all) (data_in v all))
  unfolding row5 row7 right checksum
  left_seven =
      let six : row6 (known (kind_of (get_or chars 1 0))) (length chars) (count chars) ≡ false
      = ap (row6 (known (kind_of (get_or chars 1 0))) (length chars)) (sym z.count_is) ∙ z.six in
      left chars w z.head
      ∙ rw (le-ltb (first_bad (drop 2 chars)) (length (drop 2 chars)) z.digits, six, check_at, sum_at_lem, z.head.type_known.is)

  -- they differ
  pub row_7 : (given ≡ wanted → ⊥) → (place : ℕ) → refused 7 place wanted ≡ as_record place (read chars)
  row_7 e place =
      let r : read chars ≡ bad (record { reason = 7; offset = 0; want = wanted }) = left_seven ∙ rw (ne_eqb given wanted e) in
      ap (λ (p : ℕ). refused 7 p wanted) (sym (add-zero place)) ∙ ap (as_record place) (sym r)

  -- they agree: no row refuses the record
  pub good_record : given ≡ wanted → (place : ℕ)
      → says (get_or chars 1 0) (number (bytes (take (2 * w) (drop 4 chars)))) (n - (w + 1)) ≡ as_record place (read chars)
  good_record e place =
      let r : read chars ≡ good v (address_in v all) (data_in v all) = left_seven ∙ rw (eq-eqb given wanted e) in
      let a : address_in v all ≡ number (bytes (take (2 * w) (drop 4 chars)))
      = address_at chars v ∙ ap (λ (j : ℕ). number (bytes (take (2 * j) (drop 4 chars)))) z.head.type_known.width_is in
      let d : length (data_in v all) ≡ n - (w + 1)
      = length_data chars v (omega (arith, z.long, z.count_is)) (omega (arith, z.least, z.count_is, z.head.type_known.width_is))
      ∙ omega (arith, z.count_is, z.head.type_known.width_is) in
      (λ i. says (sym z.head.type_known.type_is i) (sym a i) (sym d i))
      ∙ ap (as_record place) (sym r)

-- ---- by the sum, as `read_good` reads

-- digits from the third character on
pub sized : (chars : List ℕ) (w n : ℕ) → Head chars w → n ≡ count chars → row6 (known (kind_of (get_or chars 1 0))) (length chars) n ≡ false
    → length (drop 2 chars) ≤ first_bad (drop 2 chars) → Sized chars w n
sized chars w n h c six digits =
    let k : (length chars ≡ 4 + 2 * n) × (w + 1 ≤ n) = row_6_inv (get_or chars 1 0) w (length chars) n h.type_known six in
    record { head = h; digits = digits; count_is = c; six = six; long = k.0; least = k.1 }

-- a sum of bytes, the last apart
sum_last : (n : ℕ) (bs : List ℕ) → length bs ≡ suc n → sum bs ≡ sum (take n bs) + get_or bs n 0
sum_last n [] h = absurd (omega arith)
sum_last zero (b ∷ []) h = omega arith
sum_last zero (b ∷ c ∷ bs) h = absurd (omega arith)
sum_last (suc n) (b ∷ bs) h = omega (arith, sum_last n bs (omega arith))

module _ (chars : List ℕ) (w n : ℕ) (z : Sized chars w n) where
  -- the weight of what the checksum covers gives the right one
  pub wanted_by : 255 - weighed (take (2 * n) (drop 2 chars)) % 256 ≡ wanted chars w n z
  wanted_by = ap (λ (s : ℕ). 255 - s % 256) (weigh_sum (take (2 * n) (drop 2 chars)) (digits_part (2 * n) 0 (drop 2 chars) z.digits))

  -- a sum of all bytes that is 255 modulo 256 means that the checksum is right
  pub checked : sum (bs chars) % 256 ≡ 255 → given chars w n z ≡ wanted chars w n z
  checked e =
      let two : length (drop 2 chars) ≡ 2 * suc n = omega (arith, z.long, length-drop 2 chars) in
      let s : sum (bs chars) ≡ sum (take n (bs chars)) + get_or (bs chars) n 0 = sum_last n (bs chars) (length_bytes (suc n) (drop 2 chars) two) in
      let first : take n (bs chars) ≡ bytes (take (2 * n) (drop 2 chars)) = take_bytes n (drop 2 chars) in
      let last : get_or (bs chars) n 0 ≡ given chars w n z = ap (λ (j : ℕ). get_or (bs chars) j 0) z.count_is ∙ check_at chars w n z in
      let all_of : sum (bs chars) ≡ sum (bytes (take (2 * n) (drop 2 chars))) + given chars w n z = rw (first, last) at s in
      omega (arith, all_of, e, value_small (get_or chars (2 + 2 * n) 0), value_small (get_or chars (2 + 2 * n + 1) 0))

-- ---- the answers of `read_record`, as it computes them

module _ (chars : List ℕ) (place : ℕ) where
  -- the record at its place
  abbrev told : Result Record TextFault
  told = as_record place (read chars)

  -- the index of the first character behind the type that is no digit
  abbrev wrong : ℕ
  wrong = first_bad (take (length chars - 2) (drop 2 chars))

  -- its kind and its count
  abbrev own : Kind
  own = known (kind_of (get_or chars 1 0))

  abbrev counted : ℕ
  counted = byte_of (get_or chars 2 0) (get_or chars 3 0)

  -- too many characters
  pub refused_3 : 514 < length chars → refused 3 place 0 ≡ told
  refused_3 h = at_place place (row_3 chars h)

  -- no S, or no type of the table
  pub refused_4 : width_in chars ≡ 0 → length chars ≤ 514 → refused 4 place 0 ≡ told
  refused_4 z h = at_place place (row_4 chars 0 (sym z) refl h)

  module _ (head : width_in chars ≡ 0 → ⊥) where
    headed : Head chars (width_in chars)
    headed = head_of chars (width_in chars) refl head

    -- a character that is no digit
    pub refused_5 : wrong < length chars - 2 → refused 5 (place + 2 + wrong) 0 ≡ told
    refused_5 l =
        let e : wrong ≡ first_bad (drop 2 chars) = ap first_bad (rest 2 chars) in
        (λ i. refused 5 (add_assoc place 2 wrong i) 0) ∙ ap (λ (j : ℕ). refused 5 (place + (2 + j)) 0) e
        ∙ ap (as_record place) (row_5 chars (width_in chars) headed (omega (arith, e, length-drop 2 chars)))

    module _ (digits : length chars - 2 ≤ wrong) where
      all_digits : length (drop 2 chars) ≤ first_bad (drop 2 chars)
      all_digits = let e : wrong ≡ first_bad (drop 2 chars) = ap first_bad (rest 2 chars) in omega (arith, e, length-drop 2 chars)

      -- length, count and type do not agree
      pub refused_6 : not (row6 own (length chars) counted) ≡ false → refused 6 place 0 ≡ told
      refused_6 six = at_place place (row_6 chars (width_in chars) headed all_digits (count_at chars headed.four) (not-false _ six))

      module _ (six : not (row6 own (length chars) counted) ≡ true) where
        whole : Sized chars (width_in chars) counted
        whole = sized chars (width_in chars) counted headed (count_at chars headed.four) (not-true _ six) all_digits

        -- the checksum that it has, and that it should have
        abbrev has : ℕ
        has = byte_of (get_or chars (2 + 2 * counted) 0) (get_or chars (2 + 2 * counted + 1) 0)

        abbrev should : ℕ
        should = 255 - weighed (take (2 + 2 * counted - 2) (drop 2 chars)) % 256

        should_is : should ≡ wanted chars (width_in chars) counted whole
        should_is = rw add-sub_cancel_left (wanted_by chars (width_in chars) counted whole)

        -- they differ
        pub refused_7 : (has ≡ should → ⊥) → refused 7 place should ≡ told
        refused_7 h = ap (refused 7 place) should_is ∙ row_7 chars (width_in chars) counted whole (λ e. h (e ∙ sym should_is)) place

        -- no row refuses it
        pub says_all : has ≡ should
            → says (get_or chars 1 0) (number (bytes (take (4 + 2 * width_in chars - 4) (drop 4 chars)))) (counted - (width_in chars + 1)) ≡ told
        says_all e = rw add-sub_cancel_left (good_record chars (width_in chars) counted whole (e ∙ should_is) place)

        -- nor where all its bytes add up to 255 modulo 256
        pub says_summed : sum (bytes (take (length chars - 2) (drop 2 chars))) % 256 ≡ 255
            → says (get_or chars 1 0) (number (bytes (take (4 + 2 * width_in chars - 4) (drop 4 chars)))) (counted - (width_in chars + 1)) ≡ told
        says_summed e =
            rw add-sub_cancel_left (good_record chars (width_in chars) counted whole (checked chars (width_in chars) counted whole (rw (rest 2 chars) at e)) place)

-- the answers of `read_record`
pub ruleset read_laws = (refused_3, refused_4, refused_5, refused_6, refused_7, says_all)

-- What a record that was read says of its characters: where its fields stand.
use mathlib.Core.Path.{◌≡◌, refl, sym, ap, ◌∙◌, subst}
use Prim.Native.Nat.{ℕ, ◌+◌, ◌-◌, ◌*◌, ◌^◌, ◌≤◌, ◌<◌}
use native.Mathlib.Omega.{arith}
use mathlib.Core.Bool.{true, false, not, ◌||◌}
use mathlib.Core.List.{List}
use mathlib.Core.Option.{Option, none, some}
use lib.Dec.{ltb, eqb}
use lib.ListN.{length, get_or, take, drop, length-drop}
use lib.Seq.{get_or-drop, length-take-le, drop-drop}
use borrow.Author.Tests.{eqb-true, ltb-false, not-false}
use Rattle.hex_digits.specs.Digits.{byte_of, bytes, first_bad}
use Rattle.hex_digits.specs.Numbers.{number}
use Rattle.lists.proofs.TestLaws.{by_test, or_neither}
use Rattle.hex_digits.proofs.PairLaws.{byte_at, take_bytes, drop_bytes, length_bytes}
use Rattle.srec.specs.Kinds.{Kind, kind_of, type_of, width, is_known, known}
use Rattle.text.specs.Scan.{Fault}
use Rattle.srec.specs.Reading.{Read, row3, row4, row5, row6, row7, address_in, data_in, read}
use Rattle.srec.specs.Reading.Read.{good, bad}
use Rattle.srec.proofs.LimitLaws.{ReadOk, read_ok}
use Rattle.std.specs.Prelude.{Result, Ok, Err}
use Rattle.text.specs.declared.Fault.{Fault as TextFault}
use Rattle.srec_fields.specs.declared.Record.{Record}
use Rattle.srec_fields.specs.Records.{as_record}
use Rattle.srec_fields.proofs.KindLaws.{Known, known_kind, type_of_kind, row_6_inv}

-- what the characters of a good record say: its letter, type, digits, count, length, address and data bytes
pub record Fields (chars : List ℕ) (k : Kind) (a : ℕ) (ds : List ℕ) : Type 0 where
  pub letter : get_or chars 0 0 ≡ 83
  pub type_known : kind_of (get_or chars 1 0) ≡ some k
  pub digits : length (drop 2 chars) ≤ first_bad (drop 2 chars)
  pub count_is : byte_of (get_or chars 2 0) (get_or chars 3 0) ≡ width k + 1 + length ds
  pub long : length chars ≡ 4 + 2 * (width k + 1 + length ds)
  pub address_is : a ≡ number (bytes (take (2 * width k) (drop 4 chars)))
  pub data_is : ds ≡ bytes (take (2 * length ds) (drop (4 + 2 * width k) chars))

-- the answer that a record says this
abbrev pub says : ℕ → ℕ → ℕ → Result Record TextFault
says kind a n = Ok (record { kind = kind; address = a; count = n })

-- the answer that a row refuses it at a place, and which checksum would have been right
abbrev pub refused : ℕ → ℕ → ℕ → Result Record TextFault
refused row place want = Err (record { row = row; place = place; want = want })

-- equal records say the same
record_same : (kind a n kind' a' n' : ℕ) → says kind a n ≡ says kind' a' n' → (kind ≡ kind') × (a ≡ a') × (n ≡ n')
record_same kind a n kind' a' n' q =
    let r : ◌≡◌ {A = Record} (record { kind = kind; address = a; count = n }) (record { kind = kind'; address = a'; count = n' }) = cc in
    (ap (λ (x : Record). x.kind) r, ap (λ (x : Record). x.address) r, ap (λ (x : Record). x.count) r)

-- a type that is in the table
known_some : (o : Option Kind) → is_known o ≡ true → o ≡ some (known o)
known_some none h = absurd (let z : ◌≡◌ {A = ℕ} 0 1 = cc in omega arith)
known_some (some k) h = refl

module _ (chars : List ℕ) where
  -- the bytes behind the type, the first of which is the count
  abbrev pub bs : List ℕ
  bs = bytes (drop 2 chars)

  -- the count field
  abbrev pub count : ℕ
  count = get_or bs 0 0

  -- the count by its two characters
  pub count_at : 4 ≤ length chars → byte_of (get_or chars 2 0) (get_or chars 3 0) ≡ count
  count_at four = sym (byte_at 0 (drop 2 chars) (omega (arith, length-drop 2 chars)) ∙ rw (get_or-drop, get_or-drop))

  module _ (k : Kind) where
    -- the address field by its characters
    pub address_at : address_in k bs ≡ number (bytes (take (2 * width k) (drop 4 chars)))
    unfolding address_in
    address_at =
        ap (λ (x : List ℕ). number (take (width k) x)) (drop_bytes 1 (drop 2 chars) ∙ ap bytes (drop-drop 2 2 chars))
        ∙ ap number (take_bytes (width k) (drop 4 chars))

    -- data fill what count leaves
    module _ (long : length chars ≡ 4 + 2 * count) (least : width k + 1 ≤ count) where
      -- how many data bytes the count leaves
      pub length_data : length (data_in k bs) ≡ count - (width k + 1)
      unfolding data_in
      length_data =
          let l : length bs ≡ count + 1 = length_bytes (count + 1) (drop 2 chars) (omega (arith, length-drop 2 chars)) in
          length-take-le (count - (width k + 1)) (drop (width k + 1) bs) (omega (arith, length-drop (width k + 1) bs))

      -- the data bytes by their characters
      data_at : data_in k bs ≡ bytes (take (2 * (count - (width k + 1))) (drop (4 + 2 * width k) chars))
      unfolding data_in
      data_at =
          let e : 2 + 2 * (width k + 1) ≡ 4 + 2 * width k = omega arith in
          ap (take (count - (width k + 1))) (drop_bytes (width k + 1) (drop 2 chars)
          ∙ ap bytes (drop-drop (2 * (width k + 1)) 2 chars ∙ ap (λ (i : ℕ). drop i chars) e))
          ∙ take_bytes (count - (width k + 1)) (drop (4 + 2 * width k) chars)

      -- a record of this kind has its fields
      fields : get_or chars 0 0 ≡ 83 → kind_of (get_or chars 1 0) ≡ some k → length (drop 2 chars) ≤ first_bad (drop 2 chars)
          → Fields chars k (address_in k bs) (data_in k bs)
      fields letter type_known digits = record {
        letter = letter;
        type_known = type_known;
        digits = digits;
        count_is = count_at (omega arith) ∙ omega (arith, length_data);
        long = omega (arith, length_data);
        address_is = address_at;
        data_is = data_at ∙ ap (λ (n : ℕ). bytes (take (2 * n) (drop (4 + 2 * width k) chars))) (sym length_data);
      }

  -- the kind of the type character
  abbrev kind : Kind
  kind = known (kind_of (get_or chars 1 0))

  -- a record that passes row 4 begins with S, and its type is in the table
  pub past_4 : row4 chars ≡ false → (4 ≤ length chars) × (get_or chars 0 0 ≡ 83) × (kind_of (get_or chars 1 0) ≡ some kind)
  unfolding row4
  past_4 four =
      let o : ((ltb (length chars) 4 || not (eqb (get_or chars 0 0) 83)) ≡ false) × (not (is_known (kind_of (get_or chars 1 0))) ≡ false)
      = or_neither (ltb (length chars) 4 || not (eqb (get_or chars 0 0) 83)) (not (is_known (kind_of (get_or chars 1 0)))) four in
      let h : (ltb (length chars) 4 ≡ false) × (not (eqb (get_or chars 0 0) 83) ≡ false)
      = or_neither (ltb (length chars) 4) (not (eqb (get_or chars 0 0) 83)) o.0 in (
        ltb-false (length chars) 4 h.0,
        eqb-true (get_or chars 0 0) 83 (not-false (eqb (get_or chars 0 0) 83) h.1),
        known_some (kind_of (get_or chars 1 0)) (not-false (is_known (kind_of (get_or chars 1 0))) o.1),
      )

  -- a record that passes rows 4 to 6 has its fields
  passed : row4 chars ≡ false → row5 chars ≡ false → row6 kind (length chars) count ≡ false → Fields chars kind (address_in kind bs) (data_in kind bs)
  unfolding row5
  passed four five six =
      let p = past_4 four in
      let s : (length chars ≡ 4 + 2 * count) × (width kind + 1 ≤ count)
      = row_6_inv (get_or chars 1 0) (width kind) (length chars) count (known_kind (get_or chars 1 0) kind p.2) six in
      fields kind s.0 s.1 p.1 p.2 (ltb-false (first_bad (drop 2 chars)) (length (drop 2 chars)) five)

-- a good record has its fields
pub read_fields : (chars : List ℕ) (k : Kind) (a : ℕ) (ds : List ℕ) → read chars ≡ good k a ds → Fields chars k a ds
unfolding read
read_fields chars v a ds q =
    by_test (row3 chars) (λ t. absurd (never (rw t at q)))
    (λ t₃. by_test (row4 chars) (λ t. absurd (never (rw (t₃, t) at q)))
    (λ t₄. by_test (row5 chars) (λ t. absurd (never (rw (t₃, t₄, t) at q)))
    (λ t₅. by_test (row6 (kind chars) (length chars) (count chars)) (λ t. absurd (never (rw (t₃, t₄, t₅, t) at q)))
    (λ t₆. by_test (row7 (bs chars)) (λ t. absurd (never (rw (t₃, t₄, t₅, t₆, t) at q)))
    (λ t₇. same (passed chars t₄ t₅ t₆) (rw (t₃, t₄, t₅, t₆, t₇) at q))))))
  where
    never : {f : Fault} → bad f ≡ good v a ds → ⊥
    never e = let z : ◌≡◌ {A = ℕ} 0 1 = cc in omega arith

    same : {w : Kind} {b : ℕ} {bs : List ℕ} → Fields chars w b bs → good w b bs ≡ good v a ds → Fields chars v a ds
    same {w} {b} {bs} f e =
        let p : w ≡ v = cc in let r : b ≡ a = cc in let s : bs ≡ ds = cc in
        subst (λ (x : Kind). Fields chars x a ds) p (subst (λ (x : ℕ). Fields chars w x ds) r (subst (Fields chars w b) s f))

-- what a caller learns of a good answer
pub record Got (chars : List ℕ) (kind a n : ℕ) : Type 0 where
  pub k : Kind
  pub ds : List ℕ
  pub is : read chars ≡ good k a ds
  pub len : length ds ≡ n
  pub known_is : kind_of kind ≡ some k
  pub fields : Fields chars k a ds
  pub small : (a < 2 ^ 32) × (n ≤ 252) × (2 ≤ width k) × (width k ≤ 4)

-- a good answer of `read_record` says what was read
pub got : (chars : List ℕ) (place kind a n : ℕ) → says kind a n ≡ as_record place (read chars) → Got chars kind a n
got chars place kind a n q = go (read chars) refl
  where
    go : (r : Read) → read chars ≡ r → Got chars kind a n
    go (bad f) e = absurd (let p : says kind a n ≡ refused f.reason (place + f.offset) f.want = q ∙ ap (as_record place) e in
        let z : ◌≡◌ {A = ℕ} 0 1 = cc in omega arith)
    go (good k b ds) e =
        let p = record_same kind a n (type_of k) b (length ds) (q ∙ ap (as_record place) e) in
        let a-is : b ≡ a = sym p.1 in
        let r : read chars ≡ good k a ds = e ∙ ap (λ (x : ℕ). good k x ds) a-is in
        let f : Fields chars k a ds = read_fields chars k a ds r in
        let t : Known (get_or chars 1 0) (width k) = known_kind (get_or chars 1 0) k f.type_known in
        let o : ReadOk (good k a ds) = subst ReadOk r (read_ok chars).got in
        record {
          k = k;
          ds = ds;
          is = r;
          len = sym p.2;
          known_is = ap kind_of (p.0 ∙ type_of_kind (get_or chars 1 0) k f.type_known) ∙ f.type_known;
          fields = f;
          small = (o.1, omega (arith, o.0.short), t.low, t.high);
        }

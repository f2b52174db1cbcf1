-- The header that a record holds.
use mathlib.Core.Path.{◌≡◌, refl, sym, ap, ◌∙◌, subst}
use Prim.Native.Nat.{ℕ, ◌-◌, ◌*◌, ◌≤◌}
use native.Mathlib.Omega.{arith}
use mathlib.Core.List.{List, [], ◌++◌}
use lib.ListN.{length, get_or, take, drop, replicate}
use lib.Seq.{length-take-le}
use mathlib.Core.Option.{some}
use Rattle.hex_digits.specs.Digits.{bytes}
use Rattle.window.proofs.HeaderLaws.{zeros, padding}
use Rattle.window.specs.Headers.{header_of}
use Rattle.text.specs.Terms.{header_in}
use Rattle.srec.specs.Kinds.{Kind, kind_of, type_of}
use Rattle.srec.specs.Kinds.Kind.{S0, Data, S5, End}
use Rattle.srec.specs.Reading.{Read, read}
use Rattle.srec.specs.Reading.Read.{good, bad}
use Rattle.srec.specs.Judging.{carried}
use Rattle.srec.proofs.LimitLaws.{ReadOk, read_ok}
use Rattle.srec_fields.proofs.FieldLaws.{Fields, read_fields, Got}
use Rattle.srec_fields.proofs.KindLaws.{type_of_kind}

-- a record of another type leaves a header as it is
pub other_keeps : (chars h : List ℕ) → (get_or chars 1 0 ≡ 48 → ⊥) → header_in (carried (read chars)) h ≡ h
other_keeps chars h z = go (read chars) refl
  where
    kept : (k : Kind) (a : ℕ) (ds : List ℕ) → type_of k ≡ get_or chars 1 0 → header_in (carried (good k a ds)) h ≡ h
    kept S0 a ds q = absurd (z (sym q))
    kept (Data w) a ds q = refl
    kept S5 a ds q = refl
    kept (End w) a ds q = refl

    go : (r : Read) → read chars ≡ r → header_in (carried r) h ≡ h
    go (bad f) e = refl
    go (good k a ds) e = kept k a ds (type_of_kind (get_or chars 1 0) k (read_fields chars k a ds e).type_known)

-- an S0 that was read, with its data
pub record S0Record (chars : List ℕ) (a : ℕ) (ds : List ℕ) : Type 0 where
  pub is : read chars ≡ good S0 a ds
  pub fields : Fields chars S0 a ds
  pub short : length ds ≤ 252

-- a record of that type that was read is one
pub s0_record : (chars : List ℕ) (k : Kind) (a : ℕ) (ds : List ℕ) → read chars ≡ good k a ds → get_or chars 1 0 ≡ 48 → S0Record chars a ds
unfolding kind_of
s0_record chars k a ds e c =
    let s0 : k ≡ S0 = same (sym (read_fields chars k a ds e).type_known ∙ ap kind_of c) in
    let is : read chars ≡ good S0 a ds = e ∙ ap (λ (x : Kind). good x a ds) s0 in
    let o : ReadOk (good S0 a ds) = subst ReadOk is (read_ok chars).got in
    record { is = is; fields = read_fields chars S0 a ds is; short = omega (arith, o.0.short) }
  where
    same : {x y : Kind} → some x ≡ some y → x ≡ y
    same q = cc

-- the type that a good answer gives is the record's second character
given_type : (chars : List ℕ) (kind a n : ℕ) → Got chars kind a n → get_or chars 1 0 ≡ kind
given_type chars kind a n r =
    sym (type_of_kind (get_or chars 1 0) r.k r.fields.type_known) ∙ type_of_kind kind r.k r.known_is

-- the data of an S0 is its header
pub header_s0 : (chars : List ℕ) (kind a n : ℕ) → Got chars kind a n → kind ≡ 48 → (bs : List ℕ)
    → bs ≡ bytes (take (2 * length (take n zeros)) (drop 8 chars))
    → record { len = n; bytes = bs ++ drop n zeros } ≡ header_of (header_in (carried (read chars)) [])
header_s0 chars kind a n r c bs q =
    let x : S0Record chars a r.ds = s0_record chars r.k a r.ds r.is (given_type chars kind a n r ∙ c) in
    let e : 2 * length (take n zeros) ≡ 2 * length r.ds = omega (arith, r.len, length-take-le n zeros r.small.1) in
    let d : bs ≡ r.ds = q ∙ ap (λ (j : ℕ). bytes (take j (drop 8 chars))) e ∙ sym x.fields.data_is in
    let z : drop n zeros ≡ replicate (252 - length r.ds) 0 = padding n r.small.1 ∙ ap (λ (j : ℕ). replicate (252 - j) 0) (sym r.len) in
    (λ i. record { len = sym r.len i; bytes = d i ++ z i }) ∙ ap (λ (x : Read). header_of (header_in (carried x) [])) (sym x.is)

-- A type character and its kind, and row 6 by numbers.
use mathlib.Core.Path.{◌≡◌, refl, sym, ap, ◌∙◌, subst}
use Prim.Native.Nat.{ℕ, ◌+◌, ◌*◌, ◌≤◌, ◌<◌}
use native.Mathlib.Omega.{arith}
use mathlib.Core.Bool.{Bool, true, false, not, ◌&&◌, ◌||◌}
use mathlib.Core.Option.{Option, none, some}
use lib.Dec.{leb, ltb, eqb, lit≤}
use borrow.Author.Tests.{eqb-true, eqb-false, eq-eqb, ne_eqb, ltb-true, ltb-false, lt-ltb, le-ltb, le-leb, lt-leb}
use Rattle.srec.specs.Kinds.{Kind, kind_of, type_of, width, has_data, known}
use Rattle.srec.specs.Kinds.Kind.{S0, Data, S5, End}
use Rattle.srec.specs.Reading.{row6}
use Rattle.lists.proofs.TestLaws.{by_test}
use Rattle.srec_fields.specs.Records.{width_or0}

-- the kind of a character has it for its type, has 2 to 4 address bytes, and has data exactly up to '3'
abbrev Facts : ℕ → Option Kind → Type 0
Facts c none = Unit {0}
Facts c (some k) = (type_of k ≡ c) × (2 ≤ width k) × (width k ≤ 4) × (has_data k ≡ leb c 51)

-- what holds of the type n holds of a character that equals n
here : (c n : ℕ) (k : Kind) → eqb c n ≡ true → Facts n (some k) → Facts c (some k)
here c n k e f = subst (λ (x : ℕ). Facts x (some k)) (sym (eqb-true c n e)) f

-- the table of types, row by row
kind_facts : (c : ℕ) → Facts c (kind_of c)
unfolding kind_of
kind_facts c =
    by_test (eqb c 48) (λ e. rw e (here c 48 S0 e (refl, lit≤ tt, lit≤ tt, refl)))
    (λ e₁. by_test (eqb c 49) (λ e. rw (e₁, e) (here c 49 (Data 2) e (refl, lit≤ tt, lit≤ tt, refl)))
    (λ e₂. by_test (eqb c 50) (λ e. rw (e₁, e₂, e) (here c 50 (Data 3) e (refl, lit≤ tt, lit≤ tt, refl)))
    (λ e₃. by_test (eqb c 51) (λ e. rw (e₁, e₂, e₃, e) (here c 51 (Data 4) e (refl, lit≤ tt, lit≤ tt, refl)))
    (λ e₄. by_test (eqb c 53) (λ e. rw (e₁, e₂, e₃, e₄, e) (here c 53 S5 e (refl, lit≤ tt, lit≤ tt, refl)))
    (λ e₅. by_test (eqb c 55) (λ e. rw (e₁, e₂, e₃, e₄, e₅, e) (here c 55 (End 4) e (refl, lit≤ tt, lit≤ tt, refl)))
    (λ e₆. by_test (eqb c 56) (λ e. rw (e₁, e₂, e₃, e₄, e₅, e₆, e) (here c 56 (End 3) e (refl, lit≤ tt, lit≤ tt, refl)))
    (λ e₇. by_test (eqb c 57) (λ e. rw (e₁, e₂, e₃, e₄, e₅, e₆, e₇, e) (here c 57 (End 2) e (refl, lit≤ tt, lit≤ tt, refl)))
    (λ e₈. rw (e₁, e₂, e₃, e₄, e₅, e₆, e₇, e₈) tt))))))))

-- a type that is in the table, with w address bytes
pub record Known (c w : ℕ) : Type 0 where
  pub kind : Kind
  pub is : kind_of c ≡ some kind
  pub type_is : type_of kind ≡ c
  pub width_is : width kind ≡ w
  pub low : 2 ≤ w
  pub high : w ≤ 4
  pub data_is : has_data kind ≡ leb c 51

-- an answer of `width_of` that is not 0 is the width of a type in the table
pub known_type : (c w : ℕ) → w ≡ width_or0 (kind_of c) → (w ≡ 0 → ⊥) → Known c w
known_type c w q h = go (kind_of c) refl (kind_facts c)
  where
    go : (o : Option Kind) → kind_of c ≡ o → Facts c o → Known c w
    go none e f = absurd (h (q ∙ ap width_or0 e))
    go (some k) e f =
        let v : width k ≡ w = sym (q ∙ ap width_or0 e) in
        record { kind = k; is = e; type_is = f.0; width_is = v; low = omega (arith, f.1); high = omega (arith, f.2); data_is = f.3 }

-- a type in the table has 2 address bytes or more
pub width_least : (c : ℕ) → (width_or0 (kind_of c) ≡ 0 → ⊥) → 2 ≤ width_or0 (kind_of c)
width_least c h = (known_type c (width_or0 (kind_of c)) refl h).low

-- the kind of a record that was read, by its type character
pub known_kind : (c : ℕ) (k : Kind) → kind_of c ≡ some k → Known c (width k)
known_kind c k e =
    let f : Facts c (some k) = subst (Facts c) e (kind_facts c) in
    record { kind = k; is = e; type_is = f.0; width_is = refl; low = f.1; high = f.2; data_is = f.3 }

-- the type character of a kind
pub type_of_kind : (c : ℕ) (k : Kind) → kind_of c ≡ some k → type_of k ≡ c
type_of_kind c k e = let f : Facts c (some k) = subst (Facts c) e (kind_facts c) in f.0

-- ---- row 6

module _ (c w n count : ℕ) (t : Known c w) where
  -- `fits` answers no: the length does not agree with the count
  pub row_6_length : (n ≡ 4 + 2 * count → ⊥) → row6 (known (kind_of c)) n count ≡ true
  unfolding row6
  row_6_length h = rw (t.is, ne_eqb n (4 + 2 * count) h)

  -- `fits` answers no: no room for address and checksum
  pub row_6_low : n ≡ 4 + 2 * count → count < w + 1 → row6 (known (kind_of c)) n count ≡ true
  unfolding row6
  row_6_low h l = rw (t.is, eq-eqb n (4 + 2 * count) h, t.width_is, lt-ltb count (w + 1) l)

  -- the last test of row 6, where the first two do not hold
  six_last : n ≡ 4 + 2 * count → w + 1 ≤ count → row6 (known (kind_of c)) n count ≡ (not (leb c 51) && not (eqb count (w + 1)))
  unfolding row6
  six_last h l = rw (t.is, eq-eqb n (4 + 2 * count) h, t.width_is, le-ltb count (w + 1) l, t.data_is)

  -- `fits` answers yes for a type with data
  pub row_6_data : n ≡ 4 + 2 * count → w + 1 ≤ count → c ≤ 51 → row6 (known (kind_of c)) n count ≡ false
  row_6_data h l d = six_last h l ∙ rw (le-leb c 51 d)

  -- for a type without data the count alone decides
  pub row_6_none : n ≡ 4 + 2 * count → w + 1 ≤ count → 51 < c → row6 (known (kind_of c)) n count ≡ not (eqb count (w + 1))
  row_6_none h l d = six_last h l ∙ rw (lt-leb c 51 d)

  -- what a record that passes row 6 has
  pub row_6_inv : row6 (known (kind_of c)) n count ≡ false → (n ≡ 4 + 2 * count) × (w + 1 ≤ count)
  row_6_inv h =
      by_test (eqb n (4 + 2 * count))
      (λ e. let q : n ≡ 4 + 2 * count = eqb-true n (4 + 2 * count) e in
      by_test (ltb count (w + 1)) (λ f. absurd (both (row_6_low q (ltb-true count (w + 1) f)) h)) (λ f. (q, ltb-false count (w + 1) f)))
      (λ e. absurd (both (row_6_length (eqb-false n (4 + 2 * count) e)) h))
    where
      both : {b : Bool} → b ≡ true → b ≡ false → ⊥
      both p q = let z : ◌≡◌ {A = ℕ} 0 1 = cc in omega arith

  -- it does not apply, by its tests
  six_tests : not (row6 (known (kind_of c)) n count) ≡ (eqb n (4 + 2 * count) && not (ltb count (w + 1)) && (leb c 51 || eqb count (w + 1)))
  unfolding row6
  six_tests = rw (t.is, t.width_is, t.data_is) (tests (eqb n (4 + 2 * count)) (ltb count (w + 1)) (leb c 51) (eqb count (w + 1)))
    where
      tests : (p q r s : Bool) → not (not p || q || (not r && not s)) ≡ (p && not q && (r || s))
      tests false q r s = refl
      tests true true r s = refl
      tests true false true s = refl
      tests true false false true = refl
      tests true false false false = refl

-- the answer of `fits`
pub fits_is : (c n count : ℕ) → 2 ≤ width_or0 (kind_of c)
    → not (row6 (known (kind_of c)) n count)
    ≡ (eqb n (4 + 2 * count) && not (ltb count (width_or0 (kind_of c) + 1)) && (leb c 51 || eqb count (width_or0 (kind_of c) + 1)))
fits_is c n count h = six_tests c (width_or0 (kind_of c)) n count (known_type c (width_or0 (kind_of c)) refl (λ e. omega arith))

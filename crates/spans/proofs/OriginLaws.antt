-- The origin of a cell is the first record that addresses it; where row 13 refuses a record, that is an earlier one.
use mathlib.Core.Path.{◌≡◌, refl, sym, ap, ◌∙◌}
use Prim.Native.Nat.{ℕ, zero, suc, ◌+◌, ◌-◌, ◌≤◌, ◌<◌}
use native.Mathlib.Omega.{arith}
use mathlib.Core.Bool.{Bool, true, false}
use mathlib.Core.List.{List, [], ◌∷◌, ◌++◌}
use mathlib.Core.Option.{none, some}
use mathlib.Core.Logic.{◌⊎◌, inl, inr, ⊎_elim}
use lib.Dec.{leb, ltb, eqb}
use lib.ListN.{length}
use borrow.Author.Tests.{eqb-false, ne_eqb, leb-true, ltb-true, le-leb, lt-ltb}
use Rattle.lists.proofs.TestLaws.{by_test, and_both}
use Rattle.window.specs.declared.Refusal.{Refusal}
use Rattle.window.specs.Images.{Image, blank}
use Rattle.window.specs.Cells.{Cell, Run, cells, Hit, cells_of}
use Rattle.window.specs.Plans.{Plan, refusal, any_given, row12, row13, filled, placed}
use Rattle.window.specs.Plans.Plan.{store, stop, done}
use Rattle.window.specs.Plans.Outcome.{refused}
use Rattle.window.proofs.CellLaws.{In, cells_blank, in_high, in_left, in_right, in_cases, in_hit}
use Rattle.window.proofs.OrderLaws.{rising_cells, in_low}
use Rattle.window.proofs.FillLaws.{inside, middle, left, right, length_middle, cut, Between, between}
use Rattle.spans.specs.declared.Origin.{Origin}
use Rattle.spans.specs.Spans.{Store, stores_of, nowhere, covers, origin_in, origin_among, origin_of, or_else}
use Rattle.spans.specs.Facts.{Covers, Covered, Among, Windowless, Numbered, OriginIsFound, OriginIsFirst, NoneOtherwise, Overlap, Row13IsNamed}

-- ---- the first record that addresses a cell

-- the test says what `Covers` says
covers_inv : (A : ℕ) (r : Store) → covers r.addr (length r.bytes) A ≡ true → Covers A r
unfolding covers
covers_inv A r t =
    let k = and_both (leb r.addr A) (ltb (A - r.addr) (length r.bytes)) t in
    let low : r.addr ≤ A = leb-true r.addr A k.0 in
    (low, omega (arith, ltb-true (A - r.addr) (length r.bytes) k.1))

covers_is : (A : ℕ) (r : Store) → Covers A r → covers r.addr (length r.bytes) A ≡ true
unfolding covers
covers_is A r c = rw (le-leb r.addr A c.0, lt-ltb (A - r.addr) (length r.bytes) (omega (arith, c.0, c.1)))

-- a cell that is addressed has one of the records as its origin
found_among : (rs : List Store) (A : ℕ) → Covered A rs → (r : Store) × Among r rs × Covers A r × (origin_among A rs ≡ origin_in A r)
found_among [] A h = absurd h
found_among (r ∷ rs) A (inl c) = (r, inl refl, c, rw (covers_is A r c))
found_among (r ∷ rs) A (inr c) =
    let k = found_among rs A c in
    by_test (covers r.addr (length r.bytes) A) (λ t. (r, inl refl, covers_inv A r t, rw t)) (λ t. (k.0, inr k.1, k.2, rw t k.3))

pub origin_is_found : OriginIsFound
origin_is_found p A h = found_among (stores_of p) A h

-- a cell that no record addresses has none
none_among : (rs : List Store) (A : ℕ) → (Covered A rs → ⊥) → origin_among A rs ≡ nowhere
none_among [] A h = refl
none_among (r ∷ rs) A h =
    by_test (covers r.addr (length r.bytes) A) (λ t. absurd (h (inl (covers_inv A r t)))) (λ t. rw t (none_among rs A (λ c. h (inr c))))

pub none_otherwise : NoneOtherwise
none_otherwise p A h = none_among (stores_of p) A h

-- the records of a plan have rising numbers
pub among_above : (n : ℕ) (p : Plan) (r : Store) → Numbered n p → Among r (stores_of p) → n < r.number
among_above n (store m at a ds p) r k (inl e) = omega (arith, ap (λ (x : Store). x.number) e, k.0)
among_above n (store m at a ds p) r k (inr x) = omega (arith, among_above m p r k.1 x, k.0)
among_above n (stop f) r k x = absurd x
among_above n (done s) r k x = absurd x

-- so no record before the origin addresses the cell
first_from : (p : Plan) (lo A : ℕ) → Numbered lo p → (r : Store) → Among r (stores_of p) → Covers A r → (origin_of A p).ordinal ≤ r.number
first_from (store n at a ds p) lo A k r m c =
    by_test (covers a (length ds) A) (λ t. rw t (low m)) (λ t. rw t (behind t m (λ i. first_from p n A k.1 r i c)))
  where
    low : Among r (stores_of (store n at a ds p)) → n ≤ r.number
    low (inl e) = omega (arith, ap (λ (x : Store). x.number) e)
    low (inr i) = omega (arith, among_above n p r k.1 i)

    behind : covers a (length ds) A ≡ false → Among r (stores_of (store n at a ds p))
        → (Among r (stores_of p) → (origin_among A (stores_of p)).ordinal ≤ r.number) → (origin_among A (stores_of p)).ordinal ≤ r.number
    behind t (inl e) later =
        absurd (let z : ◌≡◌ {A = Bool} true false
        = sym (covers_is A r c) ∙ ap (λ (x : Store). covers x.addr (length x.bytes) A) e ∙ t in let w : ◌≡◌ {A = ℕ} 0 1 = cc in omega arith)
    behind t (inr i) later = later i
first_from (stop f) lo A k r m c = absurd m
first_from (done s) lo A k r m c = absurd m

pub origin_is_first : OriginIsFirst
origin_is_first p A k r m c = first_from p 0 A k r m c

-- one record is looked at, then the others
pub origin_more : (A : ℕ) (o : Origin) (r : Store) → (r.number ≡ 0 → ⊥) → (rs : List Store)
    → or_else (or_else o (origin_among A (r ∷ []))) (origin_among A rs) ≡ or_else o (origin_among A (r ∷ rs))
origin_more A o r k rs =
    by_test (eqb o.ordinal 0)
    (λ t. by_test (covers r.addr (length r.bytes) A) (λ c. rw (t, c, ne_eqb r.number 0 k)) (λ c. rw (t, c)))
    (λ t. rw (t, t))

-- ---- row 13

-- where a cell was given a byte, the image has it among its cells
any_some : (a : ℕ) (x : Image) → any_given x ≡ true → (A : ℕ) × (B : ℕ) × In A B (cells a x)
any_some a [] h = absurd (let z : ◌≡◌ {A = ℕ} 0 1 = cc in omega arith)
any_some a (none ∷ x) h = any_some (suc a) x h
any_some a (some b ∷ x) h = (a, b, inl (refl, refl))

-- row 13: the record addresses a cell of the image
given_cell : (base : ℕ) (img : Image) (r : Store) → row12 base (length img) r.addr (length r.bytes) ≡ false
    → row13 base img r.addr (length r.bytes) ≡ true → (A : ℕ) × (B : ℕ) × In A B (cells base img) × Covers A r
unfolding row13
given_cell base img r h t = go (length r.bytes) refl h t
  where
    go : (n : ℕ) → length r.bytes ≡ n → row12 base (length img) r.addr n ≡ false → row13 base img r.addr n ≡ true
        → (A : ℕ) × (B : ℕ) × In A B (cells base img) × Covers A r
    go zero e x y = absurd (let z : ◌≡◌ {A = ℕ} 0 1 = cc in omega arith)
    go (suc m) e x y =
        let w = inside base (length img) r.addr m x in
        let mid : Image = middle base img r.addr (suc m) w.0 w.1 in
        let k = any_some r.addr mid y in
        let A : ℕ = k.0 in
        let B : ℕ = k.1 in
        let low : List Cell = cells base (left base img r.addr (suc m) w.0 w.1) in
        let high : List Cell = cells (r.addr + suc m) (right base img r.addr (suc m) w.0 w.1) in (
          A,
          B,
          rw (cut base img r.addr (suc m) w.0 w.1)
              (in_right A B low (cells r.addr mid ++ high) (in_left A B (cells r.addr mid) high k.2)),
          (
            in_low A B r.addr (cells r.addr mid) (rising_cells r.addr mid) k.2,
            omega (arith, in_high A B r.addr mid k.2, length_middle base img r.addr (suc m) w.0 w.1, e),
          ),
        )

-- a cell of the image behind a store was there, or the record addresses it
in_filled : (A B base : ℕ) (img : Image) (r : Store) → row12 base (length img) r.addr (length r.bytes) ≡ false
    → row13 base img r.addr (length r.bytes) ≡ false → In A B (cells base (filled base img r.addr r.bytes))
    → In A B (cells base img) ⊎ Covers A r
in_filled A B base img r h t k =
    let run : Run = record { addr = r.addr; bytes = r.bytes } in
    let b : Between base img r.addr r.bytes = between base img r.addr r.bytes h t in
    ⊎_elim {C = In A B (cells base img) ⊎ Covers A r} (λ l. inl (rw b.old (in_left A B b.low b.high l)))
    (λ l. ⊎_elim {C = In A B (cells base img) ⊎ Covers A r} (λ g. inr (hits (in_hit A B run g)))
    (λ g. inl (rw b.old (in_right A B b.low b.high g))) (in_cases A B (cells_of run) b.high l))
    (in_cases A B b.low (cells_of run ++ b.high) (rw b.new at k))
  where
    hits : Hit A B (record { addr = r.addr; bytes = r.bytes }) → Covers A r
    hits g = (omega (arith, g.3), omega (arith, g.1, g.3))

-- an origin that was found stays
stays : (o p : Origin) → 0 < o.ordinal → or_else o p ≡ o
stays o p h = rw (ne_eqb o.ordinal 0 (λ e. omega (arith, h, e)))

-- a record's number is above those of the origins before it
number_above : (A : ℕ) (o : Origin) (r : Store) → o.ordinal < r.number → (or_else o (origin_among A (r ∷ []))).ordinal ≤ r.number
number_above A o r h =
    by_test (eqb o.ordinal 0)
    (λ t. by_test (covers r.addr (length r.bytes) A) (λ c. rw (t, c) (omega arith)) (λ c. rw (t, c) (omega arith)))
    (λ t. rw t (omega arith))

-- a cell that it addresses has an origin
number_found : (A : ℕ) (o : Origin) (r : Store) → o.ordinal < r.number → Covers A r → 0 < (or_else o (origin_among A (r ∷ []))).ordinal
number_found A o r h c =
    by_test (eqb o.ordinal 0) (λ t. rw (t, covers_is A r c) (omega arith)) (λ t. rw t (positive o.ordinal (eqb-false o.ordinal 0 t)))
  where
    positive : (k : ℕ) → (k ≡ 0 → ⊥) → 0 < k
    positive k q = omega (arith, q)

-- what was seen so far: no number above lo, and an origin for each cell of the image
record Seen (base : ℕ) (img : Image) (lo : ℕ) (seen : ℕ → Origin) : Type 0 where
  small : (A : ℕ) → (seen A).ordinal ≤ lo
  some : (A B : ℕ) → In A B (cells base img) → 0 < (seen A).ordinal

-- what is left of a plan, and what was seen of it, make the whole
record Rest (whole p : Plan) (seen : ℕ → Origin) : Type 0 where
  own : (r : Store) → Among r (stores_of p) → Among r (stores_of whole)
  origins : (A : ℕ) → origin_of A whole ≡ or_else (seen A) (origin_among A (stores_of p))

-- a record is laid on the image
abbrev with_record : (ℕ → Origin) → Store → ℕ → Origin
with_record seen r A = or_else (seen A) (origin_among A (r ∷ []))

-- its own cells have an origin behind it
seen_more : (base : ℕ) (img : Image) (lo : ℕ) (seen : ℕ → Origin) (r : Store) → lo < r.number → Seen base img lo seen
    → row12 base (length img) r.addr (length r.bytes) ≡ false → row13 base img r.addr (length r.bytes) ≡ false
    → Seen base (filled base img r.addr r.bytes) r.number (with_record seen r)
seen_more base img lo seen r k s t v =
    let above : (A : ℕ) → (seen A).ordinal < r.number = λ A. omega (arith, s.small A, k) in
    record {
      small = λ A. number_above A (seen A) r (above A);
      some = λ A B m. ⊎_elim {C = 0 < (with_record seen r A).ordinal}
          (λ g. rw (stays (seen A) (origin_among A (r ∷ [])) (s.some A B g)) (s.some A B g)) (λ c. number_found A (seen A) r (above A) c)
          (in_filled A B base img r t v m);
    }

-- the rest of the plan begins behind it
rest_more : (whole p : Plan) (seen : ℕ → Origin) (r : Store) → 0 < r.number
    → Rest whole (store r.number r.place r.addr r.bytes p) seen → Rest whole p (with_record seen r)
rest_more whole p seen r k x =
    record {
      own = λ q m. x.own q (inr m);
      origins = λ A. x.origins A ∙ sym (origin_more A (seen A) r (λ e. omega (arith, e, k)) (stores_of p));
    }

module _ (whole : Plan) (base : ℕ) (f : Refusal) (thirteen : f.reason ≡ 13) where
  -- a record that row 13 refuses
  overlap : (r : Store) (p : Plan) (img : Image) (lo : ℕ) (seen : ℕ → Origin) → lo < r.number → Seen base img lo seen
      → Rest whole (store r.number r.place r.addr r.bytes p) seen
      → row12 base (length img) r.addr (length r.bytes) ≡ false → row13 base img r.addr (length r.bytes) ≡ true
      → refused (refusal 13 r.number r.place) ≡ refused f → Overlap whole f.ordinal f.place
  overlap r p img lo seen k s x t v q =
      let c = given_cell base img r t v in
      let A : ℕ = c.0 in
      let found : 0 < (seen A).ordinal = s.some A c.1 c.2 in
      let is : origin_of A whole ≡ seen A = x.origins A ∙ stays (seen A) (origin_among A (r ∷ stores_of p)) found in
      let ordinal : (origin_of A whole).ordinal ≡ (seen A).ordinal = ap (λ (o : Origin). o.ordinal) is in
      let number : r.number ≡ f.ordinal = cc in
      record {
        later = r;
        among = x.own r (inl refl);
        number = number;
        place = cc;
        cell = A;
        covers = c.3;
        found = omega (arith, ordinal, found);
        earlier = omega (arith, ordinal, number, s.small A, k);
      }

  -- the plan's records one after the other
  walk : (p : Plan) (img : Image) (lo : ℕ) (seen : ℕ → Origin) → Windowless p → Numbered lo p → Seen base img lo seen → Rest whole p seen
      → placed base img p ≡ refused f → Overlap whole f.ordinal f.place
  walk (stop g) img lo seen w k s x q = absurd (let e : g.reason ≡ f.reason = cc in w.1 (e ∙ thirteen))
  walk (done t) img lo seen w k s x q = absurd (let z : ◌≡◌ {A = ℕ} 0 1 = cc in omega arith)
  walk (store n at a ds p) img lo seen w k s x q =
      let r : Store = record { number = n; place = at; addr = a; bytes = ds } in
      by_test (row12 base (length img) a (length ds)) (λ t. absurd (twelve (rw t at q)))
      (λ t. by_test (row13 base img a (length ds)) (λ v. overlap r p img lo seen k.0 s x t v (rw (t, v) at q))
      (λ v. walk p (filled base img a ds) n (with_record seen r) w k.1 (seen_more base img lo seen r k.0 s t v)
      (rest_more whole p seen r (omega (arith, k.0)) x) (rw (t, v) at q)))
    where
      twelve : refused (refusal 12 n at) ≡ refused f → ⊥
      twelve g = let e : 12 ≡ f.reason = cc in omega (arith, e, thirteen)

-- where row 13 refuses a record, an earlier record that addresses one of its cells can be named
pub row_13_is_named : Row13IsNamed
row_13_is_named p base size f w k q e =
    walk p base f e p (blank size) 0 (λ A. nowhere) w k
    (record { small = λ A. omega arith; some = λ A B m. absurd (rw (cells_blank base size) at m) }) (record { own = λ r m. m; origins = λ A. refl }) q

-- A span is exact, and a window that has it in it has room for every record.
use mathlib.Core.Path.{◌≡◌, refl, sym, ap, ◌∙◌, subst}
use Prim.Native.Nat.{ℕ, suc, ◌+◌, ◌-◌, ◌≤◌, ◌<◌, min, max}
use native.Mathlib.Omega.{arith}
use mathlib.Core.Bool.{true, false}
use mathlib.Core.List.{List, [], ◌∷◌}
use mathlib.Core.Logic.{◌⊎◌, inl, inr, ⊎_elim}
use lib.Dec.{ltb, eqb}
use lib.ListN.{length}
use borrow.Author.Tests.{eqb-true, eqb-false, ltb-true, ltb-false}
use Rattle.lists.proofs.TestLaws.{by_test}
use Rattle.window.specs.declared.Refusal.{Refusal}
use Rattle.window.specs.Images.{Image, blank}
use Rattle.window.specs.Cells.{Addressed}
use Rattle.window.specs.Plans.{Plan, refusal, row12, row13, filled, placed}
use Rattle.window.specs.Plans.Plan.{store, stop, done}
use Rattle.window.specs.Plans.Outcome.{refused}
use Rattle.window.proofs.PlanLaws.{stores}
use Rattle.window.proofs.FillLaws.{filled_none}
use Rattle.window.proofs.RoomLaws.{length_blank, filled_length, not_row12}
use Rattle.spans.specs.declared.Span.{Span}
use Rattle.spans.specs.Spans.{Store, stores_of, no_span, from_to, widened, span_with, span_of}
use Rattle.spans.specs.Facts.{Covers, Covered, Within, SpanIsExact, Windowless, Never12}

-- ---- one record

module _ (s : Span) (r : Store) where
  -- the span with the record's cells
  abbrev wide : Span
  wide = widened s r.addr (length r.bytes)

  -- how many these are
  abbrev n : ℕ
  n = length r.bytes

  -- the address of the last of them
  abbrev last : ℕ
  last = r.addr + (n - 1)

  -- by cases: no cell more, some cells more, or the first cells
  by_cells : (P : Span → Type 0) → (n ≡ 0 → P s) → (0 < n → s.any ≡ true → P (from_to (min s.lowest r.addr) (max s.highest last)))
      → (0 < n → s.any ≡ false → P (from_to r.addr last)) → P wide
  unfolding widened
  by_cells P f g h =
      by_test (eqb n 0) (λ t. rw t (f (eqb-true n 0 t)))
      (λ t. let some : 0 < n = positive n (eqb-false n 0 t) in by_test s.any (λ a. rw (t, a) (g some a)) (λ a. rw (t, a) (h some a)))
    where
      positive : (k : ℕ) → (k ≡ 0 → ⊥) → 0 < k
      positive k q = omega (arith, q)

  -- a span without cells has none
  never : {X : Type 0} → s.any ≡ false → s.any ≡ true → X
  never a b = absurd (let q : false ≡ true = sym a ∙ b in let z : ◌≡◌ {A = ℕ} 0 1 = cc in omega arith)

  -- it has the cells of both
  wide_holds : (A : ℕ) → Within A s ⊎ Covers A r → Within A wide
  wide_holds A h =
      by_cells (Within A) (λ z. ⊎_elim {C = Within A s} (λ w. w) (λ c. absurd (omega (arith, c.0, c.1, z))) h)
      (λ z a. ⊎_elim {C = Within A (from_to (min s.lowest r.addr) (max s.highest last))}
      (λ w. (refl, omega (arith, w.1), omega (arith, w.2))) (λ c. (refl, omega (arith, c.0), omega (arith, c.1))) h)
      (λ z a. ⊎_elim {C = Within A (from_to r.addr last)} (λ w. never a w.0) (λ c. (refl, c.0, omega (arith, c.1))) h)

  -- its lowest address is the old one, or the record's
  wide_lowest : wide.any ≡ true → ((s.any ≡ true) × (wide.lowest ≡ s.lowest)) ⊎ Covers wide.lowest r
  wide_lowest =
      by_cells (λ w. w.any ≡ true → ((s.any ≡ true) × (w.lowest ≡ s.lowest)) ⊎ Covers w.lowest r) (λ z e. inl (e, refl))
      (λ z a e. by_test (ltb r.addr s.lowest) (λ t. inr (omega (arith, ltb-true r.addr s.lowest t), omega (arith, ltb-true r.addr s.lowest t)))
      (λ t. inl (a, omega (arith, ltb-false r.addr s.lowest t)))) (λ z a e. inr (omega arith, omega arith))

  -- so is its highest
  wide_highest : wide.any ≡ true → ((s.any ≡ true) × (wide.highest ≡ s.highest)) ⊎ Covers wide.highest r
  wide_highest =
      by_cells (λ w. w.any ≡ true → ((s.any ≡ true) × (w.highest ≡ s.highest)) ⊎ Covers w.highest r) (λ z e. inl (e, refl))
      (λ z a e. by_test (ltb s.highest last)
      (λ t. inr (omega (arith, ltb-true s.highest last t), omega (arith, ltb-true s.highest last t)))
      (λ t. inl (a, omega (arith, ltb-false s.highest last t)))) (λ z a e. inr (omega arith, omega arith))

  -- where it has no cell it is the old one
  wide_none : wide.any ≡ false → wide ≡ s
  wide_none =
      by_cells (λ w. w.any ≡ false → w ≡ s) (λ z e. refl) (λ z a e. absurd (let y : ◌≡◌ {A = ℕ} 0 1 = cc in omega arith))
      (λ z a e. absurd (let y : ◌≡◌ {A = ℕ} 0 1 = cc in omega arith))

-- ---- many

-- the span with all of them has the cells of all
all_holds : (s : Span) (rs : List Store) (A : ℕ) → Within A s ⊎ Covered A rs → Within A (span_with s rs)
all_holds s [] A h = ⊎_elim {C = Within A s} (λ w. w) (λ c. absurd c) h
all_holds s (r ∷ rs) A (inl w) = all_holds (wide s r) rs A (inl (wide_holds s r A (inl w)))
all_holds s (r ∷ rs) A (inr (inl c)) = all_holds (wide s r) rs A (inl (wide_holds s r A (inr c)))
all_holds s (r ∷ rs) A (inr (inr c)) = all_holds (wide s r) rs A (inr c)

-- its lowest address is the old one, or that of a record's cell
all_lowest : (s : Span) (rs : List Store) → (span_with s rs).any ≡ true
    → ((s.any ≡ true) × ((span_with s rs).lowest ≡ s.lowest)) ⊎ Covered (span_with s rs).lowest rs
all_lowest s [] h = inl (h, refl)
all_lowest s (r ∷ rs) h =
    let A : ℕ = (span_with (wide s r) rs).lowest in
    ⊎_elim {C = ((s.any ≡ true) × (A ≡ s.lowest)) ⊎ Covered A (r ∷ rs)}
    (λ q. ⊎_elim {C = ((s.any ≡ true) × (A ≡ s.lowest)) ⊎ Covered A (r ∷ rs)} (λ k. inl (k.0, q.1 ∙ k.1))
    (λ k. inr (inl (subst (λ (x : ℕ). Covers x r) (sym q.1) k))) (wide_lowest s r q.0))
    (λ q. inr (inr q)) (all_lowest (wide s r) rs h)

-- so is its highest
all_highest : (s : Span) (rs : List Store) → (span_with s rs).any ≡ true
    → ((s.any ≡ true) × ((span_with s rs).highest ≡ s.highest)) ⊎ Covered (span_with s rs).highest rs
all_highest s [] h = inl (h, refl)
all_highest s (r ∷ rs) h =
    let A : ℕ = (span_with (wide s r) rs).highest in
    ⊎_elim {C = ((s.any ≡ true) × (A ≡ s.highest)) ⊎ Covered A (r ∷ rs)}
    (λ q. ⊎_elim {C = ((s.any ≡ true) × (A ≡ s.highest)) ⊎ Covered A (r ∷ rs)} (λ k. inl (k.0, q.1 ∙ k.1))
    (λ k. inr (inl (subst (λ (x : ℕ). Covers x r) (sym q.1) k))) (wide_highest s r q.0))
    (λ q. inr (inr q)) (all_highest (wide s r) rs h)

-- where it has no cell it is the old one
all_none : (s : Span) (rs : List Store) → (span_with s rs).any ≡ false → span_with s rs ≡ s
all_none s [] h = refl
all_none s (r ∷ rs) h = let e : span_with (wide s r) rs ≡ wide s r = all_none (wide s r) rs h in e ∙ wide_none s r (ap (λ (x : Span). x.any) (sym e) ∙ h)

-- the span of a plan is exact
pub span_is_exact : SpanIsExact
span_is_exact p =
    record {
      holds = λ A c. all_holds no_span (stores_of p) A (inr c);
      lowest = λ h. ⊎_elim {C = Covered (span_of p).lowest (stores_of p)} (λ q. nothing q.0) (λ q. q) (all_lowest no_span (stores_of p) h);
      highest = λ h. ⊎_elim {C = Covered (span_of p).highest (stores_of p)} (λ q. nothing q.0) (λ q. q) (all_highest no_span (stores_of p) h);
      none = all_none no_span (stores_of p);
    }
  where
    nothing : {X : Type 0} → false ≡ true → X
    nothing q = absurd (let z : ◌≡◌ {A = ℕ} 0 1 = cc in omega arith)

-- a cell that the stores of a plan address is one that its records address
pub addressed_covered : (p : Plan) (A B : ℕ) → Addressed A B (stores p) → Covered A (stores_of p)
addressed_covered (store n at a ds p) A B (inl h) = inl (omega (arith, h.3), omega (arith, h.1, h.3))
addressed_covered (store n at a ds p) A B (inr k) = inr (addressed_covered p A B k)
addressed_covered (stop f) A B k = k
addressed_covered (done s) A B k = k

-- ---- row 12

-- a window of `size` cells from base on has every cell of these records
abbrev AllIn : ℕ → ℕ → List Store → Type 0
AllIn base size rs = (A : ℕ) → Covered A rs → (base ≤ A) × (A < base + size)

-- a window with these cells has room for a record of data bytes
room : (base : ℕ) (img : Image) (r : Store) (rs : List Store) → AllIn base (length img) (r ∷ rs)
    → (row12 base (length img) r.addr (length r.bytes) ≡ false) × (length (filled base img r.addr r.bytes) ≡ length img)
unfolding row12
room base img r rs h = go r.bytes refl
  where
    go : (ds : List ℕ) → r.bytes ≡ ds → (row12 base (length img) r.addr (length ds) ≡ false) × (length (filled base img r.addr ds) ≡ length img)
    go [] e = (refl, ap length (filled_none base img r.addr))
    go (d ∷ ds) e =
        let n : length r.bytes ≡ suc (length ds) = ap length e in
        let low = h r.addr (inl (omega arith, omega (arith, n))) in
        let high = h (r.addr + length ds) (inl (omega arith, omega (arith, n))) in
        let top : r.addr + suc (length ds) ≤ base + length img = omega (arith, high.1) in
        (not_row12 base img r.addr (d ∷ ds) low.0 top, filled_length base img r.addr (d ∷ ds) low.0 top)

-- in such a window row 12 refuses none of them
no_12 : (p : Plan) (base : ℕ) (img : Image) (f : Refusal) → Windowless p → AllIn base (length img) (stores_of p) → placed base img p ≡ refused f
    → f.reason ≡ 12 → ⊥
no_12 (store n at a ds p) base img f w h q e =
    let r : Store = record { number = n; place = at; addr = a; bytes = ds } in
    let k = room base img r (stores_of p) h in
    by_test (row13 base img a (length ds))
    (λ t. let g : refused (refusal 13 n at) ≡ refused f = rw (k.0, t) at q in thirteen g)
    (λ t. no_12 p base (filled base img a ds) f w (λ A c. rw k.1 (h A (inr c))) (rw (k.0, t) at q) e)
  where
    thirteen : refused (refusal 13 n at) ≡ refused f → ⊥
    thirteen g = let m : 13 ≡ f.reason = cc in omega (arith, m, e)
no_12 (stop g) base img f w h q e = let m : g.reason ≡ f.reason = cc in w.0 (m ∙ e)
no_12 (done s) base img f w h q e = let z : ◌≡◌ {A = ℕ} 0 1 = cc in omega arith

-- in a window that has the span in it row 12 is never given
pub never_12 : Never12
never_12 p base size f w h q e =
    no_12 p base (blank size) f w
    (λ A c. let i = (span_is_exact p).holds A c in let k = h i.0 in (omega (arith, i.1, k.0), rw length_blank (omega (arith, i.2, k.1)))) q e

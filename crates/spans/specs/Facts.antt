-- What spans and origins say, whatever the plan: statements over the definitions. Their proofs are in SpanLaws and OriginLaws of proofs/.
use Rattle.std.specs.Prelude.{◌≡◌, ℕ, ◌+◌, ◌≤◌, ◌<◌, true, false, List, [], ◌∷◌, ◌⊎◌, length}
use Rattle.window.specs.declared.Refusal.{Refusal}
use Rattle.window.specs.Images.{blank}
use Rattle.window.specs.Plans.{Plan, placed}
use Rattle.window.specs.Plans.Plan.{store, stop, done}
use Rattle.window.specs.Plans.Outcome.{refused}
use Rattle.spans.specs.declared.Span.{Span}
use Rattle.spans.specs.Spans.{Store, stores_of, no_span, span_of, nowhere, origin_in, origin_of}

-- a record addresses the cell at A
abbrev pub Covers : ℕ → Store → Type 0
Covers A r = (r.addr ≤ A) × (A < r.addr + length r.bytes)

-- one of these records does
abbrev pub Covered : ℕ → List Store → Type 0
Covered A [] = ⊥
Covered A (r ∷ rs) = Covers A r ⊎ Covered A rs

-- r is one of these records
abbrev pub Among : Store → List Store → Type 0
Among r [] = ⊥
Among r (q ∷ rs) = (r ≡ q) ⊎ Among r rs

-- ---- the span

-- from the lowest to the highest address
abbrev pub Within : ℕ → Span → Type 0
Within A s = (s.any ≡ true) × (s.lowest ≤ A) × (A ≤ s.highest)

-- every addressed cell lies in the span, both ends are addressed, and where there is no cell all is 0
pub record Exact (p : Plan) : Type 0 where
  pub holds : (A : ℕ) → Covered A (stores_of p) → Within A (span_of p)
  pub lowest : (span_of p).any ≡ true → Covered (span_of p).lowest (stores_of p)
  pub highest : (span_of p).any ≡ true → Covered (span_of p).highest (stores_of p)
  pub none : (span_of p).any ≡ false → span_of p ≡ no_span

abbrev pub SpanIsExact : Type 0
SpanIsExact = (p : Plan) → Exact p

-- a window of `size` cells from base on has the span in it
abbrev pub Fits : ℕ → ℕ → Span → Type 0
Fits base size s = s.any ≡ true → (base ≤ s.lowest) × (s.highest < base + size)

-- a text's own refusal is by neither of the window's rows, 12 and 13
abbrev pub Windowless : Plan → Type 0
Windowless (store n at a ds p) = Windowless p
Windowless (stop f) = (f.reason ≡ 12 → ⊥) × (f.reason ≡ 13 → ⊥)
Windowless (done s) = Unit {0}

-- in a window that has the span in it row 12 is never given
abbrev pub Never12 : Type 0
Never12 =
    (p : Plan) (base size : ℕ) (f : Refusal) → Windowless p → Fits base size (span_of p) → placed base (blank size) p ≡ refused f → f.reason ≡ 12 → ⊥

-- ---- the origin of a cell

-- the numbers of a plan's records rise, from above n on
abbrev pub Numbered : ℕ → Plan → Type 0
Numbered n (store m at a ds p) = (n < m) × Numbered m p
Numbered n (stop f) = Unit {0}
Numbered n (done s) = Unit {0}

-- a cell that is addressed has one of the records as its origin
abbrev pub OriginIsFound : Type 0
OriginIsFound = (p : Plan) (A : ℕ) → Covered A (stores_of p) → (r : Store) × Among r (stores_of p) × Covers A r × (origin_of A p ≡ origin_in A r)

-- "the first record": none with a lower number addresses the cell
abbrev pub OriginIsFirst : Type 0
OriginIsFirst = (p : Plan) (A : ℕ) → Numbered 0 p → (r : Store) → Among r (stores_of p) → Covers A r → (origin_of A p).ordinal ≤ r.number

-- "none otherwise"
abbrev pub NoneOtherwise : Type 0
NoneOtherwise = (p : Plan) (A : ℕ) → (Covered A (stores_of p) → ⊥) → origin_of A p ≡ nowhere

-- record n, at a place, addresses a cell whose origin is an earlier record
pub record Overlap (p : Plan) (n at : ℕ) : Type 0 where
  pub later : Store
  pub among : Among later (stores_of p)
  pub number : later.number ≡ n
  pub place : later.place ≡ at
  pub cell : ℕ
  pub covers : Covers cell later
  pub found : 0 < (origin_of cell p).ordinal
  pub earlier : (origin_of cell p).ordinal < n

-- where row 13 refuses a record, an earlier record that addresses one of its cells can be named
abbrev pub Row13IsNamed : Type 0
Row13IsNamed =
    (p : Plan) (base size : ℕ) (f : Refusal) → Windowless p → Numbered 0 p → placed base (blank size) p ≡ refused f → f.reason ≡ 13
    → Overlap p f.ordinal f.place

-- The span of the cells that data records address, and the first record that addresses a cell.
use Rattle.std.specs.Prelude.{ℕ, ◌+◌, ◌-◌, min, max, Bool, true, false, cond, ◌&&◌, List, [], ◌∷◌, leb, ltb, eqb, length, get_or}
use Rattle.window.specs.Plans.{Plan}
use Rattle.window.specs.Plans.Plan.{store, stop, done}
use Rattle.spans.specs.declared.Span.{Span}
use Rattle.spans.specs.declared.Origin.{Origin}

-- a data record: its number, from 1, its place in the text, its address and its data bytes
pub record Store : Type 0 where
  pub number : ℕ
  pub place : ℕ
  pub addr : ℕ
  pub bytes : List ℕ

-- the data records that a plan asks a window for: those up to the first record that a row other than 12 and 13 refuses
abbrev pub stores_of : Plan → List Store
stores_of (store n at a ds p) = record { number = n; place = at; addr = a; bytes = ds } ∷ stores_of p
stores_of (stop f) = []
stores_of (done s) = []

-- ---- the span

abbrev pub no_span : Span
no_span = record { any = false; lowest = 0; highest = 0 }

abbrev pub from_to : ℕ → ℕ → Span
from_to low high = record { any = true; lowest = low; highest = high }

-- a span, and n cells from the address a on
unfoldable pub widened : Span → ℕ → ℕ → Span
widened s a n =
    let last = a + (n - 1) in
    cond (eqb n 0) s
    (cond s.any (from_to (min s.lowest a) (max s.highest last)) (from_to a last))

-- a span, and all cells that these records address
abbrev pub span_with : Span → List Store → Span
span_with s [] = s
span_with s (r ∷ rs) = span_with (widened s r.addr (length r.bytes)) rs

-- the lowest and the highest address of the cells that a plan's records address
abbrev pub span_of : Plan → Span
span_of p = span_with no_span (stores_of p)

-- ---- the origin of a cell

abbrev pub nowhere : Origin
nowhere = record { ordinal = 0; place = 0; byte = 0 }

-- n cells from the address a on: A is one of them
unfoldable pub covers : ℕ → ℕ → ℕ → Bool
covers a n A = leb a A && ltb (A - a) n

-- what a record says of a cell that it addresses
abbrev pub origin_in : ℕ → Store → Origin
origin_in A r = record { ordinal = r.number; place = r.place; byte = get_or r.bytes (A - r.addr) 0 }

-- the first of these records that addresses the cell at A
abbrev pub origin_among : ℕ → List Store → Origin
origin_among A [] = nowhere
origin_among A (r ∷ rs) = let o = origin_among A rs in cond (covers r.addr (length r.bytes) A) (origin_in A r) o

-- the first of a plan's records that addresses the cell at A
abbrev pub origin_of : ℕ → Plan → Origin
origin_of A p = origin_among A (stores_of p)

-- what was found first, or else what was found then
abbrev pub or_else : Origin → Origin → Origin
or_else o p = cond (eqb o.ordinal 0) p o

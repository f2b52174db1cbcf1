-- The test that is computed for each case of specs/Cases.antt; CaseLaws.antt says what follows from it.
use Prim.Native.Nat.{ℕ, suc, ◌+◌, ◌^◌}
use mathlib.Core.Bool.{Bool, true, false, cond, not, ◌&&◌, ◌||◌}
use mathlib.Core.List.{List, [], ◌∷◌, ◌++◌, map}
use mathlib.Core.Option.{some}
use lib.Dec.{leb, ltb, eqb}
use lib.ListN.{length}
use Rattle.window.specs.declared.Refusal.{Refusal}
use Rattle.window.specs.Entries.{Entry}
use Rattle.std.specs.Prelude.{None, Some}
use Rattle.window.specs.Cells.{Cell, cells}
use Rattle.window.specs.Plans.{Plan, is_present, address_of, Outcome}
use Rattle.window.specs.Plans.Plan.{store, stop, done}
use Rattle.window.specs.Plans.Outcome.{refused, accepted}
use Rattle.text.specs.Formats.{Format, plan}
use Rattle.text.specs.Load.{load}
use Rattle.text.specs.Write.{WriteOutcome, write}
use Rattle.text.specs.Write.WriteOutcome.{declined, wrote}
use Rattle.lists.specs.Characters.{codes}
use Rattle.text.specs.Cases.{Result, Case, row}
use Rattle.text.specs.Cases.Result.{fails, passes}
use Rattle.text.specs.Cases.Case.{writes, declines, loads, rejects}
use Rattle.text.proofs.FormatLaws.{Limits}

-- row 13 on a list of cells: one of them is among n cells from a on
abbrev pub meets : List Cell → ℕ → ℕ → Bool
meets [] a n = false
meets (c ∷ cs) a n = (leb a c.addr && ltb c.addr (a + n)) || meets cs a n

-- what a plan leads to in any window that holds what it asks for: only row 13 can still refuse it
abbrev pub result : List Cell → Plan → Result
result taken (store n at a ds p) =
    let r = result (taken ++ cells a (map some ds)) p in
    cond (meets taken a (length ds)) (row 13 n at) r
result taken (stop f) = fails f
result taken (done s) = passes s.header s.entry s.records taken

-- the cells that a plan asks for
abbrev pub asked : Plan → List Cell
asked (store n at a ds p) = cells a (map some ds) ++ asked p
asked (stop f) = []
asked (done s) = []

-- an address is in the list
abbrev pub is_in : ℕ → List ℕ → Bool
is_in a [] = false
is_in a (x ∷ xs) = eqb a x || is_in a xs

-- the addresses of all cells are in the list
abbrev pub all_in : List Cell → List ℕ → Bool
all_in [] xs = true
all_in (c ∷ cs) xs = is_in c.addr xs && all_in cs xs

-- two lists of numbers are equal
abbrev pub same_list : List ℕ → List ℕ → Bool
same_list [] [] = true
same_list [] (y ∷ ys) = false
same_list (x ∷ xs) [] = false
same_list (x ∷ xs) (y ∷ ys) = eqb x y && same_list xs ys

-- two lists of cells have the same addresses and bytes, in the same order
abbrev pub same_cells : List Cell → List Cell → Bool
same_cells [] [] = true
same_cells [] (y ∷ ys) = false
same_cells (x ∷ xs) [] = false
same_cells (x ∷ xs) (y ∷ ys) = eqb x.addr y.addr && (eqb x.byte y.byte && same_cells xs ys)

-- two refusals have the same row, record number, place and right byte
abbrev pub same_refusal : Refusal → Refusal → Bool
same_refusal f g = eqb f.reason g.reason && (eqb f.ordinal g.ordinal && (eqb f.place g.place && eqb f.want g.want))

-- two entries are both absent, or have the same address
abbrev pub same_entry : Entry → Entry → Bool
same_entry None None = true
same_entry None (Some b) = false
same_entry (Some a) None = false
same_entry (Some a) (Some b) = eqb a b

-- two results are the same refusal, or have the same values and cells
abbrev pub same_result : Result → Result → Bool
same_result (fails f) (fails g) = same_refusal f g
same_result (fails f) (passes h e r cs) = false
same_result (passes h e r cs) (fails f) = false
same_result (passes h e r cs) (passes h' e' r' cs') = same_list h h' && (same_entry e e' && (eqb r r' && same_cells cs cs'))

-- every address is at least lo, and above the one before it
abbrev pub is_rising : ℕ → List Cell → Bool
is_rising lo [] = true
is_rising lo (c ∷ cs) = leb lo c.addr && is_rising (suc c.addr) cs

-- the cells of a result are in rising order
abbrev pub ordered : Result → Bool
ordered (fails f) = true
ordered (passes h e r cs) = is_rising 0 cs

-- every number is a byte
abbrev pub all_bytes : List ℕ → Bool
all_bytes [] = true
all_bytes (b ∷ bs) = ltb b 256 && all_bytes bs

-- every cell is below top, and holds a byte
abbrev pub all_small : ℕ → List Cell → Bool
all_small top [] = true
all_small top (c ∷ cs) = ltb c.addr top && (ltb c.byte 256 && all_small top cs)

-- two truth values are equal
abbrev pub same_test : Bool → Bool → Bool
same_test true b = b
same_test false b = not b

-- cells, header and entry keep to a format's limits
abbrev pub is_storable : Limits → List Cell → List ℕ → Entry → Bool
is_storable L cs h e =
    (is_rising 0 cs && all_small L.top cs) && ((all_bytes h && leb (length h) L.most) &&
    (same_test (is_present e) L.started && ltb (address_of e) (2 ^ 32)))

-- a write is refused so
abbrev pub is_declined : Refusal → WriteOutcome → Bool
is_declined f (declined g) = same_refusal g f
is_declined f (wrote t) = false

-- a load is refused so
abbrev pub is_refused : Refusal → Outcome → Bool
is_refused f (refused g) = same_refusal g f
is_refused f (accepted s img) = false

-- the test of one case: the canonical text, the refusal, or the cells asked for and the result
abbrev pub passing : Format → Limits → Case → Bool
passing F L (writes cs h e t n) = is_storable L cs h e && (same_list (F.canonical cs h e) (codes t) && eqb (length (codes t)) n)
passing F L (declines W h e room f) = is_declined f (write F W h e room)
passing F L (rejects W t f) = is_refused f (load W (plan F t))
passing F L (loads t addresses r) = all_in (asked (plan F (codes t))) addresses && (same_result (result [] (plan F (codes t))) r && ordered r)

-- every case of the list passes
abbrev pub all_pass : Format → Limits → List Case → Bool
all_pass F L [] = true
all_pass F L (c ∷ cs) = passing F L c && all_pass F L cs

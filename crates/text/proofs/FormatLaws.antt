-- What a format has to show, and what then holds of the plan of any of its texts: bounds, reasons, counts and content.
use mathlib.Core.Path.{◌≡◌, refl, sym, ap, ◌∙◌, subst}
use Prim.Native.Nat.{ℕ, ◌+◌, ◌^◌, ◌≤◌, ◌<◌}
use native.Mathlib.Omega.{arith}
use mathlib.Core.Bool.{Bool, false}
use mathlib.Core.List.{List, [], ◌∷◌}
use mathlib.Core.Logic.{◌⊎◌, inl, inr}
use lib.Dec.{T, lit<}
use lib.ListN.{length}
use Rattle.window.specs.Entries.{Entry}
use Rattle.window.specs.Windows.{Window, Allowed}
use Rattle.window.specs.Images.{Image}
use Rattle.window.specs.Cells.{Cell, Run, shown, total}
use Rattle.window.specs.Plans.{Summary, is_present, address_of, Plan, Outcome, row12, row13, filled, placed}
use Rattle.window.specs.Plans.Plan.{store, stop, done}
use Rattle.window.specs.Plans.Outcome.{refused, accepted}
use Rattle.window.proofs.CellLaws.{In}
use Rattle.window.proofs.OrderLaws.{Rising}
use Rattle.window.proofs.PlanLaws.{stores, final}
use Rattle.lists.proofs.TestLaws.{Of, either}
use Rattle.lists.proofs.ByteLaws.{Bytes}
use Rattle.text.specs.Lines.{Line, lines}
use Rattle.text.specs.Scan.{Step, State, start, more, more_data, ended, onward, scan}
use Rattle.text.specs.Scan.Step.{refuse, skip, title, put, finish}
use Rattle.text.specs.Runs.{runs}
use Rattle.text.specs.Formats.{Row, Format, plan}
use Rattle.text.specs.Finds.{first_header}
use Rattle.text.specs.Terms.{data_records, header_among, entry_among, text_data, text_header, text_entry}
use Rattle.text.proofs.WalkLaws.{Inductive, accepted_walk, Counts, counts}

-- ---- bounds

-- what a format's texts can hold: addresses below `top`, headers of at most `most` bytes, an entry or none; the cut rule of its canonical
-- text; and the rows, each with the byte that would have been right, that a load may be refused by
pub record Limits : Type 0 where
  pub top : ℕ
  pub most : ℕ
  pub started : Bool
  pub follow : ℕ → ℕ
  pub refuses : ℕ → ℕ → Bool

-- a header within the limits
pub record HeaderOk (L : Limits) (h : List ℕ) : Type 0 where
  pub bytes : Bytes h
  pub short : length h ≤ L.most

-- an entry within the limits
pub record EntryOk (L : Limits) (e : Entry) : Type 0 where
  pub present : is_present e ≡ L.started
  pub small : address_of e < 2 ^ 32

-- cells in rising order, a header and an entry that a canonical text can hold
pub record Storable (L : Limits) (cs : List Cell) (h : List ℕ) (e : Entry) : Type 0 where
  pub rising : Rising 0 cs
  pub small : (A B : ℕ) → In A B cs → (A < L.top) × (B < 256)
  pub header : HeaderOk L h
  pub entry : EntryOk L e

-- a row other than 0, and a byte, that the limits have
abbrev pub Given : Limits → ℕ → ℕ → Type 0
Given L reason want = (0 < reason) × T (L.refuses reason want)

-- the rows that no format decides
pub record Shared (L : Limits) : Type 0 where
  pub one : T (L.refuses 1 0)
  pub two : T (L.refuses 2 0)
  pub twelve : T (L.refuses 12 0)
  pub thirteen : T (L.refuses 13 0)
  pub fourteen : T (L.refuses 14 0)

-- a line is refused for a reason, or keeps to the limits; a header is the first line
abbrev pub StepOk : Limits → State → Step → Type 0
StepOk L s (refuse f) = Given L f.reason f.want
StepOk L s skip = Unit {0}
StepOk L s (title h) = HeaderOk L h × (s.number ≡ 0)
StepOk L s (put a ds) = Bytes ds × (a + length ds ≤ L.top)
StepOk L s (finish e) = EntryOk L e

-- ---- what a format has to show

-- a step that refuses
abbrev pub IsRefusal : Step → Type 0
IsRefusal (refuse f) = Unit {0}
IsRefusal skip = ⊥
IsRefusal (title h) = ⊥
IsRefusal (put a ds) = ⊥
IsRefusal (finish e) = ⊥

-- a plan stores these runs and ends so; numbers and places of lines are forgotten
pub record Gives (p : Plan) (rs : List Run) (f : Plan) : Type 0 where
  pub asks : stores p ≡ rs
  pub ends : final p ≡ f

-- what the load of a text with these runs, header and entry says
abbrev pub summary_of : List Run → List ℕ → Entry → Summary
summary_of rs h e = record { header = h; entry = e; records = length rs; cells = total rs }

-- none of the writer's rows applies
abbrev pub NoRow : List Row → Type 0
NoRow [] = Unit {0}
NoRow (r ∷ rs) = (r.applies ≡ false) × NoRow rs

-- what makes a format one whose texts load and write as demand 3 says
pub record Lawful (F : Format) (L : Limits) : Type 0 where
  -- a line that is not refused does what it carries
  pub says : (s : State) (cs : List ℕ) → IsRefusal (F.step s cs) ⊎ (F.step s cs ≡ F.part cs)
  -- the limits have the rows that no format decides
  pub shared : Shared L
  -- a line keeps to the limits
  pub bounded : (s : State) (cs : List ℕ) → StepOk L s (F.step s cs)
  -- the plan of a canonical text asks for the runs of its cells and ends with its header and entry
  pub gives : (cs : List Cell) (h : List ℕ) (e : Entry) → Storable L cs h e
      → Gives (plan F (F.canonical cs h e)) (runs L.follow cs) (done (summary_of (runs L.follow cs) h e))
  -- the writer's rows let pass what can be stored
  pub passes : (bad : Row) → bad.applies ≡ false → (W : Window) (h : List ℕ) (e : Entry) → Allowed W → Storable L (shown W) h e → NoRow (F.rows bad W h e)

-- ---- bounds of any plan

-- a plan keeps to the limits, or stops for a reason
abbrev pub PlanOk : Limits → Plan → Type 0
PlanOk L (store n at a ds p) = Bytes ds × (a + length ds ≤ L.top) × PlanOk L p
PlanOk L (stop f) = Given L f.reason f.want
PlanOk L (done s) = HeaderOk L s.header × EntryOk L s.entry

module _ (step : State → List ℕ → Step) (L : Limits) (shared : Shared L) (ok : (s : State) (cs : List ℕ) → StepOk L s (step s cs)) (size : ℕ) where
  -- a text that has ended keeps to the limits, or row 2 refuses what is behind its end
  ended_ok : (s : State) (e : Entry) (ls : List Line) → HeaderOk L s.header → EntryOk L e → PlanOk L (ended s e ls)
  ended_ok s e [] h k = (h, k)
  ended_ok s e (l ∷ ls) h k = (lit< tt, shared.two)

  -- what a step within the limits leads to is within them, where the rest is
  onward_ok : (at : ℕ) (s : State) (ls : List Line) → ((u : State) → HeaderOk L u.header → PlanOk L (scan step size u ls)) → HeaderOk L s.header
      → (x : Step) → StepOk L s x → PlanOk L (onward s at (λ u. scan step size u ls) (λ e. ended s e ls) x)
  onward_ok at s ls g h (refuse f) k = k
  onward_ok at s ls g h skip k = g (more s s.header) h
  onward_ok at s ls g h (title t) k = g (more s t) k.0
  onward_ok at s ls g h (put a ds) k = (k.0, k.1, g (more_data s (length ds)) h)
  onward_ok at s ls g h (finish e) k = ended_ok s e ls h k

  -- the plan of any lines keeps to the limits, or stops for a reason
  scan_ok : (s : State) (ls : List Line) → HeaderOk L s.header → PlanOk L (scan step size s ls)
  scan_ok s [] h = (lit< tt, shared.fourteen)
  scan_ok s (l ∷ ls) h = onward_ok l.place s ls (λ u k. scan_ok u ls k) h (step s l.chars) (ok s l.chars)

-- the plan of any text keeps to the limits, or stops for a reason
pub plan_ok : (F : Format) (L : Limits) → Lawful F L → (text : List ℕ) → PlanOk L (plan F text)
unfolding plan
plan_ok F L laws text =
    scan_ok F.step L laws.shared laws.bounded (length text) start (lines F.gap 0 text) (record { bytes = tt; short = omega arith })

-- the data of every run are bytes, and end at the limit at the latest
abbrev pub AllBytes : Limits → List Run → Type 0
AllBytes L [] = Unit {0}
AllBytes L (r ∷ rs) = Bytes r.bytes × (r.addr + length r.bytes ≤ L.top) × AllBytes L rs

-- a plan within the limits stores bytes within them
pub stores_ok : (L : Limits) (p : Plan) → PlanOk L p → AllBytes L (stores p)
stores_ok L (store n at a ds p) h = (h.0, h.1, stores_ok L p h.2)
stores_ok L (stop f) h = tt
stores_ok L (done s) h = tt

-- a plan within the limits that ends well has a header and an entry within them
pub final_ok : (L : Limits) (p : Plan) (s : Summary) → PlanOk L p → final p ≡ done s → HeaderOk L s.header × EntryOk L s.entry
final_ok L (store n at a ds p) s o q = final_ok L p s o.2 q
final_ok L (stop f) s o q = absurd (let z : ◌≡◌ {A = ℕ} 0 1 = cc in omega arith)
final_ok L (done t) s o q = let e : t ≡ s = cc in subst (λ (u : Summary). HeaderOk L u.header × EntryOk L u.entry) e o

-- a refused load has a reason
abbrev pub Reasoned : Limits → Outcome → Type 0
Reasoned L (refused f) = Given L f.reason f.want
Reasoned L (accepted s img) = Unit {0}

-- in any window a plan within the limits is accepted, or refused for a reason
pub placed_reasoned : (L : Limits) → Shared L → (p : Plan) (base : ℕ) (img : Image) → PlanOk L p → Of (Reasoned L) (placed base img p)
placed_reasoned L shared (store n at a ds p) base img h =
    either (row12 base (length img) a (length ds)) (record { got = (lit< tt, shared.twelve) })
    (either (row13 base img a (length ds)) (record { got = (lit< tt, shared.thirteen) })
    (placed_reasoned L shared p base (filled base img a ds) h.2))
placed_reasoned L shared (stop f) base img h = record { got = h }
placed_reasoned L shared (done s) base img h = record { got = tt }

-- ---- content of an accepted plan

-- what is no refusal is what the line carries
pub said : (x y : Step) → IsRefusal x ⊎ (x ≡ y) → (z : Step) → x ≡ z → (IsRefusal z → ⊥) → y ≡ z
said x y (inl r) z e n = absurd (n (subst IsRefusal e r))
said x y (inr q) z e n = sym q ∙ e

-- what a plan stores and says, against the data lines, entry, header and first line's header read off the lines behind a state
record Carries (t : Summary) (s : State) (rs : List Run) (e : Entry) (h f : List ℕ) (p : Plan) : Type 0 where
  asks : stores p ≡ rs
  entry : t.entry ≡ e
  -- behind a first line the header is known, and no other comes any more
  header : 0 < s.number → t.header ≡ s.header
  no_more : 0 < s.number → h ≡ []
  first : s.header ≡ [] → t.header ≡ h
  at_first : s.header ≡ [] → t.header ≡ f

module _ (F : Format) (L : Limits) (laws : Lawful F L) (t : Summary) where
  -- what a plan stores and says is what these lines carry
  abbrev Carried : State → List Line → Plan → Type 0
  Carried s ls p = Carries t s (data_records F.part ls) (entry_among F.part ls) (header_among F.part ls) (first_header F.part ls) p

  -- a line that is not refused does what it carries
  carried : (s : State) (cs : List ℕ) (x : Step) → F.step s cs ≡ x → (IsRefusal x → ⊥) → F.part cs ≡ x
  carried s cs x e n = said (F.step s cs) (F.part cs) (laws.says s cs) x e n

  -- a line with the header is the first
  titled : (s : State) (cs h : List ℕ) → F.step s cs ≡ title h → s.number ≡ 0
  titled s cs h e = (subst (StepOk L s) e (laws.bounded s cs)).1

  -- at each kind of line a plan stores and says what the lines carry
  carries : Inductive F.step t Carried
  carries = record {
    at_skip = λ s l ls p e k. rw (carried s l.chars skip e (λ r. r)) (record {
      asks = k.asks;
      entry = k.entry;
      header = λ n. k.header (omega arith);
      no_more = λ n. k.no_more (omega arith);
      first = λ z. k.first z;
      at_first = λ z. k.header (omega arith) ∙ z;
    });
    at_title = λ s l ls p h e k. rw (carried s l.chars (title h) e (λ r. r)) (record {
      asks = k.asks;
      entry = k.entry;
      header = λ n. absurd (omega (arith, titled s l.chars h e));
      no_more = λ n. absurd (omega (arith, titled s l.chars h e));
      first = λ z. k.header (omega arith);
      at_first = λ z. k.header (omega arith);
    });
    at_put = λ s l ls p a ds e k. rw (carried s l.chars (put a ds) e (λ r. r)) (record {
      asks = ap {B = List Run} (λ x. record { addr = a; bytes = ds } ∷ x) k.asks;
      entry = k.entry;
      header = λ n. k.header (omega arith);
      no_more = λ n. k.no_more (omega arith);
      first = λ z. k.header (omega arith) ∙ z ∙ sym (k.no_more (omega arith));
      at_first = λ z. k.header (omega arith) ∙ z;
    });
    at_finish = λ s l e q m. rw (carried s l.chars (finish e) q (λ r. r)) (record {
      asks = refl;
      entry = ap (λ (x : Summary). x.entry) m;
      header = λ n. ap (λ (x : Summary). x.header) m;
      no_more = λ n. refl;
      first = λ z. ap (λ (x : Summary). x.header) m ∙ z;
      at_first = λ z. ap (λ (x : Summary). x.header) m ∙ z;
    });
  }

-- what an accepted plan of a text stores and says
pub record Content (F : Format) (text : List ℕ) (t : Summary) : Type 0 where
  pub asks : stores (plan F text) ≡ text_data F text
  pub entry : t.entry ≡ text_entry F text
  pub header : t.header ≡ text_header F text
  pub at_first : t.header ≡ first_header F.part (lines F.gap 0 text)
  pub records : t.records ≡ length (stores (plan F text))
  pub cells : t.cells ≡ total (stores (plan F text))

-- an accepted plan has the stores, entry and header of its text's lines, and counts them
pub content : (F : Format) (L : Limits) → Lawful F L → (text : List ℕ) (t : Summary) → final (plan F text) ≡ done t → Content F text t
unfolding plan
content F L laws text t q =
    let ls : List Line = lines F.gap 0 text in
    let k : Carried F L laws t start ls (scan F.step (length text) start ls)
    = accepted_walk F.step t (Carried F L laws t) (carries F L laws t) (length text) ls start q in
    let c : Counts t start ls (scan F.step (length text) start ls) = counts F.step t (length text) ls start q in
    record {
      asks = k.asks;
      entry = k.entry;
      header = k.first refl;
      at_first = k.at_first refl;
      records = omega (arith, c.records_is);
      cells = omega (arith, c.cells_is);
    }

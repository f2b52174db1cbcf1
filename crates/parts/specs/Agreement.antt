-- "The end answers as the whole text loaded at once, however cut" (Req 05). The proofs are in proofs/Agreement.antt.
use Rattle.std.specs.Prelude.{◌≡◌, ℕ, suc, ◌-◌, ◌≤◌, cond, false, not, ◌||◌, eqb, List, [], ◌∷◌, ◌++◌, length}
use Rattle.lists.specs.Lists.{over}
use Rattle.window.specs.declared.Refusal.{Refusal}
use Rattle.window.specs.declared.Loaded.{Loaded}
use Rattle.window.specs.Windows.{Window, window_of, row1}
use Rattle.window.specs.Images.{Image, blank, overlaid}
use Rattle.window.specs.Cells.{Run}
use Rattle.window.specs.Plans.{Summary, Plan, row12, row13, filled}
use Rattle.window.specs.Plans.Plan.{store, stop, done}
use Rattle.window.specs.Plans.Outcome.{refused, accepted}
use Rattle.text.specs.Lines.{Line, lines}
use Rattle.text.specs.Formats.{plan}
use Rattle.text.specs.Load.{load, load_answer, memory_after, marks_after}
use Rattle.text.specs.Terms.{data_records}
use Rattle.srec.specs.Lines.{is_end}
use Rattle.srec.specs.Formats.{srec}
use Rattle.parts.specs.Parts.{Going, Status, Stage, stage, fed, most, begun, row1_later, feed_in, feed, end_in, end, answered}
use Rattle.parts.specs.Parts.Status.{going, halted}

-- ---- a load in parts

-- the parts one after the other, in a window from a base on
abbrev pub feeds : ℕ → Stage → List (List ℕ) → Stage
feeds base w [] = w
feeds base w (p ∷ ps) = feeds base (feed base w p) ps

-- the text that parts are cut from
abbrev pub joined : List (List ℕ) → List ℕ
joined [] = []
joined (p ∷ ps) = p ++ joined ps

-- what a caller sees of a stage that was ended
pub record Ending : Type 0 where
  pub answer : Loaded
  pub memory : List ℕ
  pub marks : List ℕ

abbrev pub seen : Stage → Ending
seen w = record { answer = answered w.status; memory = w.memory; marks = w.marks }

-- begun, fed these parts and ended, "if state and buffers come back as given out"
abbrev pub in_parts : Window → List (List ℕ) → Ending
in_parts W ps = seen (end W.base (feeds W.base (begun W) ps))

-- ---- what memory keeps

-- what a plan has stored before a row refuses
abbrev pub stored_before : ℕ → Image → Plan → Image
stored_before base img (store n at a ds p) =
    let r = stored_before base (filled base img a ds) p in
    cond (row12 base (length img) a (length ds)) img (cond (row13 base img a (length ds)) img r)
stored_before base img (stop f) = img
stored_before base img (done s) = img

-- "memory keeps the records accepted before it"
unfoldable pub memory_kept : Window → List ℕ → List ℕ
memory_kept W text =
    cond (row1 W) W.memory (overlaid W.memory (stored_before W.base (blank (length W.memory)) (plan srec text)))

-- the data of records laid into memory one after the other, each at its address less the base
abbrev pub laid : ℕ → List ℕ → List Run → List ℕ
laid base memory [] = memory
laid base memory (r ∷ rs) = laid base (over memory (r.addr - base) r.bytes) rs

-- where a text was cut by its refusal: at the record it names; at the end, behind all records (row 14); before all of them (row 1)
pub data Cut (f : Refusal) (before rest : List Line) : Type 0 where
  at_record : (l : Line) (ls : List Line) → rest ≡ l ∷ ls → f.ordinal ≡ suc (length before) → (f.reason ≡ 14 → ⊥) → Cut f before rest
  at_end : f.reason ≡ 14 → rest ≡ [] → Cut f before rest
  at_begin : f.reason ≡ 1 → before ≡ [] → Cut f before rest

-- memory has exactly the data of the records before the refused one
pub record Keeps (W : Window) (text : List ℕ) (f : Refusal) (memory : List ℕ) : Type 0 where
  pub before : List Line
  pub rest : List Line
  pub all_lines : lines is_end 0 text ≡ before ++ rest
  pub cut : Cut f before rest
  pub stored : memory ≡ laid W.base W.memory (data_records srec.part before)

-- ---- the statements

-- the load in parts against the load of the whole text; on a refusal marks_after has every mark 0
pub record Agrees (W : Window) (ps : List (List ℕ)) : Type 0 where
  pub answer : (in_parts W ps).answer ≡ load_answer (load W (plan srec (joined ps)))
  pub marks : (in_parts W ps).marks ≡ marks_after W.marks (load W (plan srec (joined ps)))
  pub memory : (in_parts W ps).memory ≡ memory_kept W (joined ps)
  pub accepted_memory : (s : Summary) (img : Image) → load W (plan srec (joined ps)) ≡ accepted s img
      → (in_parts W ps).memory ≡ memory_after W.memory (load W (plan srec (joined ps)))
  pub refused_memory : (f : Refusal) → load W (plan srec (joined ps)) ≡ refused f → Keeps W (joined ps) f (in_parts W ps).memory

-- "however cut .. Agreement holds where 20 is not given"
abbrev pub HoweverCut : Type 0
HoweverCut = (W : Window) (ps : List (List ℕ)) → ((in_parts W ps).answer.refusal.reason ≡ 20 → ⊥) → Agrees W ps

-- and so for every text of at most 4,294,967,295 characters
abbrev pub ShortAgrees : Type 0
ShortAgrees = (W : Window) (ps : List (List ℕ)) → length (joined ps) ≤ most → Agrees W ps

-- characters that arrive one part after the other arrive at once
abbrev pub PartsAtOnce : Type 0
PartsAtOnce = (base : ℕ) (w : Stage) (xs ys : List ℕ) → fed base (fed base w xs) ys ≡ fed base w (xs ++ ys)

-- a state that goes on is refused by row 1, whatever window is lent next, for that window and its length alone
abbrev pub AsLent : Status → Type 0
AsLent (going g) = (W : Window) → row1_later W g ≡ (row1 W || not (eqb (length W.memory) g.size))
AsLent (halted f) = Unit {0}

-- so it is with every state that a call gives out, whatever state it was given
pub record GivenOut : Type 0 where
  pub by_begin : (W : Window) → AsLent (begun W).status
  pub by_feed : (x : Status) (W : Window) (part : List ℕ) → AsLent (feed_in x W part).status
  pub by_end : (x : Status) (W : Window) → AsLent (end_in x W).status

-- row 1 does not refuse a state and buffers that come back as given out
abbrev pub GivenOutGoesOn : Type 0
GivenOutGoesOn =
    (W : Window) (ps : List (List ℕ)) (g : Going) → (feeds W.base (begun W) ps).status ≡ going g
    → row1_later (window_of W.base (feeds W.base (begun W) ps).memory (feeds W.base (begun W) ps).marks) g ≡ false

-- "further calls change nothing and the end gives that refusal", whatever buffers are lent
pub record Stays (base : ℕ) (f : Refusal) (memory marks : List ℕ) : Type 0 where
  pub fed_stays : (part : List ℕ) → feed base (stage (halted f) memory marks) part ≡ stage (halted f) memory marks
  pub end_stays : end base (stage (halted f) memory marks) ≡ stage (halted f) memory marks
  pub says : answered (halted f) ≡ load_answer (refused f)

abbrev pub RefusalsStay : Type 0
RefusalsStay = (base : ℕ) (f : Refusal) (memory marks : List ℕ) → Stays base f memory marks

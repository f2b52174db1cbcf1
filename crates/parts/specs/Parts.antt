-- A load of S-records in parts (Req 05): what is kept between two calls, and what begin, a part and the end make of it.
use Rattle.std.specs.Prelude.{ℕ, suc, ◌+◌, ◌-◌, Bool, cond, not, ◌&&◌, ◌||◌, List, [], ◌∷◌, ◌++◌, leb, ltb, eqb, length, take, replicate}
use Rattle.std.proofs.Math.Option.{Option, none, some}
use Rattle.lists.specs.Lists.{over}
use Rattle.window.specs.declared.Refusal.{Refusal}
use Rattle.window.specs.Entries.{Entry}
use Rattle.window.specs.declared.Loaded.{Loaded}
use Rattle.window.specs.Windows.{Window, window_of, row1}
use Rattle.window.specs.Plans.{refusal}
use Rattle.window.specs.Plans.Outcome.{refused, accepted}
use Rattle.window.specs.Marks.{claim_row, claimed}
use Rattle.text.specs.Scan.{State, start, more, more_data, summary, Step, located}
use Rattle.text.specs.Scan.Step.{refuse, skip, title, put, finish}
use Rattle.text.specs.Load.{load_answer}
use Rattle.srec.specs.Lines.{is_end}
use Rattle.srec.specs.Formats.{srec}

-- ---- what is kept between two calls

-- the records read so far: their state, and the entry once a terminator was among them
pub record Known : Type 0 where
  pub state : State
  pub entry : Option Entry

-- a load that goes on: how many cells the window had at begin, how many characters arrived, the records among them, and of the record
-- that is not complete where it begins and its first 515 characters, since row 3 refuses it by those
pub record Going : Type 0 where
  pub size : ℕ
  pub total : ℕ
  pub known : Known
  pub place : ℕ
  pub held : List ℕ

-- "after a refusal .. the end gives that refusal": nothing else is kept of a refused load
pub data Status : Type 0 where
  going : Going → Status
  halted : Refusal → Status

-- "state and buffers"
pub record Stage : Type 0 where
  pub status : Status
  pub memory : List ℕ
  pub marks : List ℕ

-- the stage of a status, a memory and marks
abbrev pub stage : Status → List ℕ → List ℕ → Stage
stage status memory marks = record { status = status; memory = memory; marks = marks }

-- "memory keeps the records accepted before it, marks are zero", however many
abbrev pub stopped : Refusal → List ℕ → List ℕ → Stage
stopped f memory marks = stage (halted f) memory (replicate (length marks) 0)

-- ---- one record

-- what a record comes to: it is refused, or memory and marks have it
pub data Turn : Type 0 where
  halt : Refusal → Turn
  next : Known → List ℕ → List ℕ → Turn

-- rows 12 and 13 by the marks, and the store: "any mark but 0 counts as addressed"
unfoldable pub stored : ℕ → ℕ → ℕ → List ℕ → List ℕ → State → ℕ → List ℕ → Turn
stored base n place memory marks s a ds =
    cond (eqb (claim_row base marks a (length ds)) 0)
    (next (record { state = s; entry = none }) (over memory (a - base) ds) (claimed base marks a (length ds)))
    (halt (refusal (claim_row base marks a (length ds)) n place))

-- what the step of the next record, at a place, comes to behind the state s
abbrev pub step_turn : ℕ → ℕ → List ℕ → List ℕ → State → Step → Turn
step_turn base place memory marks s (refuse f) = halt (located (suc s.number) place f)
step_turn base place memory marks s skip = next (record { state = more s s.header; entry = none }) memory marks
step_turn base place memory marks s (title h) = next (record { state = more s h; entry = none }) memory marks
step_turn base place memory marks s (put a ds) = stored base (suc s.number) place memory marks (more_data s (length ds)) a ds
step_turn base place memory marks s (finish e) = next (record { state = more s s.header; entry = some e }) memory marks

-- rows 2 to 13 for a record at a place, behind the records before it
abbrev pub record_turn : ℕ → ℕ → List ℕ → List ℕ → List ℕ → State → Option Entry → Turn
record_turn base place chars memory marks s none = step_turn base place memory marks s (srec.step s chars)
record_turn base place chars memory marks s (some e) = halt (refusal 2 (suc s.number) place)

-- 01's "empty lines vanish"
abbrev pub line_turn : ℕ → ℕ → List ℕ → List ℕ → List ℕ → Known → Turn
line_turn base place [] memory marks k = next k memory marks
line_turn base place (c ∷ cs) memory marks k = record_turn base place (c ∷ cs) memory marks k.state k.entry

-- ---- one character

-- behind a turn the next record begins
abbrev pub after_turn : Going → List ℕ → List ℕ → Turn → Stage
after_turn g memory marks (halt f) = stopped f memory marks
after_turn g memory marks (next k memory' marks') =
    stage (going (record { size = g.size; total = g.total; known = k; place = g.total; held = [] })) memory' marks'

-- "a record is read at its line end or the end"
abbrev pub closed : ℕ → Going → List ℕ → List ℕ → Stage
closed base g memory marks = after_turn g memory marks (line_turn base g.place g.held memory marks g.known)

-- one character more of the record that is not complete
abbrev pub kept : Going → ℕ → Going
kept g c = record { size = g.size; total = suc g.total; known = g.known; place = g.place; held = take 515 (g.held ++ (c ∷ [])) }

-- one character more that is a line end
abbrev pub counted : Going → Going
counted g = record { size = g.size; total = suc g.total; known = g.known; place = g.place; held = g.held }

-- "till then memory and marks show the earlier ones"; after a refusal a character changes nothing
abbrev pub received : ℕ → Status → List ℕ → List ℕ → ℕ → Stage
received base (halted f) memory marks c = stage (halted f) memory marks
received base (going g) memory marks c = cond (is_end c) (closed base (counted g) memory marks) (stage (going (kept g c)) memory marks)

-- characters one after the other
abbrev pub fed : ℕ → Stage → List ℕ → Stage
fed base w [] = w
fed base w (c ∷ cs) = fed base (received base w.status w.memory w.marks c) cs

-- ---- the calls

-- the most characters that a load in parts takes
abbrev pub most : ℕ
most = 4294967295

-- "begun": row 1, and marks that are zero, whatever they held
unfoldable pub begun : Window → Stage
begun W =
    cond (row1 W) (stopped (refusal 1 0 0) W.memory W.marks)
    (stage (going (record { size = length W.memory; total = 0; known = record { state = start; entry = none }; place = 0; held = [] })) W.memory
    (replicate (length W.marks) 0))

-- bounds that every state given out keeps: Req 05 leaves free what a state does that no call gave out, and here row 1 refuses one that does
-- not keep them
unfoldable pub possible : Going → Bool
possible g =
    leb g.total most && leb (g.place + length g.held) g.total && leb g.known.state.number g.place
    && leb g.known.state.records g.place && leb g.known.state.cells g.place

-- row 1 in a later call: as in 01, for the window lent in this call, and "also when buffers change length between calls"
unfoldable pub row1_later : Window → Going → Bool
row1_later W g = row1 W || not (eqb (length W.memory) g.size) || not (possible g)

-- row 20: "a part that would take the total past 4,294,967,295 characters"
unfoldable pub row20 : Going → List ℕ → Bool
row20 g part = ltb most (g.total + length part)

-- "1 ..; then 20 ..: nothing of that part is read (record: how many were complete; place: the total before it)"
abbrev pub feed_in : Status → Window → List ℕ → Stage
feed_in (halted f) W part = stage (halted f) W.memory W.marks
feed_in (going g) W part =
    cond (row1_later W g) (stopped (refusal 1 0 0) W.memory W.marks)
    (cond (row20 g part) (stopped (refusal 20 g.known.state.number g.total) W.memory W.marks)
    (fed W.base (stage (going g) W.memory W.marks) part))

-- "fed parts of any length including none", with the window lent again; the base is the one lent in this call
abbrev pub feed : ℕ → Stage → List ℕ → Stage
feed base w part = feed_in w.status (window_of base w.memory w.marks) part

-- ---- the end

-- behind the last record: row 14, or the load stays as it is
abbrev pub lastly : Going → List ℕ → List ℕ → Option Entry → Stage
lastly g memory marks none = stopped (refusal 14 g.known.state.number g.total) memory marks
lastly g memory marks (some e) = stage (going g) memory marks

-- the same of any status
abbrev pub concluded : Status → List ℕ → List ℕ → Stage
concluded (halted f) memory marks = stage (halted f) memory marks
concluded (going g) memory marks = lastly g memory marks g.known.entry

-- the same of a stage
abbrev pub conclude : Stage → Stage
conclude w = concluded w.status w.memory w.marks

-- row 1 is tried before anything else, also at the end; then the record that is not complete is read, and row 14 is tried
abbrev pub end_in : Status → Window → Stage
end_in (halted f) W = stage (halted f) W.memory W.marks
end_in (going g) W = conclude (cond (row1_later W g) (stopped (refusal 1 0 0) W.memory W.marks) (closed W.base g W.memory W.marks))

-- "ended": the stage behind the end, so that further calls after a refused end change nothing either
abbrev pub end : ℕ → Stage → Stage
end base w = end_in w.status (window_of base w.memory w.marks)

-- what the records said, once a terminator was among them; row 14 otherwise (an answer does not show its image, so none is given)
abbrev pub said_by : Going → Option Entry → Loaded
said_by g none = load_answer (refused (refusal 14 g.known.state.number g.total))
said_by g (some e) = load_answer (accepted (summary g.known.state e) [])

-- "the end gives that refusal", or what the records said
abbrev pub answered : Status → Loaded
answered (halted f) = load_answer (refused f)
answered (going g) = said_by g g.known.entry

-- The lines of a text in order, by the rows that need no window: what is to be stored where, and how it ends.
-- A format says what a line does; numbers, places, counts and rows 2 and 14 are here, for every format.
use Rattle.std.specs.Prelude.{ℕ, suc, ◌+◌, List, [], ◌∷◌, length}
use Rattle.window.specs.declared.Refusal.{Refusal}
use Rattle.window.specs.Entries.{Entry}
use Rattle.window.specs.Plans.{Summary, refusal_with, refusal, Plan}
use Rattle.window.specs.Plans.Plan.{store, stop, done}
use Rattle.text.specs.Lines.{Line}

-- why a line is refused, and where: the row, the index of a character of the line, and the checksum byte that would have been right
-- (0 where the row, or the format, gives none)
pub record Fault : Type 0 where
  pub reason : ℕ
  pub offset : ℕ
  pub want : ℕ

-- what one line does: it is refused, it loads nothing, it has the header (`title`), it has data bytes for an address, or it
-- ends the text
pub data Step : Type 0 where
  refuse : Fault → Step
  skip : Step
  title : List ℕ → Step
  put : ℕ → List ℕ → Step
  finish : Entry → Step

-- refused by this row, at the line's first character, with byte 0
abbrev pub by_row : ℕ → Step
by_row reason = refuse (record { reason = reason; offset = 0; want = 0 })

-- what was read so far: how many lines, the header, how many data lines and their data bytes
pub record State : Type 0 where
  pub number : ℕ
  pub header : List ℕ
  pub records : ℕ
  pub cells : ℕ

-- before the first line
abbrev pub start : State
start = record { number = 0; header = []; records = 0; cells = 0 }

-- the state after one line more, with the header h
abbrev pub more : State → List ℕ → State
more s h = record { number = suc s.number; header = h; records = s.records; cells = s.cells }

-- the state after one data line more, with n data bytes
abbrev pub more_data : State → ℕ → State
more_data s n = record { number = suc s.number; header = s.header; records = suc s.records; cells = s.cells + n }

-- what a text says beside its cells, where a line behind these ends it
abbrev pub summary : State → Entry → Summary
summary s e = record { header = s.header; entry = e; records = s.records; cells = s.cells }

-- row 2: a line stands after the one that ends the text
abbrev pub ended : State → Entry → List Line → Plan
ended s e [] = done (summary s e)
ended s e (l ∷ ls) = stop (refusal 2 (suc (suc s.number)) l.place)

-- the fault of line n at place `at` as a refusal
abbrev pub located : ℕ → ℕ → Fault → Refusal
located n at f = refusal_with f.reason n (at + f.offset) f.want

-- what a step of the next line, at place `at`, leads to; `go` goes on behind it, `last` behind the line that ends the text
abbrev pub onward : State → ℕ → (State → Plan) → (Entry → Plan) → Step → Plan
onward s at go last (refuse f) = stop (located (suc s.number) at f)
onward s at go last skip = go (more s s.header)
onward s at go last (title h) = go (more s h)
onward s at go last (put a ds) = store (suc s.number) at a ds (go (more_data s (length ds)))
onward s at go last (finish e) = last e

-- the lines one after the other; row 14: no line ends the text (record: how many were read; place: the text's length, `size`)
abbrev pub scan : (State → List ℕ → Step) → ℕ → State → List Line → Plan
scan step size s [] = stop (refusal 14 s.number size)
scan step size s (l ∷ ls) =
    onward s l.place (λ u. scan step size u ls) (λ e. ended s e ls) (step s l.chars)

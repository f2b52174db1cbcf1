-- Loads and writes of a window whose marks are stored in a form, as their caller sees them (Req 08).
use Rattle.std.specs.Prelude.{ℕ, List, length}
use Rattle.window.specs.Entries.{Entry}
use Rattle.window.specs.declared.Loaded.{Loaded}
use Rattle.window.specs.Windows.{Window}
use Rattle.window.specs.Plans.{Summary, Plan, Outcome}
use Rattle.window.specs.Plans.Outcome.{refused, accepted}
use Rattle.marks.specs.declared.Form.{Form}
use Rattle.marks.specs.Forms.{plain, marks_in, counted, row1_in, row16_in, bad_at}
use Rattle.text.specs.Formats.{Row, Format}
use Rattle.text.specs.Load.{load_by, load_answer}
use Rattle.text.specs.Write.{WriteOutcome, row_of, write_by}

-- row 1 as the form has it, else the byte form's load: "loading ignores what the packed bytes held"
abbrev pub load_in : Form → Window → Plan → Outcome
load_in form W p = load_by (row1_in form W) W p

-- what a text says, with the cell count that these marks give
abbrev pub recounted : Form → List ℕ → Summary → Summary
recounted form marks s = record { header = s.header; entry = s.entry; records = s.records; cells = counted form marks s.cells }

-- "the byte form's answers"; "the cell count comes from the ones in the packed bytes". Memory is the byte form's (text `memory_after`), and
-- the marks are marks `marks_left`
abbrev pub answer_in : Form → Outcome → Loaded
answer_in form (refused f) = load_answer (refused f)
answer_in form (accepted s img) = load_answer (accepted (recounted form (marks_in form img) s) img)

-- row 16 of the form
abbrev pub bad_row_in : Form → Window → Row
bad_row_in form W = row_of (row16_in form (length W.memory) W.marks) 16 (bad_at form (length W.memory) W.marks)

-- rows 1 and 16 as the form has them; else the byte form's answers and texts
abbrev pub write_in : Form → Format → Window → List ℕ → Entry → ℕ → WriteOutcome
write_in form F W header entry room = write_by (row1_in form W) (bad_row_in form W) F (plain form W) header entry room

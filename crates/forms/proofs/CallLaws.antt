-- Loads and writes in a form: of mark bytes they are those of `text`.
use mathlib.Core.Path.{◌≡◌, refl}
use Prim.Native.Nat.{ℕ}
use mathlib.Core.List.{List}
use Rattle.window.specs.Entries.{Entry}
use Rattle.window.specs.Windows.{Window, row1, window_of}
use Rattle.window.specs.Plans.{Plan, Outcome}
use Rattle.window.specs.Plans.Outcome.{refused, accepted}
use Rattle.marks.specs.declared.Form.{Form}
use Rattle.marks.specs.declared.Form.TheVariants.{Bytes}
use Rattle.marks.specs.Forms.{plain, marks_left, row1_in}
use Rattle.text.specs.Formats.{Format}
use Rattle.text.specs.Load.{load, load_answer, marks_after}
use Rattle.text.specs.Write.{write}
use Rattle.text.proofs.WriteLaws.{Call}
use Rattle.forms.specs.Calls.{load_in, answer_in, bad_row_in, write_in}

pub load_bytes : (W : Window) (p : Plan) → load_in Bytes W p ≡ load W p
unfolding load row1_in row1
load_bytes W p = refl

pub answer_bytes : (o : Outcome) → answer_in Bytes o ≡ load_answer o
answer_bytes (refused f) = refl
answer_bytes (accepted s img) = refl

pub marks_bytes : (marks : List ℕ) (o : Outcome) → marks_left Bytes marks o ≡ marks_after marks o
marks_bytes marks (refused f) = refl
marks_bytes marks (accepted s img) = refl

pub write_bytes : (F : Format) (base : ℕ) (memory marks header : List ℕ) (entry : Entry) (room : ℕ)
    → write_in Bytes F (window_of base memory marks) header entry room ≡ write F (window_of base memory marks) header entry room
unfolding write row1_in row1
write_bytes F base memory marks header entry room = refl

-- what a write in a form is given
abbrev pub call_in : Form → Window → List ℕ → Entry → ℕ → Call
call_in form W header entry room =
    record { unfit = row1_in form W; bad = bad_row_in form W; window = plain form W; header = header; entry = entry; room = room }

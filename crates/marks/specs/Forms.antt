-- The forms in which a window's marks are stored: a byte a cell, and Req 08's bit a cell. Everything above reads marks as flags, one number
-- a cell, and stores flags as marks; only this file and bits `Bits` know where a cell's mark stands.
use Rattle.std.specs.Prelude.{◌≡◌, ℕ, ◌+◌, ◌^◌, Bool, cond, not, ◌||◌, List, eqb, ltb, length, replicate}
use Rattle.window.specs.Windows.{Window, window_of, first_bad_mark, row16}
use Rattle.window.specs.Images.{Image, marks_of}
use Rattle.window.specs.Marks.{is_free}
use Rattle.window.specs.Plans.{Outcome}
use Rattle.window.specs.Plans.Outcome.{refused, accepted}
use Rattle.bits.specs.Bits.{bits, spare, byte_count, pack, ones_of}
use Rattle.marks.specs.declared.Form.{Form}
use Rattle.marks.specs.declared.Form.TheVariants.{Bytes, Packed}
use Rattle.std.specs.Prelude.{Option}
use Rattle.std.specs.Prelude.{Some, None}

-- what marks in a form say of each cell of a window: 0 for a cell that was not addressed
abbrev pub flags : Form → ℕ → List ℕ → List ℕ
flags Bytes cells marks = marks
flags Packed cells marks = bits marks 0 cells

-- flags as marks of a form
abbrev pub stored : Form → List ℕ → List ℕ
stored Bytes fs = fs
stored Packed fs = pack fs

-- a window with its flags for marks
abbrev pub plain : Form → Window → Window
plain form W = window_of W.base W.memory (flags form (length W.memory) W.marks)

-- how many bytes the marks of n cells take
abbrev pub mark_bytes : Form → ℕ → ℕ
mark_bytes Bytes n = n
mark_bytes Packed n = byte_count n

-- marks of n cells with a flag for each cell, and no spare bit set
abbrev pub Tidy : Form → ℕ → List ℕ → Type 0
Tidy form n marks = (length (flags form n marks) ≡ n) × (marks ≡ stored form (flags form n marks))

-- the marks of an image: Req 08's "marks that unpack to the same"
abbrev pub marks_in : Form → Image → List ℕ
marks_in form img = stored form (marks_of img)

-- the marks after a load, in place of these: all zero after a refusal, whatever their number
abbrev pub marks_left : Form → List ℕ → Outcome → List ℕ
marks_left form marks (refused f) = replicate (length marks) 0
marks_left form marks (accepted s img) = marks_in form img

-- the cell count of a load whose data records have `sum` bytes: Req 08's "comes from the ones in the packed bytes"
abbrev pub counted : Form → List ℕ → ℕ → ℕ
counted Bytes marks sum = sum
counted Packed marks sum = ones_of marks

-- row 1 of a form: not as many mark bytes as the form takes, of which Req 08 says "1 when the packed length is not cells / 8 rounded up";
-- or base + length passes 2^32
unfoldable pub row1_in : Form → Window → Bool
row1_in form W = not (eqb (length W.marks) (mark_bytes form (length W.memory))) || ltb (2 ^ 32) (W.base + length W.memory)

-- row 16 of a form: a mark is neither 0 nor 1; Req 08's "exactly for a spare bit that is set"
abbrev pub row16_in : Form → ℕ → List ℕ → Bool
row16_in Bytes cells marks = row16 marks
row16_in Packed cells marks = not (is_free (spare cells marks))

-- its place: the first such index; Req 08's "place: the memory's length"
abbrev pub bad_at : Form → ℕ → List ℕ → ℕ
bad_at Bytes cells marks = first_bad_mark marks
bad_at Packed cells marks = cells

-- row 16 with its place
abbrev pub bad_mark : Form → ℕ → List ℕ → Option ℕ
bad_mark form cells marks = cond (row16_in form cells marks) (Some (bad_at form cells marks)) None

-- "Loading, .. writing, .. and the tapes' calls give the byte form's answers, texts and memory, and marks that unpack to the same" (Req 08).
-- The proofs are in proofs/Agreement.antt.
use Rattle.std.specs.Prelude.{◌≡◌, ℕ, false, List, length}
use Rattle.window.specs.Entries.{Entry}
use Rattle.window.specs.Windows.{Window, window_of}
use Rattle.window.specs.Images.{Image}
use Rattle.window.specs.Plans.{Summary}
use Rattle.window.specs.Plans.Outcome.{accepted}
use Rattle.bits.specs.Bits.{pack, ones_of}
use Rattle.marks.specs.declared.Form.TheVariants.{Packed}
use Rattle.marks.specs.Forms.{flags, plain, marks_left, row1_in, row16_in}
use Rattle.text.specs.Formats.{plan}
use Rattle.text.specs.Load.{load, load_answer, memory_after, marks_after}
use Rattle.text.specs.Write.{write, write_answer}
use Rattle.formats.specs.declared.Format.{Format}
use Rattle.formats.specs.Choices.{format_of}
use Rattle.forms.specs.Calls.{load_in, answer_in, write_in}

-- the packed load of a text against the byte form's load, into the same memory with any mark bytes
pub record SameLoad (format : Format) (base : ℕ) (memory packed bytes text : List ℕ) : Type 0 where
  pub answer : answer_in Packed (load_in Packed (window_of base memory packed) (plan (format_of format) text))
      ≡ load_answer (load (window_of base memory bytes) (plan (format_of format) text))
  pub memory_same : memory_after memory (load_in Packed (window_of base memory packed) (plan (format_of format) text))
      ≡ memory_after memory (load (window_of base memory bytes) (plan (format_of format) text))
  -- "marks that unpack to the same", and "leaves spare bits zero": they are the byte form's marks, packed
  pub unpacked : flags Packed (length memory) (marks_left Packed packed (load_in Packed (window_of base memory packed) (plan (format_of format) text)))
      ≡ marks_after bytes (load (window_of base memory bytes) (plan (format_of format) text))
  pub packed_marks : marks_left Packed packed (load_in Packed (window_of base memory packed) (plan (format_of format) text))
      ≡ pack (marks_after bytes (load (window_of base memory bytes) (plan (format_of format) text)))
  -- so that row 16 never refuses them
  pub no_spare : row16_in Packed (length memory) (marks_left Packed packed (load_in Packed (window_of base memory packed) (plan (format_of format) text)))
      ≡ false

-- "Agreement holds where the packed call gives neither" 1 nor 16; a load never gives 16
abbrev pub LoadAgrees : Type 0
LoadAgrees =
    (format : Format) (base : ℕ) (memory packed bytes text : List ℕ) → row1_in Packed (window_of base memory packed) ≡ false
    → length bytes ≡ length memory → SameLoad format base memory packed bytes text

-- the ones are as many as the data bytes of all data records
abbrev pub OnesAreData : Type 0
OnesAreData =
    (format : Format) (W : Window) (text : List ℕ) (s : Summary) (img : Image) → load_in Packed W (plan (format_of format) text) ≡ accepted s img
    → ones_of (marks_left Packed W.marks (accepted s img)) ≡ s.cells

-- a packed write is the byte form's of the unpacked marks, where it gives neither 1 nor 16; it may be refused by row 15, which comes before 16
abbrev pub WriteAgrees : Type 0
WriteAgrees =
    (format : Format) (W : Window) (header : List ℕ) (entry : Entry) (room : ℕ) → let o = write_in Packed (format_of format) W header entry room in
    ((write_answer o).refusal.reason ≡ 1 → ⊥) → ((write_answer o).refusal.reason ≡ 16 → ⊥)
    → o ≡ write (format_of format) (plain Packed W) header entry room

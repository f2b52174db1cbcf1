-- The canonical text as its pieces, one behind the other, and how far they are written.
use mathlib.Core.Path.{◌≡◌, sym, ap, ◌∙◌}
use Prim.Native.Nat.{ℕ, ◌+◌, ◌*◌, ◌-◌, ◌≤◌, ◌<◌}
use mathlib.Core.List.{List, [], ◌++◌, append-nil}
use lib.Dec.{leb}
use lib.ListN.{length}
use borrow.Author.Tests.{le-leb, lt-leb}
use Rattle.lists.proofs.TestLaws.{by_test}
use Rattle.std.specs.Prelude.{Some}
use Rattle.window.specs.Windows.{Window}
use Rattle.lists.specs.Lists.{over}
use Rattle.window.specs.Cells.{Run, shown}
use Rattle.text.specs.Runs.{runs, data_lines}
use Rattle.text.specs.Write.{text_of}
use Rattle.text.proofs.WriteLaws.{lines_before}
use Rattle.srec.specs.Kinds.Kind.{S0, S5, End}
use Rattle.srec.specs.Canonical.{follow, largest, width_for, line, data_line, count_line, canonical}
use Rattle.srec.specs.Formats.{srec}
use Rattle.srec_encode.specs.Records.{line_of}
use Rattle.lists.proofs.PendingLaws.{Pending, pending_room, pending_more}
use Rattle.srec_encode.proofs.EncodeLaws.{length_line, line_before}
use Rattle.formats.specs.declared.Format.TheVariants.{Records}
use Rattle.data_lines.specs.Pieces.{data_text}
use Rattle.data_lines.proofs.DataLineLaws.{line_before as data-line-before}
use Rattle.srec_text.specs.Pieces.{count_text}

-- ---- the pieces

-- the data records are put before the rest
pub data_before : (w : ℕ) (rs : List Run) (rest : List ℕ) → data_lines (data_line w) rs rest ≡ data_lines (data_line w) rs [] ++ rest
data_before w = lines_before (data_line w) (data-line-before Records w)

-- and so is S5, if it is written
pub count_before : (n : ℕ) (rest : List ℕ) → count_line n rest ≡ count_line n [] ++ rest
unfolding count_line
count_before n rest =
    by_test (leb n 65535) (λ e. rw e (line_before S5 n [] rest
    ∙ ap (λ (l : List ℕ). l ++ rest) (sym (append-nil (line_of 53 2 n [])) ∙ sym (line_before S5 n [] []))))
    (λ e. rw e)

-- S5 is written, or left out: the returns of `put_count`
pub count_written : (n : ℕ) → n ≤ 65535 → count_text n ≡ line_of 53 2 n []
unfolding count_line
count_written n h = rw (le-leb n 65535 h) (line_before S5 n [] [] ∙ append-nil (line_of 53 2 n []))

-- no S5 for more than 65,535 data records
pub count_left_out : (n : ℕ) → 65535 < n → count_text n ≡ []
unfolding count_line
count_left_out n h = rw (lt-leb n 65535 h)

-- S0, the data records, S5 and the terminator
pub text_pieces : (W : Window) (header : List ℕ) (e records w : ℕ) → records ≡ length (runs follow (shown W)) → w ≡ width_for (largest e (shown W))
    → text_of srec W header (Some e) ≡ line_of 48 2 0 header ++ (data_text Records w (shown W) ++ (count_text records ++ (line_of (59 - w) w e [] ++ [])))
unfolding text_of canonical
text_pieces W header e records w p q =
    let last : List ℕ = line (End w) e [] [] in
    rw (← q, ← p)
    (line_before S0 0 header (data_lines (data_line w) (runs follow (shown W)) (count_line records last))
    ∙ ap (λ (l : List ℕ). line_of 48 2 0 header ++ l) (data_before w (runs follow (shown W)) (count_line records last)
    ∙ ap (λ (l : List ℕ). data_text Records w (shown W) ++ l) (count_before records last
    ∙ ap (λ (l : List ℕ). count_text records ++ l) (line_before (End w) e [] []))))

-- ---- a line more

-- what `put_line` requires, and what it leaves
module _ (whole : List ℕ) (kind w a : ℕ) (ds ys : List ℕ) (start at : ℕ) (o out : List ℕ) (h : start + length whole ≤ length o)
    (d : Pending whole (line_of kind w a ds ++ ys) start at o out) where
  -- the next record has room
  pub line_room : at + (7 + 2 * w + 2 * length ds) ≤ length out
  line_room = rw (← (length_line kind w a ds)) (pending_room whole (line_of kind w a ds) ys start at o out h d)

  -- behind it the rest is still to be written
  pub line_more : (p : ℕ) (out' : List ℕ) → p ≡ at + (7 + 2 * w + 2 * length ds) → out' ≡ over out at (line_of kind w a ds) → length out' ≡ length out
      → Pending whole ys start p o out'
  line_more p out' q t l = pending_more whole (line_of kind w a ds) ys start at p o out out' h d (rw (length_line kind w a ds) q) t l

-- What the span of a patch sheet says of its loads. Their proofs are in proofs/Facts.antt.
use Rattle.std.specs.Prelude.{◌≡◌, ℕ, List, length}
use Rattle.window.specs.Windows.{Window, Marked}
use Rattle.window.specs.Images.{Image}
use Rattle.window.specs.Plans.{Summary}
use Rattle.window.specs.Plans.Outcome.{accepted}
use Rattle.sheets.specs.Sheets.{sheet_outcome}
use Rattle.sheets.specs.Facts.{sheet_loaded, sheet_after}
use Rattle.spans.specs.Facts.{Within, Fits}
use Rattle.sheet_survey.specs.SheetSpans.{sheet_span}

-- in a window that has the span of a sheet in it row 12 is never given
abbrev pub Never12 : Type 0
Never12 =
    (W : Window) (text sheet : List ℕ) → Fits W.base (length W.memory) (sheet_span text sheet)
    → (sheet_loaded W text sheet).refusal.reason ≡ 12 → ⊥

-- every cell that an accepted sheet marks lies in its span
abbrev pub CellsAreIn : Type 0
CellsAreIn =
    (W : Window) (text sheet : List ℕ) (s : Summary) (img : Image) → sheet_outcome W text sheet ≡ accepted s img
    → (A B : ℕ) → Marked (sheet_after W text sheet) A B → Within A (sheet_span text sheet)

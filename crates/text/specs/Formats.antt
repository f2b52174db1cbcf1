-- What a text format has to say; everything else about loading and writing is shared.
use Rattle.std.specs.Prelude.{ℕ, Bool, List, length}
use Rattle.window.specs.declared.Refusal.{Refusal}
use Rattle.window.specs.Entries.{Entry}
use Rattle.window.specs.Windows.{Window}
use Rattle.window.specs.Cells.{Cell}
use Rattle.window.specs.Plans.{Plan}
use Rattle.text.specs.Lines.{lines}
use Rattle.text.specs.Scan.{State, Step, start, scan}

-- a row of the writer: does it apply, and the refusal that is given then
pub record Row : Type 0 where
  pub applies : Bool
  pub refusal : Refusal

-- five things that a format says
pub record Format : Type 0 where
  -- the characters between lines
  pub gap : ℕ → Bool
  -- what a line does behind the lines read so far: its own rows, or what it carries
  pub step : State → List ℕ → Step
  -- what a line carries, whatever stands before it
  pub part : List ℕ → Step
  -- the canonical text of cells by rising address, a header and an entry
  pub canonical : List Cell → List ℕ → Entry → List ℕ
  -- the writer's rows behind row 1 and before row 17, in their order; row 16, which goes by how marks are stored, is given
  pub rows : Row → Window → List ℕ → Entry → List Row

-- what a text asks of a window
unfoldable pub plan : Format → List ℕ → Plan
plan F text = scan F.step (length text) start (lines F.gap 0 text)

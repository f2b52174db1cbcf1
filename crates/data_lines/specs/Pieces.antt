-- The data lines of a canonical text.
use Rattle.std.specs.Prelude.{ℕ, List, []}
use Rattle.window.specs.Cells.{Cell}
use Rattle.text.specs.Runs.{runs, data_lines}
use Rattle.formats.specs.declared.Format.{Format}
use Rattle.formats.specs.Choices.{follow_of, data_line_of}

-- a run of these bytes from this address on, as a data line in a format and width
abbrev pub run_text : Format → ℕ → ℕ → List ℕ → List ℕ
run_text format width a bs = data_line_of format width (record { addr = a; bytes = bs }) []

-- the data lines of some cells
abbrev pub data_text : Format → ℕ → List Cell → List ℕ
data_text format width cs = data_lines (data_line_of format width) (runs (follow_of format) cs) []

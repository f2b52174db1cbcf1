-- Which format a choice stands for, and how its data lines are cut and written.
use Rattle.std.specs.Prelude.{ℕ, List}
use Rattle.window.specs.Cells.{Run}
use Rattle.text.specs.Formats.{Format}
use Rattle.srec.specs.Canonical.{follow as recordFollow, data_line as recordLine}
use Rattle.srec.specs.Formats.{srec}
use Rattle.tape.specs.Canonical.{follow as tapeFollow, data_line as tapeLine}
use Rattle.tape.specs.Formats.{tape}
use Rattle.formats.specs.declared.Format.{Format as Choice}
use Rattle.formats.specs.declared.Format.TheVariants.{Records, Tape}

-- S-records, or tapes
abbrev pub format_of : Choice → Format
format_of Records = srec
format_of (Tape edition) = tape edition

-- how many cells may follow the first of a data line
abbrev pub follow_of : Choice → ℕ → ℕ
follow_of Records = recordFollow
follow_of (Tape edition) = tapeFollow

-- a run as a data line before the rest of the text; a record has so many address bytes, a tape's line always two
abbrev pub data_line_of : Choice → ℕ → Run → List ℕ → List ℕ
data_line_of Records width = recordLine width
data_line_of (Tape edition) width = tapeLine edition

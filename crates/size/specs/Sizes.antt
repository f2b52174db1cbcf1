-- How many data lines and cells a canonical text has, and its largest address.
use Rattle.std.specs.Prelude.{ℕ, List, length}
use Rattle.window.specs.Cells.{Cell}
use Rattle.text.specs.Runs.{runs}
use Rattle.srec.specs.Canonical.{largest}
use Rattle.formats.specs.declared.Format.{Format}
use Rattle.formats.specs.Choices.{follow_of}
use Rattle.size.specs.declared.Size.{Size}

-- data lines of a format, cells, and 01's "the largest address, entry included", for an entry at this address
abbrev pub size_of : Format → List Cell → ℕ → Size
size_of format cs entry = record { records = length (runs (follow_of format) cs); cells = length cs; largest = largest entry cs }

-- S-records as a format.
use Rattle.std.specs.Prelude.{ℕ, Bool, not, List, [], ◌∷◌}
use Rattle.window.specs.Entries.{Entry}
use Rattle.window.specs.Windows.{Window}
use Rattle.window.specs.Headers.{row15}
use Rattle.window.specs.Plans.{is_present}
use Rattle.text.specs.Formats.{Row, Format}
use Rattle.text.specs.Write.{row_of}
use Rattle.srec.specs.Lines.{is_end}
use Rattle.srec.specs.Reading.{read}
use Rattle.srec.specs.Judging.{carried, judged}
use Rattle.srec.specs.Canonical.{canonical}

-- row 18: there is no entry
unfoldable pub row18 : Entry → Bool
row18 entry = not (is_present entry)

-- rows 15, 16, 18 in this order
abbrev pub rows : Row → Window → List ℕ → Entry → List Row
rows bad W header entry = row_of (row15 header) 15 0 ∷ bad ∷ row_of (row18 entry) 18 0 ∷ []

-- line ends, rows 3 to 8, 10 and 11 by reading and judging, the canonical text, and the writer's rows 15, 16 and 18
abbrev pub srec : Format
srec = record {
  gap = is_end;
  step = λ s chars. judged s (read chars);
  part = λ chars. carried (read chars);
  canonical = canonical;
  rows = rows;
}

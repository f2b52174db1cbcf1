-- Tapes as a format, one for each edition.
use Rattle.std.specs.Prelude.{ℕ, suc, Bool, cond, not, ◌&&◌, ◌||◌, List, [], ◌∷◌, ltb, eqb, length}
use Rattle.window.specs.Entries.{Entry}
use Rattle.window.specs.Windows.{Window}
use Rattle.window.specs.Plans.{is_present}
use Rattle.text.specs.Formats.{Row, Format}
use Rattle.text.specs.Write.{row_of}
use Rattle.tape.specs.declared.Edition.{Edition}
use Rattle.tape.specs.Lines.{is_gap}
use Rattle.tape.specs.Reading.{read}
use Rattle.tape.specs.Judging.{carried, judged}
use Rattle.tape.specs.Canonical.{canonical}

-- row 19: the header is not empty, or an entry is present
unfoldable pub row19 : List ℕ → Entry → Bool
row19 header entry = ltb 0 (length header) || is_present entry

-- the index of the first marked cell above FFFF, where the first mark is that of the cell a; the length where there is none
abbrev pub first_above : ℕ → List ℕ → ℕ
first_above a [] = 0
first_above a (m ∷ ms) = let r = suc (first_above (suc a) ms) in cond (not (eqb m 0) && ltb 0xFFFF a) 0 r

-- the writer's row 11: a marked cell above FFFF
unfoldable pub row11_marks : Window → Bool
row11_marks W = ltb (first_above W.base W.marks) (length W.marks)

-- rows 16, 19 and 11 in this order; 11 reports the first such index
abbrev pub rows : Row → Window → List ℕ → Entry → List Row
rows bad W header entry = bad ∷ row_of (row19 header entry) 19 0 ∷ row_of (row11_marks W) 11 (first_above W.base W.marks) ∷ []

-- separators, rows 3 to 7, 10 and 11 by reading and judging, the canonical tape, and the writer's rows 16, 19 and 11
abbrev pub tape : Edition → Format
tape edition = record {
  gap = is_gap;
  step = λ s chars. judged edition s (read chars);
  part = λ chars. carried (read chars);
  canonical = λ cs header entry. canonical edition cs;
  rows = rows;
}

-- Where the next line of a text stands, and where its header is.
use Rattle.std.specs.Prelude.{ℕ, suc, ◌+◌, Bool, cond, List, [], ◌∷◌, length, Option, Some, None}
use Rattle.text.specs.declared.Found.{Found}
use Rattle.text.specs.Lines.{Line}
use Rattle.text.specs.Scan.{Step}
use Rattle.text.specs.Terms.{header_in}

-- how many separators a text begins with
abbrev pub leading : (ℕ → Bool) → List ℕ → ℕ
leading gap [] = 0
leading gap (c ∷ cs) = let r = suc (leading gap cs) in cond (gap c) r 0

-- the first of some lines: from its place to behind its last character
abbrev pub found : List Line → Option Found
found [] = None
found (l ∷ ls) = Some (record { from = l.place; to = l.place + length l.chars })

-- the header of an accepted text is that of its first line; `part` says what a line carries
abbrev pub first_header : (List ℕ → Step) → List Line → List ℕ
first_header part [] = []
first_header part (l ∷ ls) = header_in (part l.chars) []

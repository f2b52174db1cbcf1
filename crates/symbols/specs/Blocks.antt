-- The symbol block before a text: rows 22, 23 and 24 (Req 13).
use Rattle.std.specs.Prelude.{ℕ, suc, ◌+◌, ◌-◌, Bool, true, false, cond, List, [], ◌∷◌, ltb, eqb, length, take, drop, Result, Ok, Err}
use Rattle.text.specs.Lines.{Line, lines}
use Rattle.words.specs.Words.{is_break}
use Rattle.symbol_table.specs.Symbols.{symbols_in, meaning, is_some}
use Rattle.symbol_lines.specs.Lines.{parts_of, is_last, is_title, row22, symbol_count}
use Rattle.window.specs.declared.Refusal.{Refusal}
use Rattle.window.specs.Plans.{refusal}
use Rattle.symbols.specs.declared.Table.{Table}
use Rattle.symbols.specs.declared.Fault.{Fault}
use Rattle.symbols.specs.declared.Fault.TheVariants.{Unpaired, Twice, Full}

-- the characters of a text from one place to another
abbrev pub stretch : List ℕ → ℕ → ℕ → List ℕ
stretch text from to = take (to - from) (drop from text)

-- ---- the lines in order

-- a name of a line that stands at `at` is a symbol already, of the table that begins at `from` and ends before that name; a part's place is
-- counted in its line
abbrev pub again : List ℕ → ℕ → ℕ → List Line → Bool
again text from at [] = false
again text from at (w ∷ []) = false
again text from at (w ∷ v ∷ ws) =
    let r = again text from at ws in
    cond (is_some (meaning (symbols_in (stretch text from (at + w.place))) w.chars)) true r

-- row 23: "symbol name twice"
unfoldable pub row23 : List ℕ → ℕ → Line → Bool
row23 text from l = again text from l.place (parts_of l.chars)

-- row 24: more than 1,024 symbols, where there were n before this line
unfoldable pub row24 : ℕ → List ℕ → Bool
row24 n chars = ltb 1024 (n + symbol_count chars)

-- the first row that applies to a line behind the title that is no bare `$$`, where there were n symbols before it; 0 for none
unfoldable pub line_row : List ℕ → ℕ → ℕ → Line → ℕ
line_row text from n l = cond (row22 l.chars) 22 (cond (row23 text from l) 23 (cond (row24 n l.chars) 24 0))

-- ---- a block

-- a refused one: the row, the line, the place
abbrev pub bad : ℕ → ℕ → ℕ → Result Table Refusal
bad reason n at = Err (refusal reason n at)

-- a good one, whose table stands from one place to another
abbrev pub table : ℕ → ℕ → Result Table Refusal
table from to = Ok (record { from = from; to = to })

-- the lines behind the title, after k lines, the title among them, and n symbols; without a bare `$$` "the lines read and the text's length"
abbrev pub walked : List ℕ → ℕ → ℕ → ℕ → List Line → Result Table Refusal
walked text from k n [] = bad 22 k (length text)
walked text from k n (l ∷ ls) =
    let r = walked text from (suc k) (n + symbol_count l.chars) ls in
    let row = line_row text from n l in
    cond (is_last l.chars) (table from l.place) (cond (eqb row 0) r (bad row (suc k) l.place))

-- the title comes first
abbrev pub opened : List ℕ → List Line → Result Table Refusal
opened text [] = bad 22 0 (length text)
opened text (l ∷ ls) = cond (is_title l.chars) (walked text (l.place + length l.chars) 1 0 ls) (bad 22 1 l.place)

-- the symbol block of a text: a refusal (row, line, place), or its table, from behind the title to the bare `$$`
unfoldable pub block_of : List ℕ → Result Table Refusal
block_of text = opened text (lines is_break 0 text)

-- "right after that bare `$$`": where the rest of a text begins, whose table ends at `to`
abbrev pub rest_at : ℕ → ℕ
rest_at to = to + 2

-- ---- for the contracts

-- the line that stands from one place to another
abbrev pub line_at : List ℕ → ℕ → ℕ → Line
line_at text from to = record { place = from; chars = stretch text from to }

-- the row of a fault
abbrev pub row_of : Fault → ℕ
row_of Unpaired = 22
row_of Twice = 23
row_of Full = 24

-- Worked examples of patch sheets, as one table under one statement: a window of eight cells from FFC on.
use Rattle.std.specs.Prelude.{Bool, true, ◌&&◌, List, [], ◌∷◌, ◌++◌, ℕ, ◌/◌, ◌%◌, T, length, replicate}
use Prim.Native.String.{String}
use Rattle.hex_digits.specs.Digits as digits
use Rattle.window.specs.Windows.{Window, window_of, row1}
use Rattle.lists.specs.Lists.{over}
use Rattle.window.specs.Plans.{Outcome, row12, row13, filled}
use Rattle.window.specs.Plans.Outcome.{refused, accepted}
use Rattle.text.specs.Load.{memory_after}
use Rattle.words.specs.Words.{is_letter, is_alnum, is_blank, is_break, counted, all_of, number_in, is_name, is_number, same}
use Rattle.symbol_table.specs.Symbols.{symbols_in}
use Rattle.operands.specs.Trees.{operation}
use Rattle.operands.specs.Reading.{digits_at, number_at, word_at, name_at, closed_at, term_by, is_sign, next_by, more_by, sum_by, sum_at, expression}
use Rattle.operands.specs.Values.{verdict, worth_of}
use Rattle.symbol_lines.specs.Lines.{tight, parts_of, is_last, is_title, is_pair, row22, symbol_count}
use Rattle.symbols.specs.Blocks.{row23, row24, line_row, block_of}
use Rattle.lists.specs.Characters.{codes}
use Rattle.sheet_fields.specs.Fields.{length_at, end_at, field_at, fields, is_field}
use Rattle.sheets.specs.Sheets.{pair_plan, sheet_plan, table_outcome, sheet_outcome}

-- a field as it stands in a sheet
abbrev field : ℕ → List ℕ → List ℕ
field tag bytes = tag ∷ length bytes / 256 ∷ length bytes % 256 ∷ bytes

-- an address and its bytes
abbrev pair : String → List ℕ → List ℕ
pair address bytes = field 1 (codes address) ++ field 2 bytes

-- a sheet, and what comes back: row, field and place of a refusal, or 0, the records, the cells and the memory
pub record Case : Type 0 where
  pub sheet : List ℕ
  pub gives : List ℕ

abbrev case : List ℕ → List ℕ → Case
case sheet gives = record { sheet = sheet; gives = gives }

abbrev window : Window
window = window_of 4092 (replicate {A = ℕ} 8 9) (replicate {A = ℕ} 8 7)

abbrev text : List ℕ
text = codes "$$ M\nstart $1000 end $1002\n$$\nanything"

abbrev pub cases : List Case
cases =
    case [] (0 ∷ 0 ∷ 0 ∷ 9 ∷ 9 ∷ 9 ∷ 9 ∷ 9 ∷ 9 ∷ 9 ∷ 9 ∷ [])
    ∷ case (pair "start" (1 ∷ 2 ∷ [])) (0 ∷ 1 ∷ 2 ∷ 9 ∷ 9 ∷ 9 ∷ 9 ∷ 1 ∷ 2 ∷ 9 ∷ 9 ∷ [])
    ∷ case (pair "end-(end-start)" (1 ∷ []) ++ pair "$FFC" (2 ∷ []) ++ pair "x" []) (26 ∷ 5 ∷ 33 ∷ [])
    ∷ case (pair "end" (1 ∷ []) ++ pair "$0" []) (0 ∷ 2 ∷ 1 ∷ 9 ∷ 9 ∷ 9 ∷ 9 ∷ 9 ∷ 9 ∷ 1 ∷ 9 ∷ [])
    ∷ case (pair "start" (1 ∷ 2 ∷ 3 ∷ []) ++ pair "end" (3 ∷ [])) (13 ∷ 4 ∷ 20 ∷ [])
    ∷ case (pair "start" (1 ∷ 2 ∷ 3 ∷ 4 ∷ 5 ∷ [])) (12 ∷ 2 ∷ 8 ∷ [])
    ∷ case (pair "$FFFFFFFF" (1 ∷ 2 ∷ [])) (12 ∷ 2 ∷ 12 ∷ [])
    ∷ case (pair "end" (1 ∷ 2 ∷ 3 ∷ []) ++ pair "unknown" []) (12 ∷ 2 ∷ 6 ∷ [])
    ∷ case (pair "unknown" [] ++ pair "$0" (1 ∷ [])) (26 ∷ 1 ∷ 0 ∷ [])
    ∷ case (pair "end" (1 ∷ 2 ∷ []) ++ pair "end" (1 ∷ 2 ∷ 3 ∷ [])) (12 ∷ 4 ∷ 17 ∷ [])
    ∷ case (field 1 (codes "start")) (25 ∷ 1 ∷ 0 ∷ [])
    ∷ case (field 1 (codes "unknown")) (25 ∷ 1 ∷ 0 ∷ [])
    ∷ case (field 2 (1 ∷ [])) (25 ∷ 1 ∷ 0 ∷ [])
    ∷ case (field 1 (codes "start") ++ field 1 (codes "end")) (25 ∷ 2 ∷ 8 ∷ [])
    ∷ case (field 1 (codes "unknown") ++ field 1 []) (26 ∷ 1 ∷ 0 ∷ [])
    ∷ case (field 1 (codes "start-end") ++ (2 ∷ [])) (27 ∷ 1 ∷ 0 ∷ [])
    ∷ case (field 1 (codes "start+") ++ field 3 []) (25 ∷ 1 ∷ 0 ∷ [])
    ∷ case (field 1 (codes "start") ++ (2 ∷ 0 ∷ 2 ∷ 7 ∷ [])) (25 ∷ 2 ∷ 8 ∷ [])
    ∷ case (field 1 (codes "start") ++ (2 ∷ 0 ∷ [])) (25 ∷ 2 ∷ 8 ∷ [])
    ∷ case (1 ∷ []) (25 ∷ 1 ∷ 0 ∷ [])
    ∷ []

abbrev shown : Outcome → List ℕ
shown (refused f) = f.reason ∷ f.ordinal ∷ f.place ∷ []
shown (accepted s img) = 0 ∷ s.records ∷ s.cells ∷ memory_after (replicate {A = ℕ} 8 9) (accepted s img)

unfoldable pub all_hold : List Case → Bool
unfolding digits.between digits.is_hex digits.value row1 over row12 row13 filled is_letter is_alnum is_blank is_break counted all_of number_in is_name is_number symbols_in operation digits_at number_at word_at name_at closed_at term_by is_sign next_by more_by sum_by sum_at expression verdict worth_of tight parts_of is_last is_title is_pair row22 symbol_count row23 row24 line_row block_of length_at end_at field_at fields is_field pair_plan sheet_plan table_outcome sheet_outcome
all_hold [] = true
all_hold (c ∷ cs) = same (shown (sheet_outcome window text c.sheet)) c.gives && all_hold cs

pub cases_hold : T (all_hold cases)
unfolding all_hold
cases_hold = tt

-- row 1 comes first, then the block's rows, then the sheet's: here all apply, then all but row 1, then all but the block's
abbrev pub orders : Bool
orders =
    let short : Window = window_of 4092 (replicate {A = ℕ} 8 9) [] in
    let cut : List ℕ = codes "$$ M" in
    let odd : List ℕ = 1 ∷ [] in
    same (shown (sheet_outcome short cut odd)) (1 ∷ 0 ∷ 0 ∷ []) && same (shown (sheet_outcome window cut odd)) (22 ∷ 1 ∷ 4 ∷ [])
    && same (shown (sheet_outcome short text odd)) (1 ∷ 0 ∷ 0 ∷ [])

pub orders_hold : T orders
unfolding digits.between digits.is_hex digits.value row1 is_letter is_alnum is_blank is_break counted all_of number_in is_name is_number symbols_in tight parts_of is_last is_title is_pair row22 symbol_count row23 row24 line_row block_of length_at end_at field_at fields is_field pair_plan sheet_plan table_outcome sheet_outcome
orders_hold = tt

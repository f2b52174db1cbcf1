-- What a patch sheet asks of a window: rows 25, 26 and 27, and stores for the placing that has rows 12 and 13 (Req 13).
use Rattle.std.specs.Prelude.{ℕ, suc, ◌+◌, cond, not, List, [], ◌∷◌, length, Result, Ok, Err}
use Rattle.std.specs.Prelude.{None}
use Rattle.window.specs.declared.Refusal.{Refusal}
use Rattle.window.specs.Windows.{Window}
use Rattle.window.specs.Images.{blank}
use Rattle.window.specs.Plans.{Summary, refusal, Plan, Outcome, placed}
use Rattle.window.specs.Plans.Plan.{store, stop, done}
use Rattle.window.specs.Plans.Outcome.{refused}
use Rattle.symbol_table.specs.Symbols.{Symbol, symbols_in}
use Rattle.operands.specs.declared.ExpressionError.{ExpressionError}
use Rattle.operands.specs.Values.{worth_of, row_of}
use Rattle.symbols.specs.declared.Table.{Table}
use Rattle.symbols.specs.Blocks.{stretch, block_of}
use Rattle.symbol_load.specs.Loads.{row1_or}
use Rattle.sheet_fields.specs.Fields.{Field, fields, is_field}

-- "header empty, entry absent"; "each pair one data record"
abbrev pub summary : ℕ → ℕ → Summary
summary pairs cells = record { header = []; entry = None; records = pairs; cells = cells }

-- an address f that is worth w, and its bytes g, k fields standing before them: rows 25 to 27 of the address, row 25 of g; then the rest
abbrev pub worth_plan : ℕ → Field → Result ℕ ExpressionError → Field → Plan → Plan
worth_plan k f (Err e) g rest = stop (refusal (row_of e) (suc k) f.place)
worth_plan k f (Ok a) g rest =
    cond (not (is_field 2 g)) (stop (refusal 25 (suc (suc k)) g.place)) (store (suc (suc k)) g.place a g.bytes rest)

-- row 25 of f itself comes first
unfoldable pub pair_plan : ℕ → Field → Result ℕ ExpressionError → Field → Plan → Plan
pair_plan k f w g rest = cond (not (is_field 1 f)) (stop (refusal 25 (suc k) f.place)) (worth_plan k f w g rest)

-- the fields from a pair on; "a tag 1 with nothing after it" is bad, and so is any other field that is the last of an odd number
abbrev pub planned : List Symbol → ℕ → ℕ → ℕ → List Field → Plan
planned S k pairs cells [] = done (summary pairs cells)
planned S k pairs cells (f ∷ []) = stop (refusal 25 (suc k) f.place)
planned S k pairs cells (f ∷ g ∷ fs) =
    pair_plan k f (worth_of S f.bytes) g (planned S (suc (suc k)) (suc pairs) (cells + length g.bytes) fs)

-- what a sheet asks, with the symbols S
unfoldable pub sheet_plan : List Symbol → List ℕ → Plan
sheet_plan S sheet = planned S 0 0 0 (fields sheet)

-- row 1, then the sheet's rows, with the symbols of a table
unfoldable pub table_outcome : Window → List ℕ → List ℕ → Outcome
table_outcome W table sheet = row1_or W (placed W.base (blank (length W.memory)) (sheet_plan (symbols_in table) sheet))

-- "a second call is lent a text again, reads only its symbol block": the block's rows, or its table
abbrev pub with_block : Window → List ℕ → List ℕ → Result Table Refusal → Outcome
with_block W text sheet (Err f) = row1_or W (refused f)
with_block W text sheet (Ok t) = table_outcome W (stretch text t.from t.to) sheet

-- the outcome: row 1, the block's rows, then the sheet's
unfoldable pub sheet_outcome : Window → List ℕ → List ℕ → Outcome
sheet_outcome W text sheet = with_block W text sheet (block_of text)

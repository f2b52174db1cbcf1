-- The rows of symbol blocks and sheets are none of the window's.
use mathlib.Core.Path.{◌≡◌}
use Prim.Native.Nat.{ℕ, suc, ◌+◌}
use native.Mathlib.Omega.{arith}
use mathlib.Core.Bool.{not}
use mathlib.Core.List.{List, [], ◌∷◌}
use lib.Dec.{eqb}
use lib.ListN.{length}
use Rattle.std.specs.Prelude.{Result, Ok, Err}
use Rattle.lists.proofs.TestLaws.{Of, either}
use Rattle.window.specs.declared.Refusal.{Refusal}
use Rattle.window.specs.Plans.{Plan}
use Rattle.text.specs.Lines.{Line, lines}
use Rattle.words.specs.Words.{is_break}
use Rattle.symbol_table.specs.Symbols.{Symbol}
use Rattle.symbol_lines.specs.Lines.{is_last, is_title, row22, symbol_count}
use Rattle.symbols.specs.declared.Table.{Table}
use Rattle.symbols.specs.Blocks.{row23, row24, line_row, walked, opened, block_of}
use Rattle.operands.specs.declared.ExpressionError.{ExpressionError}
use Rattle.operands.specs.declared.ExpressionError.TheVariants.{Malformed, NoValue}
use Rattle.operands.specs.declared.ValueError.TheVariants.{UnknownName, OutOfRange}
use Rattle.operands.specs.Values.{worth_of, row_of}
use Rattle.sheet_fields.specs.Fields.{Field, fields, is_field}
use Rattle.sheets.specs.Sheets.{worth_plan, pair_plan, planned, sheet_plan}
use Rattle.spans.specs.Facts.{Windowless}

-- a row that is neither 12 nor 13
abbrev pub Other : ℕ → Type 0
Other row = (row ≡ 12 → ⊥) × (row ≡ 13 → ⊥)

-- ---- blocks

-- a block is refused by another row
abbrev pub BlockOther : Result Table Refusal → Type 0
BlockOther (Err f) = Other f.reason
BlockOther (Ok t) = Unit {0}

line_other : (text : List ℕ) (from n : ℕ) (l : Line) → Of Other (line_row text from n l)
unfolding line_row
line_other text from n l =
    either (row22 l.chars) (other 22 (λ q. omega (arith, q)) (λ q. omega (arith, q)))
    (either (row23 text from l) (other 23 (λ q. omega (arith, q)) (λ q. omega (arith, q)))
    (either (row24 n l.chars) (other 24 (λ q. omega (arith, q)) (λ q. omega (arith, q))) (other 0 (λ q. omega (arith, q)) (λ q. omega (arith, q)))))
  where
    other : (row : ℕ) → (row ≡ 12 → ⊥) → (row ≡ 13 → ⊥) → Of Other row
    other row p q = record { got = (p, q) }

walked_other : (text : List ℕ) (from k n : ℕ) (ls : List Line) → Of BlockOther (walked text from k n ls)
walked_other text from k n [] = record { got = (λ q. omega (arith, q), λ q. omega (arith, q)) }
walked_other text from k n (l ∷ ls) =
    either (is_last l.chars) (record { got = tt })
    (either (eqb (line_row text from n l) 0) (walked_other text from (suc k) (n + symbol_count l.chars) ls) (record { got = (line_other text from n l).got }))

opened_other : (text : List ℕ) (ls : List Line) → Of BlockOther (opened text ls)
opened_other text [] = record { got = (λ q. omega (arith, q), λ q. omega (arith, q)) }
opened_other text (l ∷ ls) =
    either (is_title l.chars) (walked_other text (l.place + length l.chars) 1 0 ls) (record { got = (λ q. omega (arith, q), λ q. omega (arith, q)) })

-- the block of any text is
pub block_other : (text : List ℕ) → BlockOther (block_of text)
unfolding block_of
block_other text = (opened_other text (lines is_break 0 text)).got

-- ---- sheets

-- an expression is refused by another row
row_other : (e : ExpressionError) → Other (row_of e)
row_other Malformed = (λ q. omega (arith, q), λ q. omega (arith, q))
row_other (NoValue UnknownName) = (λ q. omega (arith, q), λ q. omega (arith, q))
row_other (NoValue OutOfRange) = (λ q. omega (arith, q), λ q. omega (arith, q))

-- a pair is, where the rest is
worth_free : (k : ℕ) (f : Field) (w : Result ℕ ExpressionError) (g : Field) (rest : Plan) → Windowless rest → Of Windowless (worth_plan k f w g rest)
worth_free k f (Err e) g rest r = record { got = row_other e }
worth_free k f (Ok a) g rest r =
    either (not (is_field 2 g)) (record { got = (λ q. omega (arith, q), λ q. omega (arith, q)) }) (record { got = r })

pair_free : (k : ℕ) (f : Field) (w : Result ℕ ExpressionError) (g : Field) (rest : Plan) → Windowless rest → Of Windowless (pair_plan k f w g rest)
unfolding pair_plan
pair_free k f w g rest r =
    either (not (is_field 1 f)) (record { got = (λ q. omega (arith, q), λ q. omega (arith, q)) }) (worth_free k f w g rest r)

fields_free : (S : List Symbol) (k n c : ℕ) (fs : List Field) → Windowless (planned S k n c fs)
fields_free S k n c [] = tt
fields_free S k n c (f ∷ []) = (λ q. omega (arith, q), λ q. omega (arith, q))
fields_free S k n c (f ∷ g ∷ fs) =
    (pair_free k f (worth_of S f.bytes) g (planned S (suc (suc k)) (suc n) (c + length g.bytes) fs)
    (fields_free S (suc (suc k)) (suc n) (c + length g.bytes) fs)).got

-- the plan of any sheet stops by none of the window's rows
pub sheet_free : (S : List Symbol) (sheet : List ℕ) → Windowless (sheet_plan S sheet)
unfolding sheet_plan
sheet_free S sheet = fields_free S 0 0 0 (fields sheet)

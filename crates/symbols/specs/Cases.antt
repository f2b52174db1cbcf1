-- Worked examples of symbol blocks, as one table under one statement.
use Rattle.std.specs.Prelude.{Bool, true, false, not, ◌&&◌, List, [], ◌∷◌, ◌++◌, ℕ, T, eqb, Result, Ok, Err}
use Rattle.std.proofs.Math.Option.{Option, none, some}
use Prim.Native.String.{String}
use Rattle.lists.specs.Characters.{codes}
use Rattle.hex_digits.specs.Digits.{between, is_hex, value}
use Rattle.words.specs.Words.{is_letter, is_alnum, is_blank, is_break, counted, all_of, number_in, is_name, is_number}
use Rattle.symbol_table.specs.Symbols.{symbols_in, meaning, is_some}
use Rattle.window.specs.declared.Refusal.{Refusal}
use Rattle.symbols.specs.declared.Table.{Table}
use Rattle.symbol_lines.specs.Lines.{tight, parts_of, is_last, is_title, is_pair, row22, symbol_count}
use Rattle.symbols.specs.Blocks.{bad, table, row23, row24, line_row, block_of}

-- a text, and its block
pub record Case : Type 0 where
  pub text : String
  pub block : Result Table Refusal

abbrev case : String → Result Table Refusal → Case
case text block = record { text = text; block = block }

abbrev pub cases : List Case
cases =
    case "$$ M\nstart $10\n$$\nS9" (table 4 15)
    ∷ case "$$ M\r\n\r\na $1 b  $2 c $3   d $4\r\n$$" (table 4 32)
    ∷ case "\n\n$$   M\n$$" (table 8 9)
    ∷ case "$$ M\na $fF b $0000010A\n$$" (table 4 23)
    ∷ case "" (bad 22 0 0)
    ∷ case "\n\n" (bad 22 0 2)
    ∷ case "$$ M\n  \n$$" (bad 22 2 5)
    ∷ case "$$ M2345678901234567\n$$" (bad 22 1 0)
    ∷ case "$$ M" (bad 22 1 4)
    ∷ case "$$ M\na $1" (bad 22 2 9)
    ∷ case "$$" (bad 22 1 0)
    ∷ case "$$ 1M\n$$" (bad 22 1 0)
    ∷ case " $$ M\n$$" (bad 22 1 0)
    ∷ case "$$ M \n$$" (bad 22 1 0)
    ∷ case "$$ M N\n$$" (bad 22 1 0)
    ∷ case "$$ M\n$$ \n$$" (bad 22 2 5)
    ∷ case "$$ M\n$$ N\n$$" (bad 22 2 5)
    ∷ case "$$ M\na\n$$" (bad 22 2 5)
    ∷ case "$$ M\na $1 b\n$$" (bad 22 2 5)
    ∷ case "$$ M\na $\n$$" (bad 22 2 5)
    ∷ case "$$ M\na $123456789\n$$" (bad 22 2 5)
    ∷ case "$$ M\na 1\n$$" (bad 22 2 5)
    ∷ case "$$ M\na\t$1\n$$" (bad 22 2 5)
    ∷ case "$$ M\na2345678901234567 $1\n$$" (bad 22 2 5)
    ∷ case "$$ M\na234567890123456 $12345678\n$$" (table 4 32)
    ∷ case "$$ M\na $1 b $2 c $3 d $4 e $5\n$$" (bad 22 2 5)
    ∷ case "$$ M\na $1\na $1\n$$" (bad 23 3 10)
    ∷ case "$$ M\na $1\nb $2 a $3\n$$" (bad 23 3 10)
    ∷ case "$$ M\na $1 a $1\n$$" (bad 23 2 5)
    ∷ case "$$ M\na $1\na $1 b\n$$" (bad 22 3 10)
    ∷ case "$$ M\na $1\nA $1\nM $1\n$$" (table 4 20)
    ∷ []

abbrev agrees : Result Table Refusal → Result Table Refusal → Bool
agrees (Err f) (Err g) = eqb f.reason g.reason && eqb f.ordinal g.ordinal && eqb f.place g.place
agrees (Err f) (Ok u) = false
agrees (Ok t) (Err g) = false
agrees (Ok t) (Ok u) = eqb t.from u.from && eqb t.to u.to

unfoldable pub all_hold : List Case → Bool
unfolding between is_hex value is_letter is_alnum is_blank is_break counted all_of number_in is_name is_number symbols_in tight parts_of is_last is_title is_pair row22 symbol_count row23 row24 line_row block_of
all_hold [] = true
all_hold (c ∷ cs) = agrees (block_of (codes c.text)) c.block && all_hold cs

pub cases_hold : T (all_hold cases)
unfolding all_hold
cases_hold = tt

-- a table, a name, and what it stands for
abbrev pub meanings : Bool
meanings =
    let table : List ℕ = codes "a $fF b $0000010A" in
    means (meaning (symbols_in table) (codes "a")) 255 && means (meaning (symbols_in table) (codes "b")) 266
    && not (is_some (meaning (symbols_in table) (codes "A")))
  where
    means : Option ℕ → ℕ → Bool
    means none n = false
    means (some v) n = eqb v n

pub meanings_hold : T meanings
unfolding between is_hex value is_letter is_alnum is_blank is_break counted all_of number_in is_name is_number symbols_in
meanings_hold = tt

-- the row of a line behind the symbol `a`, where there were n symbols before it
abbrev row_with : ℕ → String → ℕ
row_with n line = line_row (codes "$$ M\na $1\n" ++ codes line) 4 n (record { place = 10; chars = codes line })

-- row 22 of the whole line comes first, then 23 anywhere in it, then 24
abbrev pub orders : Bool
orders =
    eqb (row_with 1 "a $1 b") 22 && eqb (row_with 1024 "a $1 b") 22 && eqb (row_with 1024 "a $1") 23 && eqb (row_with 1024 "b $1 a $2") 23
    && eqb (row_with 1024 "b $1") 24 && eqb (row_with 1021 "b $1 c $2 d $3 e $4") 24 && eqb (row_with 1023 "b $1") 0

pub orders_hold : T orders
unfolding between is_hex value is_letter is_alnum is_blank counted all_of number_in is_name is_number symbols_in tight parts_of is_pair row22 symbol_count row23 row24 line_row
orders_hold = tt

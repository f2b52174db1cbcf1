-- Worked examples of expressions, as one table under one statement.
use Rattle.std.specs.Prelude.{Bool, true, ◌&&◌, List, [], ◌∷◌, ◌++◌, ℕ, T, eqb, replicate, Result, Ok, Err}
use Prim.Native.String.{String}
use Rattle.lists.specs.Characters.{codes}
use Rattle.hex_digits.specs.Digits.{between, is_hex, value}
use Rattle.words.specs.Words.{is_letter, is_alnum, is_blank, counted, number_in}
use Rattle.symbol_table.specs.Symbols.{symbols_in}
use Rattle.operands.specs.declared.ExpressionError.{ExpressionError}
use Rattle.operands.specs.Trees.{operation}
use Rattle.operands.specs.Reading.{digits_at, number_at, word_at, name_at, closed_at, term_by, is_sign, next_by, more_by, sum_by, sum_at, expression}
use Rattle.operands.specs.Values.{verdict, worth_of, row_of}

-- a text, and the row or value that it is given; the other is 0
pub record Case : Type 0 where
  pub text : List ℕ
  pub row : ℕ
  pub worth : ℕ

abbrev case : String → ℕ → ℕ → Case
case text row worth = record { text = codes text; row = row; worth = worth }

-- n brackets around `$1`
abbrev nested : ℕ → List ℕ
nested n = replicate n 40 ++ codes "$1" ++ replicate n 41

-- the table of the examples: two names that differ in a capital, and one of 16 characters
abbrev pub table : List ℕ
table = codes "start $1000 Start $2000\nsize16characters $10"

abbrev pub cases : List Case
cases =
    case "$10+$5" 0 21
    ∷ case "start" 0 4096
    ∷ case "Start-start" 0 4096
    ∷ case "size16characters" 0 16
    ∷ case "size16charactersx" 25 0
    ∷ case "START" 26 0
    ∷ case "$FFFFFFFF" 0 4294967295
    ∷ case "$fFfFfFfF" 0 4294967295
    ∷ case "$100000000" 25 0
    ∷ case "$" 25 0
    ∷ case "$G" 25 0
    ∷ case "" 25 0
    ∷ case "()" 25 0
    ∷ case "-$1" 25 0
    ∷ case "$1+" 25 0
    ∷ case "$1 +$2" 25 0
    ∷ case "1" 25 0
    ∷ case "1a" 25 0
    ∷ case "a1" 26 0
    ∷ case "($1" 25 0
    ∷ case "$1)" 25 0
    ∷ case "$1start" 25 0
    ∷ case "$5-$3-$1" 0 1
    ∷ case "$5-($3-$1)" 0 3
    ∷ case "(($5)-($3-$1))+$1" 0 4
    ∷ case "$1-$2" 27 0
    ∷ case "$1-$2+$2" 27 0
    ∷ case "$FFFFFFFF+$1" 27 0
    ∷ case "$FFFFFFFF+$1-$1" 27 0
    ∷ case "$1-$2+x" 26 0
    ∷ case "x+$1-$2+" 25 0
    ∷ record { text = nested 32; row = 0; worth = 1 }
    ∷ record { text = nested 33; row = 25; worth = 0 }
    ∷ record { text = nested 32 ++ codes "+" ++ nested 32; row = 0; worth = 2 }
    ∷ case "$5-($3-$4)" 27 0
    ∷ case "$5+($FFFFFFFF+$1)" 27 0
    ∷ []

abbrev agrees : Result ℕ ExpressionError → Case → Bool
agrees (Ok v) c = eqb 0 c.row && eqb v c.worth
agrees (Err e) c = eqb (row_of e) c.row && eqb 0 c.worth

unfoldable pub all_hold : List Case → Bool
unfolding between is_hex value is_letter is_alnum is_blank counted number_in symbols_in operation digits_at number_at word_at name_at closed_at term_by is_sign next_by more_by sum_by sum_at expression verdict worth_of
all_hold [] = true
all_hold (c ∷ cs) = agrees (worth_of (symbols_in table) c.text) c && all_hold cs

pub cases_hold : T (all_hold cases)
unfolding all_hold
cases_hold = tt

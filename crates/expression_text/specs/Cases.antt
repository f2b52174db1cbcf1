-- Worked examples of normal forms, as one table under one statement.
use Rattle.std.specs.Prelude.{Bool, true, false, ◌&&◌, List, [], ◌∷◌, ℕ, T}
use Rattle.std.proofs.Math.Option.{Option, none, some}
use Prim.Native.String.{String}
use Rattle.lists.specs.Characters.{codes}
use Rattle.hex_digits.specs.Digits.{between, is_hex, value, digit}
use Rattle.words.specs.Words.{is_letter, is_alnum, counted, number_in, same}
use Rattle.operands.specs.Trees.{Tree, operation}
use Rattle.operands.specs.Reading.{digits_at, number_at, word_at, name_at, closed_at, term_by, is_sign, next_by, more_by, sum_by, sum_at, expression}
use Rattle.expression_text.specs.Printing.{printed}

-- a text, and the normal form of its tree
pub record Case : Type 0 where
  pub text : List ℕ
  pub form : List ℕ

abbrev case : String → String → Case
case text form = record { text = codes text; form = codes form }

abbrev pub cases : List Case
cases =
    case "$5" "$00000005"
    ∷ case "$deadBEEF" "$DEADBEEF"
    ∷ case "start" "start"
    ∷ case "((Start))" "Start"
    ∷ case "$5-($3-$1)" "$00000005-($00000003-$00000001)"
    ∷ case "(($5)-$3)-$1" "$00000005-$00000003-$00000001"
    ∷ case "a+(b)" "a+b"
    ∷ case "(a)+((b+c)-(d-(e)))" "a+(b+c-(d-e))"
    ∷ []

abbrev agrees : Option Tree → List ℕ → Bool
agrees none form = false
agrees (some t) form = same (printed t) form

unfoldable pub all_hold : List Case → Bool
unfolding between is_hex value digit is_letter is_alnum counted number_in operation digits_at number_at word_at name_at closed_at term_by is_sign next_by more_by sum_by sum_at expression
all_hold [] = true
all_hold (c ∷ cs) = agrees (expression c.text) c.form && all_hold cs

pub cases_hold : T (all_hold cases)
unfolding all_hold
cases_hold = tt

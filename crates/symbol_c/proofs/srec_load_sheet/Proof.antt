-- `srec_load_sheet` meets its contract: what the library function answers and leaves.
use mathlib.Core.Path.{ap, ◌∙◌}
use Rattle.c_answers.specs.Answers.{answer_of}
use borrow.Author.Rules.{rules}
use Rattle.symbol_c.proofs.srec_load_sheet.Statement.{statement}
use Rattle.symbol_c.proofs.srec_load_sheet.Tie as tie

returns : tie.Need-returns
returns c =
    let l = c.load_sheet-loaded.ensures in
    (c.answer_of.ensures ∙ ap answer_of l.0, l.1)

pub srec_load_sheet_spec : {M : Type 1} → statement M
srec_load_sheet_spec = tie.close (tie.spec (λ c κs. search rules) (λ c κs. search rules) (λ c. search rules) (λ c. search rules) returns)

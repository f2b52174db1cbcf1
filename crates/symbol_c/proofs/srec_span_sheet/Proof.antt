-- `srec_span_sheet` meets its contract: what the library function answers.
use mathlib.Core.Path.{ap, ◌∙◌}
use Rattle.c_answers.specs.Answers.{reach_of}
use borrow.Author.Rules.{rules}
use Rattle.symbol_c.proofs.srec_span_sheet.Statement.{statement}
use Rattle.symbol_c.proofs.srec_span_sheet.Tie as tie

returns : tie.Need-returns
returns c = c.reach_of.ensures ∙ ap reach_of c.sheet_span-span.ensures

pub srec_span_sheet_spec : {M : Type 1} → statement M
srec_span_sheet_spec = tie.close (tie.spec (λ c κs. search rules) (λ c κs. search rules) returns)

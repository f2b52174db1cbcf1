-- `refused_answer` meets its contract: its header is empty.
use mathlib.Core.Path.{refl}
use borrow.Author.Rules.{rules}
use Rattle.answers.proofs.refused_answer.Statement.{statement}
use Rattle.answers.proofs.refused_answer.Tie as tie

returns : tie.Need-returns
returns c = rw c.no_header.ensures refl

pub refused_answer_spec : {M : Type 1} → statement M
refused_answer_spec = tie.close (tie.spec (λ c κs. search rules) returns)

-- `accepted_answer` meets its contract: its refusal has the number 0.
use mathlib.Core.Path.{refl}
use borrow.Author.Rules.{rules}
use Rattle.answers.proofs.accepted_answer.Statement.{statement}
use Rattle.answers.proofs.accepted_answer.Tie as tie

returns : tie.Need-returns
returns c = rw c.refuse.ensures refl

pub accepted_answer_spec : {M : Type 1} → statement M
accepted_answer_spec = tie.close (tie.spec (λ c κs. search rules) returns)

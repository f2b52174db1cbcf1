-- `refused` meets its contract: its header is empty.
use mathlib.Core.Path.{refl}
use borrow.Author.Rules.{rules}
use Rattle.merge.proofs.refused.Statement.{statement}
use Rattle.merge.proofs.refused.Tie as tie

returns : tie.Need-returns
returns c = rw c.no_header.ensures refl

pub refused_spec : {M : Type 1} → statement M
refused_spec = tie.close (tie.spec (λ c κs. search rules) returns)

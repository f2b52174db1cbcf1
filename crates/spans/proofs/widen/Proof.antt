-- `widen` meets its contract.
use borrow.Author.Tests.{eq-eqb, ne_eqb}
use borrow.Author.Rules.{rules}
use Rattle.spans.specs.Spans.{widened}
use Rattle.spans.proofs.widen.Statement.{statement}
use Rattle.spans.proofs.widen.Tie as tie

returns : tie.Need-returns-then-count-eq0
unfolding widened
returns c = rw (eq-eqb _ _ c.if-count-eq0.true)

returns-2 : tie.Need-returns-then-span
unfolding widened
returns-2 c =
    let p = c.before.before in
    rw (ne_eqb _ 0 p.before.if-count-eq0.false, p.if-span.true, c.before.lower.ensures, c.higher.ensures)

returns-3 : tie.Need-returns
unfolding widened
returns-3 c = rw (ne_eqb _ 0 c.before.if-count-eq0.false, c.if-span.false)

pub widen_spec : {M : Type 1} → statement M
widen_spec =
    tie.close
    (tie.spec returns (λ c. search rules) (λ c. search rules) (λ c κs. search rules) (λ c κs. search rules) returns-2 returns-3)

use Rattle.std.proofs.Common.{◌∙◌, rules}
use Rattle.symbol_lines.proofs.LineLaws.{pairs_loose, going_start, pairs_end, pairs_odd, pairs_full, pairs_unlike, pairs_on}
use Rattle.symbol_lines.proofs.pairs_of.Goals as goal

pub returns-then-not-is_tight-clause-count : goal.returns-then-not-is_tight-clause-count
returns-then-not-is_tight-clause-count c = pairs_loose c.args.line.now (search rules)

pub loop-name-init : goal.loop-name-init
loop-name-init c = going_start c.args.line.now (search rules)

pub returns-in_err-value-clause-count : goal.returns-in_err-value-clause-count
returns-in_err-value-clause-count c =
    c.from_residual.ensures ∙ pairs_odd c.args.line.now c.loop-name.invariant c.in-Some.name c.in-Some.ensures.first c.in_err-value.ensures.first

pub returns-then-count-eq-PAIRS-clause-count : goal.returns-then-count-eq-PAIRS-clause-count
returns-then-count-eq-PAIRS-clause-count c =
    pairs_full c.args.line.now c.loop-name.invariant c.in-Some.name c.in-Some.ensures.first c.in_ok-value.value c.in_ok-value.ensures.first (search rules)

pub returns-then-not-is_pair-clause-count : goal.returns-then-not-is_pair-clause-count
returns-then-not-is_pair-clause-count c =
    pairs_unlike c.args.line.now c.loop-name.invariant c.in-Some.name c.in-Some.ensures.first c.in_ok-value.value c.in_ok-value.ensures.first
    (search rules) (search rules)

pub loop-name-preserved : goal.loop-name-preserved
loop-name-preserved c =
    pairs_on c.args.line.now c.loop-name.invariant c.in-Some.name c.in-Some.ensures.first c.in_ok-value.value c.in_ok-value.ensures.first
    (search rules) (search rules)

pub returns-clause-count : goal.returns-clause-count
returns-clause-count c = pairs_end c.args.line.now c.loop-name.invariant (search rules)

-- LF alone is one separator.
use native.Mathlib.Omega.{arith}
use Rattle.lines.proofs.GapLaws.{one_gap}
use Rattle.lines.proofs.count_gaps.Goals as goal

pub returns-then-is_one_gap : goal.returns-then-is_one_gap
returns-then-is_one_gap c =
    let lone = c.is_one_gap.ensures c.if-is_one_gap.true in
    (one_gap c.args.format c.args.text.now lone, omega (arith, lone.0))

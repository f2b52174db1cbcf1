-- A record that was read is judged.
use Rattle.srec_fields.proofs.FieldLaws.{Got, got}
use Rattle.srec_judge.proofs.JudgeLaws.{type_known, counts_fit, step_good}
use Rattle.srec_step.proofs.step_of.Goals as goal
use Rattle.srec_step.proofs.step_of.Goals.{In-Ok}

-- what it says
got-at : (c : In-Ok) → let r = c.in-Ok.record in Got c.args.chars.now r.kind r.address r.count
got-at c = got c.args.chars.now c.args.place _ _ _ c.in-Ok.ensures

pub judge-requires : goal.judge-requires
judge-requires c = record { kind_known = type_known (got-at c); counts = counts_fit c.args.place c.args.state c.args.chars.now (got-at c) c.requires.counts }

pub returns-in-Ok : goal.returns-in-Ok
returns-in-Ok c = step_good c.args.place c.args.state c.args.chars.now (got-at (goal.at.returns-in-Ok c).In-Ok) _ c.judge.ensures

-- A good record is judged, and has no line end inside.
use Rattle.srec_fields.proofs.FieldLaws.{Got, got}
use Rattle.srec_judge.proofs.JudgeLaws.{type_known, counts_fit, step_good}
use Rattle.srec_step.proofs.RecordGapLaws.{good_line}
use Rattle.srec_step.proofs.good_step.Goals as goal
use Rattle.srec_step.proofs.good_step.Goals.{In_ok-record}

-- what the record says
got-at : (c : In_ok-record) → let r = c.in_ok-record.record in Got c.args.chars.now r.kind r.address r.count
got-at c = got c.args.chars.now 0 _ _ _ c.in_ok-record.ensures

pub judge-requires : goal.judge-requires
judge-requires c = record { kind_known = type_known (got-at c); counts = counts_fit c.args.place c.args.state c.args.chars.now (got-at c) c.requires.counts }

pub returns : goal.returns
returns c =
    let g = got-at (goal.at.returns c).In_ok-record in
    let l = good_line c.args.chars.now g in
    (step_good c.args.place c.args.state c.args.chars.now g _ c.judge.ensures, l.0, l.1)

-- `good_step` meets its contract: a line that was read and has the right check is judged.
use Rattle.std.proofs.Common.{◌∙◌, arith}
use Rattle.tape_read.proofs.LineFieldLaws.{line_got}
use Rattle.tape_step.proofs.LineStepLaws.{judge_fits, step_good}
use Rattle.tape_step.proofs.LineGapLaws.{line_front}
use Rattle.tape_step.proofs.good_step.Goals as goal

pub judge-requires : goal.judge-requires
judge-requires c =
    let a = c.args in
    judge_fits a.edition a.place a.state a.chars.now _ _ (line_got _ _ _ _ c.in_ok-address.ensures.0) c.requires.counts

pub returns : goal.returns
returns c =
    let a = c.args in
    let got = line_got _ _ _ _ c.in_ok-address.ensures.0 in (
      c.judge.ensures ∙ step_good a.edition a.place a.state a.chars.now _ _ got c.in_ok-address.ensures.1,
      omega (arith, got.long),
      line_front a.chars.now _ _ got,
    )

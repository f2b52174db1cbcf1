-- `take_next` meets its contract: a good line that ends where its count says is the next one.
use Rattle.std.proofs.Common.{◌+◌}
use Rattle.text.proofs.FindLaws.{from_is}
use Rattle.text.proofs.StepLaws.{taken_line}
use Rattle.formats.specs.Choices.{format_of}
use Rattle.steps.proofs.SureLaws.{sure_next}
use Rattle.steps.proofs.take_next.Goals as goal

pub returns-in-Some-good_step : goal.returns-in-Some-good_step
returns-in-Some-good_step c =
    let a = c.args in
    let F = format_of a.format in
    let first = a.at + c.count_gaps.result in
    let begins = from_is F.gap a.text.now a.at _ c.count_gaps.ensures.0 in
    let ends = c.counted_end-to.ensures in
    let next = sure_next F a.state a.text.now a.at first _ c.requires.0 begins ends.0 ends.1 ends.2 _ c.in-Some-good_step.ensures in
    taken_line F a.state a.text.now a.at first _ next.0 _ next.1

-- `search_next` meets its contract: the line that was found takes its step.
use Rattle.std.proofs.Common.{arith}
use Rattle.text.proofs.FindLaws.{next_is}
use Rattle.text.proofs.StepLaws.{taken_line}
use Rattle.formats.specs.Choices.{format_of}
use Rattle.steps.proofs.search_next.Goals as goal

pub slice_bounds-step_of-end : goal.slice_bounds-step_of-end
slice_bounds-step_of-end c = omega (arith, (next_is _ _ _ _ _ c.requires.0 c.in_ok-from.ensures).high)

pub returns : goal.returns
returns c =
    let a = c.args in
    taken_line (format_of a.format) a.state a.text.now a.at _ _ (next_is _ _ _ _ _ c.requires.0 c.in_ok-from.ensures) _ c.step_of-step.ensures

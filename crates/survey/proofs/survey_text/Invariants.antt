-- The survey so far, with what is left, is that of the whole.
use Rattle.std.proofs.Common.{◌-◌, length}
use Rattle.formats.specs.Choices.{format_of}
use Rattle.survey.proofs.SurveyLaws.{Going}
use Rattle.survey.proofs.survey_text.Given as goal

abbrev pub invariant-loop-from : goal.invariant-loop-from
invariant-loop-from l = Going (format_of l.format) l.text l.address l.span l.origin l.state l.at

abbrev pub decreases-loop-from : goal.decreases-loop-from
decreases-loop-from l = length l.text - l.at

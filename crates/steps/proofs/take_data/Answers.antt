-- `take_data` meets its contract: a data record that it is sure of is the next line.
use Rattle.std.proofs.Common.{◌≡◌, ◌+◌, subst, arith}
use Rattle.srec.specs.Formats.{srec}
use Rattle.srec.specs.Lines.{is_end}
use Rattle.srec_fields.specs.Shapes.{DataAt}
use Rattle.text.proofs.FindLaws.{from, from_is, gap_stops}
use Rattle.text.proofs.StepLaws.{taken_line}
use Rattle.formats.specs.declared.Format.{Format}
use Rattle.formats.specs.Choices.{format_of}
use Rattle.steps.proofs.SureLaws.{sure_next}
use Rattle.steps.proofs.take_data.Goals as goal

pub returns : goal.returns
returns c =
    let a = c.args in
    let text = a.text.now in
    let first = a.at + c.count_gaps.result in
    let last = c.in_ok-to.to in
    let own : DataAt text first last = c.in_ok-to.ensures in
    let begins = subst (λ (f : Format). first ≡ from (format_of f).gap text a.at) c.in-Records.is
    (from_is (format_of a.format).gap text a.at _ c.count_gaps.ensures.0) in
    let next = sure_next srec a.state text a.at first last c.requires.0 begins own.0 (omega (arith, own.1)) (gap_stops is_end text last own.1 own.2) _
    c.in_ok-step.ensures in
    rw c.in-Records.is (taken_line srec a.state text a.at first last next.0 _ next.1)

-- `survey_text` meets its contract: each way out and each way round is one law of LeftLaws or SurveyLaws.
use Rattle.std.proofs.Common.{length, drop, ◌∙◌, sym, ap, arith}
use Rattle.text.specs.Lines.{lines}
use Rattle.text.specs.Scan.{Step}
use Rattle.text.proofs.LeftLaws.{left_refused, left_ended, left_pass, left_put}
use Rattle.text.proofs.StepLaws.{line_taken}
use Rattle.formats.specs.Choices.{format_of}
use Rattle.formats.proofs.ChoiceLaws.{lawful_of, top_small}
use Rattle.steps.proofs.ChosenLaws.{counting_of}
use Rattle.data_byte.specs.Places.{bytes_in}
use Rattle.survey.proofs.SurveyLaws.{going_start, going_end, going_ended, going_put}
use Rattle.survey.proofs.survey_text.Goals as goal

pub loop-from-init : goal.loop-from-init
loop-from-init c = rw (c.start-state.ensures, c.no_span-span.ensures, c.nowhere-origin.ensures) (going_start _ _ _)

pub returns-in-Refuse : goal.returns-in-Refuse
returns-in-Refuse c =
    let g = c.loop-from.invariant in
    let line = line_taken (format_of c.args.format) _ _ _ _ _ _ g.left.inside c.in-Some.ensures in
    going_end g (left_refused (lawful_of c.args.format) (counting_of c.args.format) g.left line.0 line.1 c.in-Refuse.is)

pub returns-in-Finish : goal.returns-in-Finish
returns-in-Finish c =
    let g = c.loop-from.invariant in
    let line = line_taken (format_of c.args.format) _ _ _ _ _ _ g.left.inside c.in-Some.ensures in
    let to = c.in-Some.field-0.to in
    going_ended g _ (lines (format_of c.args.format).gap to (drop to c.args.text.now))
    (left_ended (lawful_of c.args.format) (counting_of c.args.format) g.left line.0 line.1 c.in-Finish.is)

pub widen-span-requires : goal.widen-span-requires
widen-span-requires c =
    let g = c.loop-from.invariant in
    let line = line_taken (format_of c.args.format) _ _ _ _ _ _ g.left.inside c.in-Some.ensures in
    let put = left_put (lawful_of c.args.format) (counting_of c.args.format) g.left line.0 line.1 c.in-Put.is in
    omega (arith, put.small, put.count_is, top_small c.args.format)

pub slice_bounds-trace-end : goal.slice_bounds-trace-end
slice_bounds-trace-end c =
    omega (arith, (line_taken (format_of c.args.format) _ _ _ _ _ _ c.loop-from.invariant.left.inside c.in-Some.ensures).0.high)

pub trace-origin-requires : goal.trace-origin-requires
trace-origin-requires c =
    let g = c.loop-from.invariant in
    let line = line_taken (format_of c.args.format) _ _ _ _ _ _ g.left.inside c.in-Some.ensures in
    let put = left_put (lawful_of c.args.format) (counting_of c.args.format) g.left line.0 line.1 c.in-Put.is in
    put.count_is ∙ ap (λ (y : Step). length (bytes_in y)) (sym put.carries)

pub loop-from-smaller-in-Pass : goal.loop-from-smaller-in-Pass
loop-from-smaller-in-Pass c =
    let line = line_taken (format_of c.args.format) _ _ _ _ _ _ c.loop-from.invariant.left.inside c.in-Some.ensures in
    omega (arith, line.0.low, line.0.some_chars, line.0.high)

pub loop-from-preserved-in-Pass : goal.loop-from-preserved-in-Pass
loop-from-preserved-in-Pass c =
    let g = c.loop-from.invariant in
    let line = line_taken (format_of c.args.format) _ _ _ _ _ _ g.left.inside c.in-Some.ensures in
    record { left = left_pass (lawful_of c.args.format) (counting_of c.args.format) g.left line.0 line.1 c.in-Pass.is; settled = g.settled }

pub loop-from-smaller : goal.loop-from-smaller
loop-from-smaller c =
    let line = line_taken (format_of c.args.format) _ _ _ _ _ _ c.loop-from.invariant.left.inside c.in-Some.ensures in
    omega (arith, line.0.low, line.0.some_chars, line.0.high)

pub loop-from-preserved : goal.loop-from-preserved
loop-from-preserved c =
    let g = c.loop-from.invariant in
    let line = line_taken (format_of c.args.format) _ _ _ _ _ _ g.left.inside c.in-Some.ensures in
    let put = left_put (lawful_of c.args.format) (counting_of c.args.format) g.left line.0 line.1 c.in-Put.is in
    going_put g put _ _ c.widen-span.ensures c.trace-origin.ensures

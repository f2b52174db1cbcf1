-- `walk` meets its contract: each way out and each way round is one law of CheckLaws.
use Rattle.std.proofs.Common.{refl, sym, ◌∙◌, arith}
use Rattle.text.proofs.StepLaws.{none_taken, line_taken}
use Rattle.formats.specs.Choices.{format_of}
use Rattle.formats.proofs.ChoiceLaws.{lawful_of}
use Rattle.steps.proofs.ChosenLaws.{counting_of}
use Rattle.claims.proofs.GrantLaws.{clash_row}
use Rattle.checking.proofs.CheckLaws.{going_start, tidy_now, row_14, told_refused, last_few, told_ended, going_pass, told_claim, going_put}
use Rattle.checking.proofs.walk.Goals as goal

pub loop-from-init : goal.loop-from-init
loop-from-init c = rw c.start-state.ensures (going_start _ _ _ _ _ _ c.requires)

pub returns-in-Refuse : goal.returns-in-Refuse
returns-in-Refuse c =
    let g = c.loop-from.invariant in
    let line = line_taken (format_of c.args.format) _ _ _ _ _ _ g.left.inside c.in-Some.ensures in
    rw c.refuse_with.ensures (told_refused (lawful_of c.args.format) (counting_of c.args.format) g line.0 line.1 _ c.in-Refuse.is)

pub ended-requires : goal.ended-requires
ended-requires c =
    let g = c.loop-from.invariant in
    let line = line_taken (format_of c.args.format) _ _ _ _ _ _ g.left.inside c.in-Some.ensures in
    (line.0.high, last_few (lawful_of c.args.format) (counting_of c.args.format) g line.0 line.1 c.in-Finish.is)

pub returns-in-Finish : goal.returns-in-Finish
returns-in-Finish c =
    let g = c.loop-from.invariant in
    let line = line_taken (format_of c.args.format) _ _ _ _ _ _ g.left.inside c.in-Some.ensures in
    rw c.ended.ensures (told_ended (lawful_of c.args.format) (counting_of c.args.format) g line.0 line.1 c.in-Finish.is _ refl)

pub claim-requires : goal.claim-requires
claim-requires c = tidy_now (lawful_of c.args.format) (counting_of c.args.format) c.loop-from.invariant

pub returns-in-Err : goal.returns-in-Err
returns-in-Err c =
    let g = c.loop-from.invariant in
    let line = line_taken (format_of c.args.format) _ _ _ _ _ _ g.left.inside c.in-Some.ensures in
    rw (c.refuse.ensures, c.row.ensures)
    (told_claim (lawful_of c.args.format) (counting_of c.args.format) g line.0 line.1 c.in-Put.is c.in-Err.ensures.answer _ (clash_row c.in-Err.clash))

pub loop-from-smaller-in-Pass : goal.loop-from-smaller-in-Pass
loop-from-smaller-in-Pass c =
    let g = c.loop-from.invariant in
    let line = line_taken (format_of c.args.format) _ _ _ _ _ _ g.left.inside c.in-Some.ensures in
    omega (arith, line.0.low, line.0.some_chars, line.0.high)

pub loop-from-preserved-in-Pass : goal.loop-from-preserved-in-Pass
loop-from-preserved-in-Pass c =
    let g = c.loop-from.invariant in
    let line = line_taken (format_of c.args.format) _ _ _ _ _ _ g.left.inside c.in-Some.ensures in
    going_pass (lawful_of c.args.format) (counting_of c.args.format) g line.0 line.1 c.in-Pass.is

pub loop-from-smaller : goal.loop-from-smaller
loop-from-smaller c =
    let g = c.loop-from.invariant in
    let line = line_taken (format_of c.args.format) _ _ _ _ _ _ g.left.inside c.in-Some.ensures in
    omega (arith, line.0.low, line.0.some_chars, line.0.high)

pub loop-from-preserved : goal.loop-from-preserved
loop-from-preserved c =
    let g = c.loop-from.invariant in
    let line = line_taken (format_of c.args.format) _ _ _ _ _ _ g.left.inside c.in-Some.ensures in
    going_put (lawful_of c.args.format) (counting_of c.args.format) g line.0 line.1 c.in-Put.is c.in_default-claim.ensures.answer _ refl
    c.claim.ensures.marks

pub returns : goal.returns
returns c =
    rw c.refuse-2.ensures
    (row_14 (lawful_of c.args.format) (counting_of c.args.format) c.loop-from.invariant _
    (none_taken (format_of c.args.format) c.loop-from.state c.args.text.now c.loop-from.at (sym c.in_default.is ∙ c.take_next.ensures)))

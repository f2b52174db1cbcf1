-- `step_of` meets its contract: a line that cannot be read is refused, and another has its check compared and is judged.
use Rattle.std.proofs.Common.{◌+◌, ◌-◌, ◌*◌, ◌∙◌, take, drop, length-take, length-drop, ap, arith}
use Rattle.hex_digits.specs.Numbers.{sum}
use Rattle.hex_digits.proofs.DigitLaws.{digits_part}
use Rattle.hex_digits.proofs.DigitTableLaws.{weigh_sum}
use Rattle.tape_read.proofs.LineFieldLaws.{covered_at, check_at, line_got, check_given}
use Rattle.tape_read.proofs.LineReadLaws.{no_row_7}
use Rattle.tape_step.proofs.LineStepLaws.{step_bad, judge_fits, row_7, step_good}
use Rattle.tape_step.proofs.step_of.Goals as goal

pub returns-in-Err : goal.returns-in-Err
returns-in-Err c = let a = c.args in step_bad a.edition a.place a.state a.chars.now c.in-Err.field-0 c.in-Err.ensures

pub overflow_mul-end : goal.overflow_mul-end
overflow_mul-end c = let got = line_got _ _ _ _ c.in-Ok.ensures in omega (arith, got.short, got.long)

pub overflow_add-end : goal.overflow_add-end
overflow_add-end c = let got = line_got _ _ _ _ c.in-Ok.ensures in omega (arith, got.short, got.long)

pub slice_bounds-weigh-end : goal.slice_bounds-weigh-end
slice_bounds-weigh-end c = let got = line_got _ _ _ _ c.in-Ok.ensures in omega (arith, got.long)

pub weigh-sum-requires : goal.weigh-sum-requires
weigh-sum-requires c = let got = line_got _ _ _ _ c.in-Ok.ensures in rw length-take (omega (arith, got.short, length-drop 1 c.args.chars.now))

pub number_of-given-requires : goal.number_of-given-requires
number_of-given-requires c = let got = line_got _ _ _ _ c.in-Ok.ensures in rw length-take (omega (arith, got.long))

pub returns-then-given-check_of : goal.returns-then-given-check_of
returns-then-given-check_of c =
    let a = c.args in
    let chars = a.chars.now in
    let len = c.in-Ok.line.len in
    let got = line_got _ _ _ _ c.in-Ok.ensures in
    let end = 7 + 2 * len - 1 in
    let sum_is = c.weigh-sum.ensures.0 ∙ weigh_sum (take end (drop 1 chars)) (digits_part end 0 (drop 1 chars) got.digits)
    ∙ ap sum (covered_at chars len got.len_is) in
    let given = c.number_of-given.ensures ∙ check_at chars len got.len_is got.long in
    row_7 a.edition a.place a.state chars _ _ got _ _ given (check_given _ _ _ _ _ _ got sum_is c.check_of.ensures) (λ e. omega arith)

pub judge-requires : goal.judge-requires
judge-requires c =
    let a = c.args in
    judge_fits a.edition a.place a.state a.chars.now _ _ (line_got _ _ _ _ c.in-Ok.ensures) c.requires.counts

pub returns : goal.returns
returns c =
    let a = c.args in
    let chars = a.chars.now in
    let len = c.in-Ok.line.len in
    let got = line_got _ _ _ _ c.in-Ok.ensures in
    let end = 7 + 2 * len - 1 in
    let sum_is = c.weigh-sum.ensures.0 ∙ weigh_sum (take end (drop 1 chars)) (digits_part end 0 (drop 1 chars) got.digits)
    ∙ ap sum (covered_at chars len got.len_is) in
    let given = c.number_of-given.ensures ∙ check_at chars len got.len_is got.long in
    c.judge.ensures
    ∙ step_good a.edition a.place a.state chars _ _ got
    (no_row_7 a.edition chars c.number_of-given.result c.check_of.result given (check_given _ _ _ _ _ _ got sum_is c.check_of.ensures) (omega arith))

-- `read_checked` meets its contract: the sum of all bytes tells that all are digits, and what the check covers.
use Rattle.std.proofs.Common.{◌≡◌, ◌-◌, ◌+◌, ◌*◌, ◌≤◌, ◌∙◌, length, drop, subst, arith}
use Rattle.lists.proofs.PartLaws.{rest}
use Rattle.hex_digits.specs.Digits.{first_bad}
use Rattle.hex_digits.specs.Numbers.{sum}
use Rattle.hex_sum.specs.Sums.{Tells}
use Rattle.tape.specs.Reading.{covered}
use Rattle.tape_read.proofs.LineFieldLaws.{bs, length_at_lem, address_at, line_is, check_given, check_is, sum_is}
use Rattle.tape_read.proofs.LineReadLaws.{LineHead, line_good, no_row_7}
use Rattle.tape_read.proofs.read_checked.Goals as goal

pub overflow_sub-sum : goal.overflow_sub-sum
overflow_sub-sum c =
    let chars = c.args.chars.now in
    let len = c.byte_of-len.ensures ∙ length_at_lem chars (omega arith) in
    let tells : Tells c.sum_digits-sum.result (drop 1 chars) = subst (Tells c.sum_digits-sum.result) (rest 1 chars) c.sum_digits-sum.ensures.0 in
    omega (arith, (tells (omega arith)).1, sum_is chars c.byte_of-len.result len (omega arith), c.byte_of-high.ensures, c.byte_of-low.ensures)

pub returns : goal.returns
returns c =
    let chars = c.args.chars.now in
    let head : LineHead chars = record { short = omega arith; three = omega arith; letter = omega arith } in
    let long : length chars ≡ 11 + 2 * c.byte_of-len.result = omega arith in
    let len = c.byte_of-len.ensures ∙ length_at_lem chars (omega arith) in
    let tells : Tells c.sum_digits-sum.result (drop 1 chars) = subst (Tells c.sum_digits-sum.result) (rest 1 chars) c.sum_digits-sum.ensures.0 in
    let told : (length (drop 1 chars) ≤ first_bad (drop 1 chars)) × (c.sum_digits-sum.result ≡ sum (bs chars)) = tells (omega arith) in
    let got = line_good chars head told.0 c.byte_of-len.result len long _ (c.number_of-address.ensures ∙ address_at chars) in
    let rest_sum : c.sum_digits-sum.result - (c.byte_of-high.result + c.byte_of-low.result) ≡ sum (covered (bs chars))
    = omega (arith, told.1, sum_is chars c.byte_of-len.result len long, c.byte_of-high.ensures, c.byte_of-low.ensures) in (
      line_is chars _ _ 0 got,
      no_row_7 c.args.edition chars (256 * c.byte_of-high.result + c.byte_of-low.result) c.check_of.result
          (omega (arith, check_is chars c.byte_of-len.result len long, c.byte_of-high.ensures, c.byte_of-low.ensures))
          (check_given c.args.edition chars _ _ _ _ got rest_sum c.check_of.ensures) (omega arith),
    )

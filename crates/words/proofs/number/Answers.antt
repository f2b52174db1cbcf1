use Rattle.std.proofs.Common.{◌≡◌, arith, ◌∙◌, add-one, length-take, ℕ, take}
use Rattle.hex_digits.proofs.DigitTableLaws.{entry_value}
use Rattle.lists.proofs.PartLaws.{take_least}
use lib.Seq.{take_all}
use Rattle.words.specs.Words.{number_in, digits_after}
use Rattle.words.proofs.NumberLaws.{digits_more, one_more, seven}
use Rattle.words.proofs.number.Goals as goal

pub overflow_mul-a : goal.overflow_mul-a
overflow_mul-a c = record { fits = omega (arith, seven _ _ c.loop-c.invariant.0 (omega (arith, length-take {A = ℕ}))) }

pub overflow_add-a : goal.overflow_add-a
overflow_add-a c = record { fits = omega (arith, seven _ _ c.loop-c.invariant.0 (omega (arith, length-take {A = ℕ}))) }

pub loop-c-preserved : goal.loop-c-preserved
loop-c-preserved c = (one_more _ _ _ c.loop-c.invariant.0 (omega arith), grind (arith, add-one, digits_more, entry_value))

pub returns : goal.returns
unfolding number_in
returns c =
    let a = c.args.digits.now in
    let e : c.loop-c.a ≡ digits_after 0 (take c.loop-c.c-index (take c.min.result a)) = c.loop-c.invariant.1 in
    e ∙ rw (take_all c.loop-c.c-index (take c.min.result a) (omega arith), c.min.ensures, take_least 8 a)

use Rattle.std.proofs.Common.{◌≡◌, ap, arith, ◌∙◌}
use Rattle.lists.specs.Lists.{over}
use Rattle.hex_digits.specs.Digits.{digits_of}
use Rattle.hex_digits.proofs.DigitLaws.{length_pairs}
use Rattle.lists.proofs.OverLaws.{lent_over}
use Rattle.hex_write.proofs.put_block.Goals as goal

pub returns : goal.returns
returns c =
    let a = c.args in
    let part : c.copy_from_slice.new.self ≡ digits_of a.bytes.now = c.copy_from_slice.ensures.after ∙ c.block_of.ensures in
    lent_over _ _ _ _ (rw part (omega (arith, length_pairs a.bytes.now))) ∙ ap (over a.out.now a.at) part

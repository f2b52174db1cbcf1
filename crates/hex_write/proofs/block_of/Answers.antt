use Rattle.std.proofs.Common.{arith, ◌∙◌, replicate, take_all}
use Rattle.hex_digits.specs.Digits.{digits_of}
use Rattle.hex_digits.proofs.DigitLaws.{length_pairs}
use Rattle.lists.proofs.OverLaws.{over_all}
use Rattle.hex_write.proofs.block_of.Goals as goal

pub returns : goal.returns
returns c =
    let bs = c.args.bytes.now in
    rw (take_all 16 bs (omega arith)) at c.put_each.ensures ∙ over_all (replicate 32 0) (digits_of bs) (omega (arith, length_pairs bs))

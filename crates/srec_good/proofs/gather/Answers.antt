-- By the table the weight tells; with the first block at hand its bytes begin with those of the address.
use mathlib.Core.Path.{◌≡◌, ap, ◌∙◌, subst}
use Prim.Native.Nat.{◌%◌}
use native.Mathlib.Nat.{add-sub_cancel_left}
use native.Mathlib.Omega.{arith}
use lib.ListN.{length, drop, length-drop}
use Rattle.lists.proofs.PartLaws.{rest}
use Rattle.hex_digits.specs.Tables.{weighed}
use Rattle.hex_sum.specs.Sums.{Tells}
use Rattle.hex_sum.proofs.SumLaws.{weight_tells}
use Rattle.srec_good.proofs.GatherLaws.{address_first}
use Rattle.srec_good.proofs.gather.Goals as goal

pub returns-then-chars-lt-BLOCK_END : goal.returns-then-chars-lt-BLOCK_END
returns-then-chars-lt-BLOCK_END c =
    let cs = c.args.chars.now in
    let even : length (drop 2 cs) % 2 ≡ 0 = omega (arith, length-drop 2 cs) in
    (rw (c.weigh.ensures.0 ∙ ap weighed (rest 2 cs)) (weight_tells (drop 2 cs) even), λ h. rw add-sub_cancel_left at c.number_of.ensures)

pub returns : goal.returns
returns c =
    let cs = c.args.chars.now in (
      subst (Tells c.sum_around-sum.result) (rest 2 cs) c.sum_around-sum.ensures,
      λ h. c.first_number-address.ensures ∙ address_first cs _ c.args.width (omega arith) c.requires.1 c.block_of-block.ensures,
    )

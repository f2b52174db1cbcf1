use Rattle.lists.proofs.OverLaws.{over_two}
use Rattle.hex_write.proofs.put_pair.Goals as goal

pub returns : goal.returns
returns c =
    let a = c.args in
    rw (c.digit_for.ensures, c.digit_for-2.ensures) (over_two a.out.now a.at _ _ c.requires)

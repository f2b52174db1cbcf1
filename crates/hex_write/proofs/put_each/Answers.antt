use Rattle.std.proofs.Common.{◌≡◌, ◌<◌, get_or, sym, arith}
use Rattle.hex_digits.specs.Tables.{pair_of}
use Rattle.lists.proofs.OverLaws.{over_none}
use Rattle.hex_write.proofs.PutLaws.{pairs_more}
use Rattle.hex_write.proofs.BlockLaws.{pair_digits}
use Rattle.hex_write.proofs.put_each.Goals as goal

pub loop-k-init : goal.loop-k-init
loop-k-init g c = sym (over_none _ _)

pub loop-k-preserved : goal.loop-k-preserved
loop-k-preserved g c =
    let l = c.loop-k in
    let a = c.args in
    let b = get_or a.bytes.now l.k 0 in
    let h : b < 256 = omega (arith, c.type_inv.bytes l.k) in
    let e : c.pair.result ≡ pair_of b = c.requires.digits b c.pair.result h c.pair.ensures in
    rw (c.store_pair.ensures, l.invariant, e, pair_digits b h) (pairs_more a.out.now a.at a.bytes.now l.k c.requires.room (omega arith))

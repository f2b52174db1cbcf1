use Rattle.std.proofs.Common.{arith}
use Rattle.hex_write.proofs.PutLaws.{sum_more}
use Rattle.hex_write.proofs.sum_bytes.Goals as goal

pub loop-byte-preserved : goal.loop-byte-preserved
loop-byte-preserved c =
    let l = c.loop-byte in
    let bs = c.args.bytes.now in
    let e = sum_more bs l.byte-index (omega arith) in
    (omega (arith, e), omega (arith, c.type_inv.bytes l.byte-index))

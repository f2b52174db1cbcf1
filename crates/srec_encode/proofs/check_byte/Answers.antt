-- The sums add up.
use Rattle.srec_encode.proofs.EncodeLaws.{checksum_parts}
use Rattle.srec_encode.proofs.check_byte.Goals as goal

pub returns : goal.returns
returns c =
    let a = c.args in
    rw (c.sum_bytes-2.ensures.0, c.sum_bytes.ensures.0) (checksum_parts a.count a.address.now a.bytes.now)

-- The pieces that it writes are the line.
use Rattle.srec.specs.Writing.{summed}
use Rattle.srec_encode.proofs.EncodeLaws.{line_written}
use Rattle.srec_encode.proofs.put_row_fields.Goals as goal

pub returns : goal.returns
unfolding summed
returns c =
    let a = c.args in
    line_written a.out.now a.kind a.address.now a.row.now c.requires.out_len _ _ _ _ _
    c.put_head.ensures c.put_few.ensures c.put_block.ensures c.check_byte-check.ensures c.put_tail.ensures

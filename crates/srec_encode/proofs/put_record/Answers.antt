-- The part of the address bytes that it hands on has the address in that width.
use Rattle.hex_write.proofs.PutLaws.{address_field}
use Rattle.srec_encode.specs.Records.{line_of}
use Rattle.srec_encode.proofs.put_record.Goals as goal

pub returns : goal.returns
unfolding line_of
returns c =
    let a = c.args in
    rw (address_field a.width a.address c.requires.width_bound.0) at (rw c.bytes_of-all.ensures at c.put_fields.ensures)

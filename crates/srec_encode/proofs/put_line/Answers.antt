-- The part that it lends comes back as the record's line.
use Rattle.std.proofs.Common.{refl, sym, ◌∙◌}
use native.Mathlib.Nat.{add-sub_cancel_left}
use Rattle.lists.proofs.OverLaws.{lent_over}
use Rattle.srec_encode.specs.Records.{line_of}
use Rattle.srec_encode.proofs.EncodeLaws.{length_line}
use Rattle.srec_encode.proofs.put_line.Goals as goal

pub returns-clause-out_after : goal.returns-clause-out_after
returns-clause-out_after c =
    let a = c.args in
    let line = line_of a.kind a.width a.address a.bytes.now in
    rw c.put_record.ensures
    (lent_over a.at _ a.out.now line (add-sub_cancel_left a.at _ ∙ sym (length_line a.kind a.width a.address a.bytes.now)))

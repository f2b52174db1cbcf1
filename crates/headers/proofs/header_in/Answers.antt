-- An S0 that was read has its data bytes for its header.
use mathlib.Core.Path.{refl, sym}
use Prim.Native.Nat.{◌*◌}
use native.Mathlib.Omega.{arith}
use lib.ListN.{length, take}
use lib.Seq.{length-take-le}
use Rattle.window.proofs.HeaderLaws.{zeros}
use Rattle.srec_fields.proofs.FieldLaws.{Got, got}
use Rattle.placing.proofs.DataLaws.{digits_from}
use Rattle.headers.proofs.HeaderLaws.{header_s0}
use Rattle.headers.proofs.header_in.Goals as goal
use Rattle.headers.proofs.header_in.Goals.{In-Ok}

-- what the record says
got-at : (c : In-Ok) → let r = c.in-Ok.record in Got c.args.chars.now r.kind r.address r.count
got-at c = got c.args.chars.now 0 _ _ _ c.in-Ok.ensures

pub slice_bounds-bytes-end : goal.slice_bounds-bytes-end
slice_bounds-bytes-end c = omega (arith, (got-at (goal.at.slice_bounds-bytes-end c).In-Ok).small.1)

pub slice_bounds-store_data-end : goal.slice_bounds-store_data-end
slice_bounds-store_data-end c = sym (length-take-le _ zeros (got-at (goal.at.slice_bounds-store_data-end c).In-Ok).small.1)

pub store_data-requires : goal.store_data-requires
store_data-requires c =
    let r = got-at (goal.at.store_data-requires c).In-Ok in
    record {
      digits_bound = omega (arith, r.fields.long, r.small.2, r.len, length-take-le _ zeros r.small.1);
      chars_len_bound = digits_from c.args.chars.now 2 6 8 (2 * length (take c.in-Ok.record.count zeros)) refl r.fields.digits;
    }

pub returns-in-Ok : goal.returns-in-Ok
returns-in-Ok c =
    header_s0 _ _ _ _ (got-at (goal.at.returns-in-Ok c).In-Ok) c.if-record-eq48.true _ c.store_data.ensures

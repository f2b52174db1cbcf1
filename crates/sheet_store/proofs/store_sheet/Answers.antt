-- `store_sheet` meets its contract: a law for each way out, and for a turn of the loop.
use Rattle.std.proofs.Common.{arith}
use Rattle.sheet_store.proofs.StoreLaws.{storing_start, stored_end, stored_bad, stored_within, stored_free, stored_on}
use Rattle.sheet_store.proofs.store_sheet.Goals as goal

pub loop-pair-init : goal.loop-pair-init
loop-pair-init c = storing_start _ _ _ _

pub slice_bounds-store_bytes-count : goal.slice_bounds-store_bytes-count
slice_bounds-store_bytes-count c =
    (stored_within c.loop-pair.invariant c.requires _ (rw c.in-Ok.is at c.in-Some.ensures)).1

pub slice_bounds-store_bytes-start : goal.slice_bounds-store_bytes-start
slice_bounds-store_bytes-start c =
    omega (arith, stored_within c.loop-pair.invariant c.requires _ (rw c.in-Ok.is at c.in-Some.ensures))

pub slice_bounds-store_bytes-end : goal.slice_bounds-store_bytes-end
slice_bounds-store_bytes-end c =
    omega (arith, stored_within c.loop-pair.invariant c.requires _ (rw c.in-Ok.is at c.in-Some.ensures))

pub store_bytes-requires : goal.store_bytes-requires
store_bytes-requires c =
    stored_free c.loop-pair.invariant c.requires _ (rw c.in-Ok.is at c.in-Some.ensures)

pub loop-pair-smaller : goal.loop-pair-smaller
loop-pair-smaller c =
    omega (arith, stored_within c.loop-pair.invariant c.requires _ (rw c.in-Ok.is at c.in-Some.ensures))

pub loop-pair-preserved : goal.loop-pair-preserved
loop-pair-preserved c =
    stored_on c.loop-pair.invariant c.requires _ (rw c.in-Ok.is at c.in-Some.ensures) _ c.store_bytes.ensures

pub returns-in_default-pair : goal.returns-in_default-pair
returns-in_default-pair c = stored_bad c.loop-pair.invariant c.requires _ (rw c.in_default-pair.is at c.in-Some.ensures)

pub returns : goal.returns
returns c = stored_end c.loop-pair.invariant c.requires c.in_default.ensures

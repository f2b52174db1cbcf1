-- `table_span` meets its contract: a law for each way out, and for a turn of the loop.
use Rattle.std.proofs.Common.{arith}
use Rattle.sheet_survey.proofs.PairLaws.{going_start, going_end, going_bad, where_at, going_store}
use Rattle.sheet_survey.proofs.table_span.Goals as goal

pub loop-pair-init : goal.loop-pair-init
loop-pair-init c = rw c.no_span-span.ensures (going_start _ _)

pub overflow_sub-store : goal.overflow_sub-store
overflow_sub-store c = (where_at c.loop-pair.invariant _ (rw c.in-Ok.is at c.in-Some.ensures)).1

pub widen-span-requires : goal.widen-span-requires
widen-span-requires c = omega (arith, where_at c.loop-pair.invariant _ (rw c.in-Ok.is at c.in-Some.ensures))

pub loop-pair-smaller : goal.loop-pair-smaller
loop-pair-smaller c = omega (arith, where_at c.loop-pair.invariant _ (rw c.in-Ok.is at c.in-Some.ensures))

pub loop-pair-preserved : goal.loop-pair-preserved
loop-pair-preserved c =
    going_store c.loop-pair.invariant _ (rw c.in-Ok.is at c.in-Some.ensures) _ c.widen-span.ensures

pub returns-in_default-pair : goal.returns-in_default-pair
returns-in_default-pair c = going_bad c.loop-pair.invariant _ (rw c.in_default-pair.is at c.in-Some.ensures)

pub returns : goal.returns
returns c = going_end c.loop-pair.invariant c.in_default.ensures

-- `check_sheet` meets its contract: a law for each answer, and for a turn of the loop.
use Rattle.std.proofs.Common.{refl, arith}
use Rattle.claims.specs.Answers.{row_of}
use Rattle.claims.proofs.GrantLaws.{clash_row}
use Rattle.sheet_check.proofs.CheckLaws.{going_start, told_end, told_bad, which_small, where_at, told_claim, going_put}
use Rattle.sheet_check.proofs.check_sheet.Goals as goal

pub loop-pair-init : goal.loop-pair-init
loop-pair-init c = going_start _ _ _ _ c.requires

pub overflow_add-fields : goal.overflow_add-fields
overflow_add-fields c =
    let g = c.loop-pair.invariant in
    omega (arith, g.few.0, which_small g _ (rw c.in-Err.is at c.in-Some.ensures))

pub returns-in-Err : goal.returns-in-Err
returns-in-Err c =
    rw (c.refuse.ensures, c.row.ensures) (told_bad c.loop-pair.invariant _ (rw c.in-Err.is at c.in-Some.ensures))

pub overflow_sub-size : goal.overflow_sub-size
overflow_sub-size c = (where_at c.loop-pair.invariant _ (rw c.in-Ok.is at c.in-Some.ensures)).1

pub returns-in-Err-claimed : goal.returns-in-Err-claimed
returns-in-Err-claimed c =
    let clash = c.in-Err-claimed.clash in
    rw (c.refuse-in-Err-claimed.ensures, c.row-in-Err-claimed.ensures)
    (told_claim c.loop-pair.invariant _ (rw c.in-Ok.is at c.in-Some.ensures) (row_of clash) c.in-Err-claimed.ensures.answer _ (clash_row clash))

pub overflow_add-cells : goal.overflow_add-cells
overflow_add-cells c =
    let g = c.loop-pair.invariant in
    omega (arith, g.few.2, where_at g _ (rw c.in-Ok.is at c.in-Some.ensures))

pub loop-pair-smaller : goal.loop-pair-smaller
loop-pair-smaller c = omega (arith, where_at c.loop-pair.invariant _ (rw c.in-Ok.is at c.in-Some.ensures))

pub loop-pair-preserved : goal.loop-pair-preserved
loop-pair-preserved c =
    let claimed = c.in_default-claimed.ensures in
    going_put c.loop-pair.invariant _ (rw c.in-Ok.is at c.in-Some.ensures) 0 claimed.answer _ refl claimed.marks

pub returns : goal.returns
returns c = told_end c.loop-pair.invariant c.in_default.ensures

-- `load_as` meets its contract: row 1, then a refusal of the check, or what the storing pass leaves.
use Rattle.std.proofs.Common.{sym, ap, ◌∙◌, arith}
use Rattle.window.specs.Plans.Outcome.{refused}
use Rattle.loader.proofs.LoaderLaws.{answered_refused, row_1, cleared_is, marks_few, checked_refused, checked_accepted}
use Rattle.loader.proofs.load_as.Goals as goal

pub returns-then-not-allowed : goal.returns-then-not-allowed
returns-then-not-allowed c =
    let a = c.args in
    answered_refused a.form a.memory.now a.marks.now _ _
    (row_1 a.format a.form a.base a.memory.now a.marks.now a.text.now c.is_allowed-allowed.ensures c.if-not-allowed.true ∙ ap refused (sym c.refuse.ensures))
    _ c.refused_answer.ensures _ c.clear.ensures

pub check-requires : goal.check-requires
check-requires c =
    let a = c.args in
    cleared_is a.format a.form a.base a.memory.now a.marks.now a.text.now c.is_allowed-allowed.ensures c.if-not-allowed.false _ c.clear.ensures

pub count-count-requires : goal.count-count-requires
count-count-requires c =
    let a = c.args in
    let few = marks_few a.format a.form a.base a.memory.now a.marks.now a.text.now c.is_allowed-allowed.ensures c.if-not-allowed.false _
    c.clear.ensures in
    omega (arith, c.check.auto.marks, c.clear.auto.marks)

pub returns-in-Err : goal.returns-in-Err
returns-in-Err c =
    let a = c.args in
    checked_refused a.format a.form a.base a.memory.now a.marks.now a.text.now c.is_allowed-allowed.ensures c.if-not-allowed.false _
    c.clear.ensures c.in-Err.refusal _ _ c.in-Err.ensures.answer c.refused_answer-in-Err.ensures c.check.ensures.marks

pub returns-in-Ok : goal.returns-in-Ok
returns-in-Ok c =
    let a = c.args in
    rw (c.accepted_answer.ensures, c.count-count.ensures)
    (checked_accepted a.format a.form a.base a.memory.now a.marks.now a.text.now c.is_allowed-allowed.ensures c.if-not-allowed.false _
    c.clear.ensures c.in-Ok.field-0 _ _ _ c.in-Ok.ensures.answer c.check.ensures.marks c.store_all.ensures c.header_of-header.ensures)

-- `place_sheet` meets its contract: row 1, a refusal of the check, or what the storing pass leaves.
use mathlib.Core.Path.{sym, ap, ◌∙◌}
use borrow.Author.Tests.{not-true, not-false}
use Rattle.window.specs.Windows.{window_of}
use Rattle.window.specs.declared.Header.{Header}
use Rattle.std.specs.Prelude.{None}
use Rattle.window.specs.Plans.{refusal}
use Rattle.marks.proofs.RowLaws.{row_1_bytes}
use Rattle.sheet_load.proofs.PlaceLaws.{answered_row_1, clean_is, told_window, told_accepts, answered_row, answered_none}
use Rattle.sheet_load.proofs.place_sheet.Goals as goal

pub returns-then-not-is_allowed : goal.returns-then-not-is_allowed
returns-then-not-is_allowed c =
    let a = c.args in
    let row = sym (row_1_bytes (window_of a.base a.memory.now a.marks.now)) ∙ not-false _ (sym c.if-not-is_allowed.ensures) in
    let x = answered_row_1 a.base a.memory.now a.marks.now a.table.now a.sheet.now _ row _ c.decline.ensures.answer _ c.decline.ensures.marks in
    record { answer = x.0; memory = x.1.0; marks = x.1.1 }

pub store_sheet-requires : goal.store_sheet-requires
store_sheet-requires c =
    let a = c.args in
    let fit = sym (row_1_bytes (window_of a.base a.memory.now a.marks.now)) ∙ not-true _ (sym c.if-not-is_allowed.ensures) in
    told_accepts _ _ _ (told_window a.base a.memory.now a.marks.now a.table.now a.sheet.now fit _ c.clear.ensures _ _ c.in-Ok.ensures)

pub returns-in-Err : goal.returns-in-Err
returns-in-Err c =
    let a = c.args in
    let fit = sym (row_1_bytes (window_of a.base a.memory.now a.marks.now)) ∙ not-true _ (sym c.if-not-is_allowed.ensures) in
    let told = told_window a.base a.memory.now a.marks.now a.table.now a.sheet.now fit _ c.clear.ensures _ _ c.in-Err.ensures in
    let x = answered_row a.base a.memory.now a.marks.now a.table.now a.sheet.now fit _ c.clear.ensures _ c.check_sheet.auto.marks _ told _ c.decline-in-Err.ensures.answer _ c.decline-in-Err.ensures.marks in
    record { answer = x.0; memory = x.1.0; marks = x.1.1 }

pub returns-in-Ok : goal.returns-in-Ok
returns-in-Ok c =
    let a = c.args in
    let fit = sym (row_1_bytes (window_of a.base a.memory.now a.marks.now)) ∙ not-true _ (sym c.if-not-is_allowed.ensures) in
    let told = told_window a.base a.memory.now a.marks.now a.table.now a.sheet.now fit _ c.clear.ensures _ _ c.in-Ok.ensures in
    let answer = c.accepted_answer.ensures
    ∙ ap (λ (y : Header). record { refusal = refusal 0 0 0; header = y; entry = None; records = c.in-Ok.found.records; cells = c.in-Ok.found.cells }) c.no_header-header.ensures in
    let x = answered_none a.base a.memory.now a.marks.now a.table.now a.sheet.now fit _ c.clear.ensures _ c.check_sheet.auto.marks _ told _ answer _ c.store_sheet.ensures in
    record { answer = x.0; memory = x.1.0; marks = x.1.1 }

-- `check_chips` checks one chip's marks behind the other.
use Rattle.std.proofs.Common.{◌≡◌, Err, sym, ap, ◌∙◌, rules}
use Rattle.chips.specs.Promises.{told}
use Rattle.chips.proofs.AnswerLaws.{marks_told}
use Rattle.collect.proofs.AnswerLaws.{behind, decided}
use Rattle.collect.proofs.check_chips.Goals as goal

pub returns-in_err-check_marks : goal.returns-in_err-check_marks
returns-in_err-check_marks c =
    let e : c.from_residual.result ≡ Err c.in_err-check_marks.field-0.0 = search rules in
    λ next. decided c.args.marks0.now c.check_marks.result _ c.check_marks.ensures c.in_err-check_marks.was _ next ∙ ap (told next) (sym e)

pub returns-in_err-check_marks-2 : goal.returns-in_err-check_marks-2
returns-in_err-check_marks-2 c =
    let e : c.from_residual-in_err-check_marks-2.result ≡ Err c.in_err-check_marks-2.field-0.0 = search rules in
    λ next. behind c.args.marks0.now c.check_marks.result _ c.check_marks.ensures c.in_ok-check_marks.was _
    ∙ decided c.args.marks1.now c.check_marks-2.result _ c.check_marks-2.ensures c.in_err-check_marks-2.was _ next ∙ ap (told next) (sym e)

pub returns-in_err-check_marks-3 : goal.returns-in_err-check_marks-3
returns-in_err-check_marks-3 c =
    let e : c.from_residual-in_err-check_marks-3.result ≡ Err c.in_err-check_marks-3.field-0.0 = search rules in
    λ next. behind c.args.marks0.now c.check_marks.result _ c.check_marks.ensures c.in_ok-check_marks.was _
    ∙ behind c.args.marks1.now c.check_marks-2.result _ c.check_marks-2.ensures c.in_ok-check_marks-2.was _
    ∙ decided c.args.marks2.now c.check_marks-3.result _ c.check_marks-3.ensures c.in_err-check_marks-3.was _ next ∙ ap (told next) (sym e)

pub returns : goal.returns
returns c =
    λ next. behind c.args.marks0.now c.check_marks.result _ c.check_marks.ensures c.in_ok-check_marks.was _
    ∙ behind c.args.marks1.now c.check_marks-2.result _ c.check_marks-2.ensures c.in_ok-check_marks-2.was _
    ∙ behind c.args.marks2.now c.check_marks-3.result _ c.check_marks-3.ensures c.in_ok-check_marks-3.was _
    ∙ marks_told c.args.marks3.now next ∙ ap (told next) (sym c.check_marks-4.ensures)

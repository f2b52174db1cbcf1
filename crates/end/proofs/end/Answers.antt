-- The state behind the end, and its answer, with the cells that the marks give.
use Rattle.std.proofs.Common.{◌≡◌, length, sym, ap, ◌∙◌, arith}
use Rattle.window.specs.declared.Loaded.{Loaded}
use Rattle.window.specs.Windows.{window_of}
use Rattle.marks.proofs.FormLaws.{mark_bytes_few}
use Rattle.marks.proofs.RowLaws.{allowed_in}
use Rattle.parts.specs.Parts.{answered}
use Rattle.parts.specs.Forms.{answered_in}
use Rattle.finish.proofs.EndLaws.{ended_fits, recounts, no_count}
use Rattle.end.proofs.end.Goals as goal

pub count-requires : goal.count-requires
count-requires c =
    let a = c.args in
    let form = a.session.form in
    let said = c.answer-loaded.ensures ∙ ap answered c.finish-last.ensures.status in
    let fits = allowed_in form (window_of a.base a.memory.now a.marks.now)
    (ended_fits a.session a.base a.memory.now a.marks.now (sym (ap (λ (l : Loaded). l.refusal.reason) said) ∙ c.if-refusal-eq0.true)) in
    omega (arith, c.finish-last.auto.marks, fits.0, fits.1, mark_bytes_few form (length a.memory.now))

pub returns-then-refusal-eq0-clause-answer : goal.returns-then-refusal-eq0-clause-answer
returns-then-refusal-eq0-clause-answer c =
    let f = c.finish-last in
    let form = c.args.session.form in
    rw c.count.ensures (recounts form f.result f.new.marks c.answer-loaded.result c.answer-loaded.ensures c.if-refusal-eq0.true)
    ∙ (λ i. answered_in form (f.ensures.status i) (f.ensures.marks i))

pub returns-else-refusal-eq0-clause-answer : goal.returns-else-refusal-eq0-clause-answer
returns-else-refusal-eq0-clause-answer c =
    let f = c.finish-last in
    let form = c.args.session.form in
    no_count form f.result f.new.marks c.answer-loaded.result c.answer-loaded.ensures c.if-refusal-eq0.false
    ∙ (λ i. answered_in form (f.ensures.status i) (f.ensures.marks i))

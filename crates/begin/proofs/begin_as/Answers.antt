-- Row 1, or a load that has begun.
use Rattle.std.proofs.Common.{refl, sym, ap, ◌∙◌}
use Rattle.window.specs.Windows.{window_of}
use Rattle.parts.specs.Parts.{Stage}
use Rattle.parts.specs.Parts.Status.{halted}
use Rattle.session.proofs.SessionLaws.{begin_refused, begin_allowed}
use Rattle.begin.proofs.begin_as.Goals as goal

pub returns-then-not-is_allowed : goal.returns-then-not-is_allowed
returns-then-not-is_allowed c =
    let a = c.args in
    let w = begin_refused a.form (window_of a.base a.memory.now a.marks.now) _ c.is_allowed.ensures c.if-not-is_allowed.true in
    record {
      status = c.halt.ensures.status ∙ ap halted c.refuse-then-not-is_allowed.ensures ∙ sym (ap (λ (x : Stage). x.status) w);
      marks = c.halt.ensures.marks ∙ sym (ap (λ (x : Stage). x.marks) w);
      form = c.halt.ensures.form;
    }

pub returns : goal.returns
returns c =
    let a = c.args in
    let w = begin_allowed a.form (window_of a.base a.memory.now a.marks.now) _ c.is_allowed.ensures c.if-not-is_allowed.false in
    record {
      status = rw (c.refuse.ensures, c.going_on-tally.ensures, c.start-state.ensures) (sym (ap (λ (x : Stage). x.status) w));
      marks = c.clear.ensures ∙ sym (ap (λ (x : Stage). x.marks) w);
      form = refl;
    }

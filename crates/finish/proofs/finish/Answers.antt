-- Row 1, the record that is not complete, and row 14.
use Rattle.std.proofs.Common.{◌≡◌, ℕ, List, length, replicate, refl, sym, ap, ◌∙◌, subst, arith, rules}
use borrow.Author.Tests.{not-true, not-false}
use Rattle.window.specs.declared.Refusal.{Refusal}
use Rattle.window.specs.Windows.{Window, window_of}
use Rattle.marks.specs.declared.Form.{Form}
use Rattle.marks.specs.Forms.{flags, Tidy}
use Rattle.marks.proofs.FormLaws.{tidy_length, flags_tidied, tidied}
use Rattle.parts.specs.Forms.{in_form, end_as}
use Rattle.parts.specs.Parts.Status.{going, halted}
use Rattle.session.specs.Sessions.{going_of, status_of}
use Rattle.session.proofs.FormLaws.{Allows, allows}
use Rattle.session.proofs.SessionLaws.{shows_going, clear_marks}
use Rattle.take_part.proofs.ReadLaws.{shows}
use Rattle.take_part.proofs.AllowedLaws.{Allowed, few_now}
use Rattle.finish.proofs.EndLaws.{end_barred, end_read, ended, last_halts, last_reason, last_open, last_ended}
use Rattle.finish.proofs.finish.Goals.{Else-is_barred, After-new-table}
use Rattle.finish.proofs.finish.Goals as goal

-- row 1 does not apply
known : (c : Else-is_barred) → let a = c.args in Allows a.session.form (window_of a.base a.memory.now a.marks.now) (going_of a.session)
known c = allows _ _ _ (sym c.is_barred.ensures ∙ c.if-is_barred.false)

-- and spare bits were cleared
module _ (c : After-new-table) where
  abbrev form : Form
  form = c.args.session.form

  abbrev cells : ℕ
  cells = length c.args.memory.now

  abbrev lent : Window
  lent = window_of c.args.base c.args.memory.now c.args.marks.now

  allowed : Allows form lent (going_of c.args.session)
  allowed = allows form lent (going_of c.args.session) (sym c.is_barred.ensures ∙ c.if-is_barred.false)

  -- what the laws are told of the call
  abbrev closing : Allowed
  closing =
      record {
        session = c.args.session;
        base = c.args.base;
        memory = c.args.memory.now;
        marks = flags form cells c.args.marks.now;
        allowed = allowed.later;
      }

  -- the marks without spare bits are tidy, and say the same of each cell
  tidy_now : Tidy form cells c.tidy.new.marks
  tidy_now = subst (Tidy form cells) (sym c.tidy.ensures) (tidied form cells c.args.marks.now allowed.long)

  same_flags : flags form cells c.tidy.new.marks ≡ flags form cells c.args.marks.now
  same_flags = ap (flags form cells) c.tidy.ensures ∙ flags_tidied form cells c.args.marks.now

  -- the end of the flags, stored
  read : end_as form (status_of c.args.session) lent ≡ in_form form (ended closing c.if-refusal-ne0.false)
  read = end_read c.args.session c.args.base c.args.memory.now c.args.marks.now c.if-refusal-ne0.false allowed.own

pub returns-then-is_barred : goal.returns-then-is_barred
returns-then-is_barred c =
    let a = c.args in
    let barred = end_barred a.session a.base a.memory.now a.marks.now c.if-refusal-ne0.false (sym c.is_barred.ensures ∙ c.if-is_barred.true) in
    let shown = shows barred (c.halt.ensures.status ∙ ap halted c.refuse.ensures) refl c.halt.ensures.marks in
    record { status = shown.0; memory = shown.1.0; marks = shown.1.1; form = c.halt.ensures.form }

pub tidy-requires : goal.tidy-requires
tidy-requires c = (known (goal.at.tidy-requires c).Else-is_barred).long

pub close_line-turn-requires : goal.close_line-turn-requires
close_line-turn-requires c =
    let k = (goal.at.close_line-turn-requires c).After-new-table in
    (search rules, tidy_now k, search rules, few_now (closing k), refl)

pub halt-requires-in-Err : goal.halt-requires-in-Err
halt-requires-in-Err c =
    let k = (goal.at.halt-requires-in-Err c).After-new-table in
    last_reason (closing k) c.if-refusal-ne0.false _ (rw (same_flags k) at c.in-Err.ensures.took).0

pub returns-in-Err : goal.returns-in-Err
returns-in-Err c =
    let k = (goal.at.returns-in-Err c).After-new-table in
    let took = rw (same_flags k) at c.in-Err.ensures.took in
    let marks_kept : length c.close_line-turn.new.marks ≡ length c.args.marks.now = c.close_line-turn.auto.marks ∙ c.tidy.auto.marks in
    let cleared = c.halt-in-Err.ensures.marks ∙ ap (λ (n : ℕ). replicate n 0) marks_kept
    ∙ sym (clear_marks (form k) (cells k) c.args.marks.now (allowed k).long) in
    let shown = shows (read k ∙ ap (in_form (form k)) (last_halts (closing k) c.if-refusal-ne0.false _ took.0)) c.halt-in-Err.ensures.status took.1 cleared in
    record { status = shown.0; memory = shown.1.0; marks = shown.1.1; form = c.halt-in-Err.ensures.form }

pub returns-then-not-last : goal.returns-then-not-last
returns-then-not-last c =
    let k = (goal.at.returns-then-not-last c).After-new-table in
    let took = rw (same_flags k) at c.in-Ok.ensures.took in
    let marks = c.close_line-turn.new.marks in
    let halt = c.halt-then-not-last.ensures in
    let ends_open = last_open (closing k) c.if-refusal-ne0.false c.in-Ok.last _ _ _ took (not-true c.in-Ok.last.ended c.if-not-last.true) in
    let cleared = halt.marks ∙ sym (clear_marks (form k) (cells k) marks (tidy_length (form k) (cells k) marks c.in-Ok.ensures.tidy_turn)) in
    let shown = shows (read k ∙ ap (in_form (form k)) ends_open) (halt.status ∙ ap halted c.refuse-then-not-last.ensures) refl cleared in
    record { status = shown.0; memory = shown.1.0; marks = shown.1.1; form = halt.form }

pub returns-else-not-last : goal.returns-else-not-last
returns-else-not-last c =
    let k = (goal.at.returns-else-not-last c).After-new-table in
    let took = rw (same_flags k) at c.in-Ok.ensures.took in
    let next = c.next_record.ensures in
    let accepted = last_ended (closing k) c.if-refusal-ne0.false c.in-Ok.last _ _ _ took (not-false c.in-Ok.last.ended c.if-not-last.false) in
    let goes = ap (λ (f : Refusal). f.reason) next.0 ∙ c.if-refusal-ne0.false in
    let shown = shows (read k ∙ ap (in_form (form k)) accepted) (shows_going c.next_record.result goes ∙ ap going next.1) refl c.in-Ok.ensures.tidy_turn.1 in
    record { status = shown.0; memory = shown.1.0; marks = shown.1.1; form = next.2 }

-- Each way out is a law of RecordLaws.
use mathlib.Core.Path.{refl, sym, ap, ◌∙◌, subst}
use lib.ListN.{length}
use Rattle.marks.specs.Forms.{flags, Tidy}
use Rattle.claims.specs.Answers.{row_or0}
use Rattle.claims.proofs.GrantLaws.{clash_row, claimed_flags, claimed_tidy}
use Rattle.intake.proofs.RecordLaws.{Call, took_refused, took_finish, took_pass, took_denied, has_room, took_stored}
use Rattle.intake.proofs.take_step.Goals.{Else-tally}
use Rattle.intake.proofs.take_step.Goals as goal

-- what the laws are told of the call
abbrev call : Else-tally → Call
call c =
    let a = c.args in
    record {
      base = a.base;
      place = a.place;
      chars = a.chars.now;
      tally = a.tally;
      header = a.header.now;
      memory = a.memory.now;
      marks = flags a.form (length a.memory.now) a.marks.now;
      step = a.step;
      step_is = c.requires.step_value;
    }

pub returns-in-Refuse-clause-took : goal.returns-in-Refuse-clause-took
returns-in-Refuse-clause-took c =
    let j = (goal.at.returns-in-Refuse-clause-took c).Else-tally in
    rw c.refuse_with.ensures (took_refused (call j) c.if-tally.false _ _ _ c.in-Refuse.is, refl)

pub returns-in-Finish-clause-took : goal.returns-in-Finish-clause-took
returns-in-Finish-clause-took c =
    let j = (goal.at.returns-in-Finish-clause-took c).Else-tally in
    took_finish (call j) c.if-tally.false _ _ c.in-Finish.is

pub returns-in-Pass-clause-took : goal.returns-in-Pass-clause-took
returns-in-Pass-clause-took c =
    let j = (goal.at.returns-in-Pass-clause-took c).Else-tally in
    rw c.going_on.ensures (took_pass (call j) c.if-tally.false _ c.in-Pass.is c.keep_header-kept.result c.keep_header-kept.new.header c.keep_header-kept.ensures)

pub returns-in-Err-clause-took : goal.returns-in-Err-clause-took
returns-in-Err-clause-took c =
    let j = (goal.at.returns-in-Err-clause-took c).Else-tally in
    rw (c.refuse-in-Err.ensures, c.row.ensures)
    (took_denied (call j) c.if-tally.false _ _ _ c.in-Put.is _ (sym (ap row_or0 c.in-Err.is) ∙ c.claim-claimed.ensures.answer) (clash_row c.in-Err.clash), refl)

pub place_record-requires : goal.place_record-requires
place_record-requires c =
    let j = (goal.at.place_record-requires c).Else-tally in
    has_room (call j) c.if-tally.false _ _ _ c.in-Put.is _ c.claim-claimed.ensures.answer (sym c.requires.digits_bound.0.0) (ap row_or0 c.in_default.is)

pub returns-in_default-clause-took : goal.returns-in_default-clause-took
returns-in_default-clause-took c =
    let j = (goal.at.returns-in_default-clause-took c).Else-tally in
    let a = c.args in
    let n = length a.memory.now in
    let marks_are = ap (flags a.form n) c.claim-claimed.ensures.marks
    ∙ claimed_flags n a.marks.now a.base c.in-Put.address c.in-Put.count a.form c.requires.digits_bound.0 in
    rw c.going_on-in-Put.ensures
    (took_stored (call j) c.if-tally.false _ _ _ c.in-Put.is _ c.claim-claimed.ensures.answer (ap row_or0 c.in_default.is) _ _ c.place_record.ensures marks_are)

pub returns-in_default-clause-tidy_turn : goal.returns-in_default-clause-tidy_turn
returns-in_default-clause-tidy_turn c =
    let a = c.args in
    let n = length a.memory.now in
    subst (Tidy a.form n) (sym c.claim-claimed.ensures.marks)
    (claimed_tidy n a.marks.now a.base c.in-Put.address c.in-Put.count a.form c.requires.digits_bound.0)

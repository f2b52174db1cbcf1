-- The line that was cut, those behind it, and what stands behind them.
use Rattle.std.proofs.Common.{◌≡◌, ℕ, ◌+◌, length, drop, replicate, sym, ap, ◌∙◌, subst, arith, rules}
use Rattle.marks.specs.Forms.{flags, mark_bytes, Tidy}
use Rattle.marks.proofs.FormLaws.{tidy_length}
use Rattle.parts.specs.Parts.{stage, fed}
use Rattle.parts.specs.Parts.Status.{going}
use Rattle.parts.specs.Stretches.{fresh}
use Rattle.parts.specs.Forms.{in_form}
use Rattle.tally.specs.Tallies.{known_of}
use Rattle.session.proofs.SessionLaws.{clear_marks}
use Rattle.part_lines.specs.Rests.{behind, TidyRest}
use Rattle.take_part.proofs.AllowedLaws.{few_now}
use Rattle.take_part.proofs.ReadLaws.{shows, Reading, total_few, chars_free, first_halts, first_reason, next_few, first_goes, settled}
use Rattle.take_part.proofs.take_cut.Goals.{After-new-table}
use Rattle.take_part.proofs.take_cut.Goals as goal

-- what the laws are told of the call
abbrev reading : After-new-table → Reading
reading c =
    let a = c.args in
    record {
      call = record {
        session = a.session;
        base = a.base;
        memory = a.memory.now;
        marks = flags a.session.form (length a.memory.now) a.marks.now;
        allowed = c.requires.session_value.0;
      };
      part = a.part.now;
      fits = c.requires.session_value.1;
    }

pub close_line-turn-requires : goal.close_line-turn-requires
close_line-turn-requires c =
    let p = reading (goal.at.close_line-turn-requires c).After-new-table in
    let cut = c.requires.reason_value in
    (search rules, c.requires.session_value.2, search rules, few_now p.call, chars_free p _ cut.1 cut.2)

pub halt-requires : goal.halt-requires
halt-requires c =
    let p = reading (goal.at.halt-requires c).After-new-table in
    let cut = c.requires.reason_value in
    first_reason p _ cut.1 cut.2 _ c.in-Err.ensures.took.0

pub returns-in-Err : goal.returns-in-Err
returns-in-Err c =
    let p = reading (goal.at.returns-in-Err c).After-new-table in
    let cut = c.requires.reason_value in
    let took = c.in-Err.ensures.took in
    let form = c.args.session.form in
    let n = length c.args.memory.now in
    let marks = c.args.marks.now in
    let cleared = c.halt.ensures.marks ∙ ap (λ (k : ℕ). replicate k 0) c.close_line-turn.auto.marks
    ∙ sym (clear_marks form n marks (tidy_length form n marks c.requires.session_value.2)) in
    let shown = shows (ap (in_form form) (first_halts p _ cut.1 cut.2 _ took.0)) c.halt.ensures.status took.1 cleared in
    record { status = shown.0; memory = shown.1.0; marks = shown.1.1; form = c.halt.ensures.form }

pub take_lines-rest-requires : goal.take_lines-rest-requires
take_lines-rest-requires c =
    let p = reading (goal.at.take_lines-rest-requires c).After-new-table in
    let cut = c.requires.reason_value in
    let line = c.close_line-turn in
    let header_long : length c.args.session.header ≡ 252 = search rules in (
      omega (arith, cut.2),
      subst (λ (n : ℕ). Tidy c.args.session.form n line.new.marks) (sym line.auto.memory) c.in-Ok.ensures.tidy_turn,
      line.auto.header ∙ header_long,
      next_few p c.args.first cut.1 cut.2 c.in-Ok.next _ _ _ c.in-Ok.ensures.took,
    )

pub settle-requires : goal.settle-requires
settle-requires c =
    let p = reading (goal.at.settle-requires c).After-new-table in
    (c.requires.reason_value.0, omega (arith, total_few p), c.take_lines-rest.ensures.1)

pub returns-in-Ok : goal.returns-in-Ok
returns-in-Ok c =
    let p = reading (goal.at.returns-in-Ok c).After-new-table in
    let cut = c.requires.reason_value in
    let line = c.close_line-turn in
    let lines = c.take_lines-rest in
    let a = c.args in
    let s = a.session in
    let form = s.form in
    let n = length a.memory.now in
    let m = line.new.memory in
    let header = lines.new.header in
    let memory = lines.new.memory in
    let marks = lines.new.marks in
    let known = known_of c.in-Ok.next line.new.header in
    let long : length marks ≡ mark_bytes form n = lines.auto.marks ∙ tidy_length form n line.new.marks c.in-Ok.ensures.tidy_turn in
    -- by the cells of the window that was lent
    let left = subst (λ (k : ℕ). fed a.base (stage (going (fresh (length m) (s.total + (a.first + 1)) known)) m
    (flags form k line.new.marks)) (drop (a.first + 1) a.part.now) ≡ behind (length m) s.total header a.part.now lines.result memory (flags form k marks))
    line.auto.memory lines.ensures.0 in
    let all = first_goes p a.first cut.1 cut.2 c.in-Ok.next _ _ _ c.in-Ok.ensures.took lines.result header memory (flags form n marks) left in
    let tidy = subst (λ (k : ℕ). TidyRest form k lines.result marks) line.auto.memory lines.ensures.2 in
    let shown = settled form n _ s.size s.total header a.part.now lines.result memory marks all long tidy _ _ c.settle.ensures.status c.settle.ensures.marks in
    record { status = shown.0; memory = shown.1.0; marks = shown.1.1; form = c.settle.ensures.form }

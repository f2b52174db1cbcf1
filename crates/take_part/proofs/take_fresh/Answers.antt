-- The lines of the part, and what stands behind them.
use Rattle.std.proofs.Common.{◌≡◌, ◌∙◌, length, arith, rules}
use Rattle.marks.specs.Forms.{flags, mark_bytes}
use Rattle.marks.proofs.FormLaws.{tidy_length}
use Rattle.take_part.proofs.ReadLaws.{Reading, total_few, few_all, all_goes, settled}
use Rattle.take_part.proofs.take_fresh.Goals.{After-new-table}
use Rattle.take_part.proofs.take_fresh.Goals as goal

-- what the laws are told of the call
abbrev reading : After-new-table → Reading
reading c =
    let a = c.args in
    record {
      call = record {
        session = a.session;
        base = a.base;
        memory = a.memory.now;
        marks = flags a.session.form (length a.memory.now) a.marks.now;
        allowed = c.requires.session_value.0;
      };
      part = a.part.now;
      fits = c.requires.session_value.1;
    }

pub take_lines-rest-requires : goal.take_lines-rest-requires
take_lines-rest-requires c =
    let p = reading (goal.at.take_lines-rest-requires c).After-new-table in
    (omega arith, c.requires.session_value.2, search rules, few_all p c.requires.reason_value.1)

pub settle-requires : goal.settle-requires
settle-requires c =
    let p = reading (goal.at.settle-requires c).After-new-table in
    (c.requires.reason_value.0, omega (arith, total_few p), c.take_lines-rest.ensures.1)

pub returns : goal.returns
returns c =
    let p = reading (goal.at.returns c).After-new-table in
    let lines = c.take_lines-rest in
    let s = c.args.session in
    let form = s.form in
    let n = length c.args.memory.now in
    let marks = lines.new.marks in
    let long : length marks ≡ mark_bytes form n = lines.auto.marks ∙ tidy_length form n c.args.marks.now c.requires.session_value.2 in
    let all = all_goes p c.requires.reason_value.1 lines.result lines.new.header lines.new.memory (flags form n marks) lines.ensures.0 in
    let shown = settled form n _ s.size s.total lines.new.header c.args.part.now lines.result lines.new.memory marks all long lines.ensures.2
    _ _ c.settle.ensures.status c.settle.ensures.marks in
    record { status = shown.0; memory = shown.1.0; marks = shown.1.1; form = c.settle.ensures.form }

-- Rows 1 and 20, and the part.
use Rattle.std.proofs.Common.{◌≡◌, ℕ, List, length, true, false, refl, sym, ap, ◌∙◌, subst, arith}
use Rattle.window.specs.declared.Refusal.{Refusal}
use Rattle.window.specs.Windows.{Window, window_of}
use Rattle.marks.specs.declared.Form.{Form}
use Rattle.marks.specs.Forms.{flags, Tidy}
use Rattle.marks.proofs.FormLaws.{flags_tidied, tidied}
use Rattle.parts.specs.Parts.{Going, stage, fed, row1_later, row20}
use Rattle.parts.specs.Parts.Status.{going, halted}
use Rattle.parts.specs.Forms.{in_form, feed_as}
use Rattle.session.specs.Sessions.{going_of, status_of}
use Rattle.session.proofs.FormLaws.{Allows, allows}
use Rattle.part_lines.proofs.FreeLaws.{all_free}
use Rattle.take_part.specs.Reads.{read_in}
use Rattle.take_part.proofs.ReadLaws.{shows, Reading, total_few, read_kept}
use Rattle.feed.proofs.CallLaws.{feed_barred, few_so_far, past, not_past, feed_past, feed_read}
use Rattle.feed.proofs.feed.Goals.{Else-is_barred, After-count_chars-first}
use Rattle.feed.proofs.feed.Goals as goal

-- row 1 does not apply
known : (c : Else-is_barred) → let a = c.args in Allows a.session.form (window_of a.base a.memory.now a.marks.now) (going_of a.session)
known c = allows _ _ _ (sym c.is_barred.ensures ∙ c.if-is_barred.false)

-- nor does row 20, and spare bits were cleared
module _ (c : After-count_chars-first) where
  abbrev form : Form
  form = c.args.session.form

  abbrev cells : ℕ
  cells = length c.args.memory.now

  abbrev g : Going
  g = going_of c.args.session

  abbrev lent : Window
  lent = window_of c.args.base c.args.memory.now c.args.marks.now

  allowed : Allows form lent g
  allowed = allows form lent g (sym c.is_barred.ensures ∙ c.if-is_barred.false)

  short : row20 g c.args.part.now ≡ false
  short =
      not_past c.args.session c.args.base c.args.memory.now c.args.marks.now c.args.part.now c.if-refusal-ne0.false
      (sym c.is_barred.ensures ∙ c.if-is_barred.false) (omega (arith, c.if-part-total.false))

  -- what the laws are told of a part that is read
  abbrev reading : Reading
  reading =
      let a = c.args in
      record {
        call = record {
          session = a.session;
          base = a.base;
          memory = a.memory.now;
          marks = flags form cells a.marks.now;
          allowed = allowed.later;
        };
        part = a.part.now;
        fits = short;
      }

  -- the marks without spare bits are tidy, and say the same of each cell
  tidy_now : Tidy form cells c.tidy.new.marks
  tidy_now = subst (Tidy form cells) (sym c.tidy.ensures) (tidied form cells c.args.marks.now allowed.long)

  same_flags : flags form cells c.tidy.new.marks ≡ flags form cells c.args.marks.now
  same_flags = ap (flags form cells) c.tidy.ensures ∙ flags_tidied form cells c.args.marks.now

  still_allowed : row1_later (window_of c.args.base c.args.memory.now (flags form cells c.tidy.new.marks)) g ≡ false
  still_allowed =
      subst (λ (fs : List ℕ). row1_later (window_of c.args.base c.args.memory.now fs) g ≡ false) (sym same_flags) allowed.later

  -- the part is read
  read : feed_as form (status_of c.args.session) lent c.args.part.now
      ≡ in_form form (fed c.args.base (stage (going g) c.args.memory.now (flags form cells c.args.marks.now)) c.args.part.now)
  read =
      feed_read c.args.session c.args.base c.args.memory.now c.args.marks.now c.args.part.now c.if-refusal-ne0.false
      (sym c.is_barred.ensures ∙ c.if-is_barred.false) short

  -- and so without spare bits
  read_tidy : feed_as form (status_of c.args.session) lent c.args.part.now ≡ read_in c.args.session c.args.base c.args.memory.now c.tidy.new.marks c.args.part.now
  read_tidy =
      read ∙ ap (λ (fs : List ℕ). in_form form (fed c.args.base (stage (going g) c.args.memory.now fs) c.args.part.now)) (sym same_flags)

pub returns-then-is_barred : goal.returns-then-is_barred
returns-then-is_barred c =
    let a = c.args in
    let barred = feed_barred a.session a.base a.memory.now a.marks.now a.part.now c.if-refusal-ne0.false (sym c.is_barred.ensures ∙ c.if-is_barred.true) in
    let shown = shows barred (c.halt.ensures.status ∙ ap halted c.refuse.ensures) refl c.halt.ensures.marks in
    record { status = shown.0; memory = shown.1.0; marks = shown.1.1; form = c.halt.ensures.form }

pub overflow_sub-total : goal.overflow_sub-total
overflow_sub-total c =
    let a = c.args in
    few_so_far a.session a.base a.memory.now a.marks.now a.part.now c.if-refusal-ne0.false (sym c.is_barred.ensures ∙ c.if-is_barred.false)

pub returns-then-part-total : goal.returns-then-part-total
returns-then-part-total c =
    let a = c.args in
    let z = c.if-refusal-ne0.false in
    let row1 = sym c.is_barred.ensures ∙ c.if-is_barred.false in
    let long = past a.session a.base a.memory.now a.marks.now a.part.now z row1 (omega (arith, c.if-part-total.true)) in
    let shown = shows (feed_past a.session a.base a.memory.now a.marks.now a.part.now z row1 long)
    (c.halt-then-part-total.ensures.status ∙ ap halted c.refuse-then-part-total.ensures) refl c.halt-then-part-total.ensures.marks in
    record { status = shown.0; memory = shown.1.0; marks = shown.1.1; form = c.halt-then-part-total.ensures.form }

pub tidy-requires : goal.tidy-requires
tidy-requires c = (known (goal.at.tidy-requires c).Else-is_barred).long

pub keep-requires : goal.keep-requires
keep-requires c =
    let k = (goal.at.keep-requires c).After-count_chars-first in
    (omega (arith, total_few (reading k)), all_free _ (sym c.count_chars-first.ensures.0 ∙ c.if-first-part.true))

pub returns-then-first-part : goal.returns-then-first-part
returns-then-first-part c =
    let k = (goal.at.returns-then-first-part c).After-count_chars-first in
    let goes = ap (λ (f : Refusal). f.reason) c.keep.ensures.0 ∙ c.if-refusal-ne0.false in
    let kept = read_kept (reading k) (sym c.count_chars-first.ensures.0 ∙ c.if-first-part.true) c.keep.result goes c.keep.ensures.1 in
    let shown = shows (read k ∙ ap (in_form (form k)) kept) refl refl c.tidy.ensures in
    record { status = shown.0; memory = shown.1.0; marks = shown.1.1; form = c.keep.ensures.2 }

pub take_fresh-requires-clause-session_value : goal.take_fresh-requires-clause-session_value
take_fresh-requires-clause-session_value c =
    let k = (goal.at.take_fresh-requires-clause-session_value c).After-count_chars-first in
    (still_allowed k, short k, tidy_now k)

pub returns-then-session-total : goal.returns-then-session-total
returns-then-session-total c =
    let k = (goal.at.returns-then-session-total c).After-count_chars-first in
    let e = c.take_fresh.ensures in
    let shown = shows (read_tidy k) e.status e.memory e.marks in
    record { status = shown.0; memory = shown.1.0; marks = shown.1.1; form = e.form }

pub take_cut-requires-clause-session_value : goal.take_cut-requires-clause-session_value
take_cut-requires-clause-session_value c =
    let k = (goal.at.take_cut-requires-clause-session_value c).After-count_chars-first in
    (still_allowed k, short k, tidy_now k)

pub returns : goal.returns
returns c =
    let k = (goal.at.returns c).After-count_chars-first in
    let e = c.take_cut.ensures in
    let shown = shows (read_tidy k) e.status e.memory e.marks in
    record { status = shown.0; memory = shown.1.0; marks = shown.1.1; form = e.form }

-- Each way out and the way round is one law of LoopLaws.
use Rattle.std.proofs.Common.{◌≡◌, sym, ◌∙◌, length, Err, arith, rules}
use Rattle.marks.specs.Forms.{flags, mark_bytes}
use Rattle.marks.proofs.FormLaws.{flags_length, tidy_length}
use Rattle.text.proofs.FindLaws.{from_is}
use Rattle.srec.specs.Lines.{is_end}
use Rattle.part_lines.proofs.TurnLaws.{stopped_as}
use Rattle.part_lines.proofs.LoopLaws.{IsNext, line_next, left_open, open_free, line_halts, line_reason, line_goes}
use Rattle.part_lines.proofs.take_lines.Goals.{In-Some}
use Rattle.part_lines.proofs.take_lines.Goals as goal

-- the line at hand
next_at : (c : In-Some) → let l = c.in-Some.field-0 in
    IsNext c.args.total c.loop-from.now.state c.args.part.now c.loop-from.at l.from l.to l.step
next_at c = line_next _ _ _ _ _ _ _ c.in-Some.ensures

pub returns-in_err-now : goal.returns-in_err-now
returns-in_err-now c =
    let n = next_at (goal.at.returns-in_err-now c).In-Some in
    let i = c.loop-from.invariant.0 in
    let size = length c.args.memory.now in
    let form = c.args.form in
    let marks = c.take_step.new.marks in
    let y = rw i.memory_long at c.in_err-now.ensures.took in
    let long : length marks ≡ mark_bytes form size = c.take_step.auto.marks ∙ tidy_length form size c.loop-from.marks c.loop-from.invariant.1 in
    let is : c.from_residual.result ≡ Err c.in_err-now.field-0.0 = search rules in
    rw is (
      stopped_as _ _ _ _ (flags form size c.loop-from.marks) (flags form size marks) (line_halts i n _ y.0) y.1
          (flags_length form size _ long ∙ sym i.marks_long),
      line_reason i n _ y.0,
      tt,
    )

pub loop-from-preserved : goal.loop-from-preserved
loop-from-preserved c =
    let n = next_at (goal.at.loop-from-preserved c).In-Some in
    let i = c.loop-from.invariant.0 in (
      line_goes i n _ _ _ _ (rw i.memory_long at c.in_ok-now.ensures.took) (c.take_step.auto.header ∙ i.header_long),
      rw i.memory_long at c.in_ok-now.ensures.tidy_turn,
    )

pub returns : goal.returns
returns c =
    let i = c.loop-from.invariant.0 in
    let q = sym c.in_default.is ∙ c.take_next.ensures in
    let begins = from_is is_end c.args.part.now c.loop-from.at _ c.count_gaps.ensures.0 in (
      left_open i q _ begins,
      (omega (arith, c.count_gaps.ensures.1), open_free i q _ begins),
      c.loop-from.invariant.1,
    )

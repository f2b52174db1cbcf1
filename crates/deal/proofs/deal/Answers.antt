-- `deal` answers by the first check that fails, or deals all rows.
use Rattle.std.proofs.Common.{◌≡◌, [], ◌∷◌, Ok, Err, sym, ◌∙◌, arith}
use Rattle.chips.specs.Boards.{board_of}
use Rattle.chips.specs.Promises.{lengths_checked, marks_checked}
use Rattle.chips.proofs.AnswerLaws.{checked}
use Rattle.deal.proofs.AnswerLaws.{refused_by_lengths, refused_by_marks, ready, accepted}
use Rattle.deal.proofs.deal.Goals as goal

pub returns-in-Err : goal.returns-in-Err
returns-in-Err c =
    let a = c.args in
    let b = board_of a.memory0.now a.marks0.now a.memory1.now a.marks1.now a.memory2.now a.marks2.now a.memory3.now a.marks3.now in
    let q : Err c.in-Err.fault ≡ checked a.k a.base a.memory.now a.marks.now b = sym c.in-Err.is ∙ c.check_lengths.ensures ∙ (λ t. lengths_checked a.k a.base (c.of-5.ensures t) (c.of.ensures t ∷ c.of-2.ensures t ∷ c.of-3.ensures t ∷ c.of-4.ensures t ∷ [])) in
    let r = refused_by_lengths a.k a.base a.memory.now a.marks.now b c.refusal.result c.in-Err.fault c.refusal.ensures q in
    record { answer = r.answer; chip0 = r.chips 0 (omega arith); chip1 = r.chips 1 (omega arith); chip2 = r.chips 2 (omega arith); chip3 = r.chips 3 (omega arith) }

pub returns-in-Err-check_marks : goal.returns-in-Err-check_marks
returns-in-Err-check_marks c =
    let a = c.args in
    let b = board_of a.memory0.now a.marks0.now a.memory1.now a.marks1.now a.memory2.now a.marks2.now a.memory3.now a.marks3.now in
    let q : Ok tt ≡ checked a.k a.base a.memory.now a.marks.now b = sym c.in_default.is ∙ c.check_lengths.ensures ∙ (λ t. lengths_checked a.k a.base (c.of-5.ensures t) (c.of.ensures t ∷ c.of-2.ensures t ∷ c.of-3.ensures t ∷ c.of-4.ensures t ∷ [])) in
    let m : Err c.in-Err-check_marks.fault ≡ marks_checked a.marks.now = sym c.in-Err-check_marks.is ∙ c.check_marks.ensures in
    let r = refused_by_marks a.k a.base a.memory.now a.marks.now b q c.refusal-in-Err-check_marks.result c.in-Err-check_marks.fault c.refusal-in-Err-check_marks.ensures m in
    record { answer = r.answer; chip0 = r.chips 0 (omega arith); chip1 = r.chips 1 (omega arith); chip2 = r.chips 2 (omega arith); chip3 = r.chips 3 (omega arith) }

pub deal_rows-requires : goal.deal_rows-requires
deal_rows-requires c =
    let a = c.args in
    let b = board_of a.memory0.now a.marks0.now a.memory1.now a.marks1.now a.memory2.now a.marks2.now a.memory3.now a.marks3.now in
    let q : Ok tt ≡ checked a.k a.base a.memory.now a.marks.now b = sym c.in_default.is ∙ c.check_lengths.ensures ∙ (λ t. lengths_checked a.k a.base (c.of-5.ensures t) (c.of.ensures t ∷ c.of-2.ensures t ∷ c.of-3.ensures t ∷ c.of-4.ensures t ∷ [])) in
    ready a.k a.base a.memory.now a.marks.now b q (sym c.in_default-check_marks.is ∙ c.check_marks.ensures)

pub returns : goal.returns
returns c =
    let a = c.args in
    let b = board_of a.memory0.now a.marks0.now a.memory1.now a.marks1.now a.memory2.now a.marks2.now a.memory3.now a.marks3.now in
    let q : Ok tt ≡ checked a.k a.base a.memory.now a.marks.now b = sym c.in_default.is ∙ c.check_lengths.ensures ∙ (λ t. lengths_checked a.k a.base (c.of-5.ensures t) (c.of.ensures t ∷ c.of-2.ensures t ∷ c.of-3.ensures t ∷ c.of-4.ensures t ∷ [])) in
    let m : Ok tt ≡ marks_checked a.marks.now = sym c.in_default-check_marks.is ∙ c.check_marks.ensures in
    let n = c.deal_rows.new in
    let after = board_of n.memory0 n.marks0 n.memory1 n.marks1 n.memory2 n.marks2 n.memory3 n.marks3 in
    let r = accepted a.k a.base a.memory.now a.marks.now b q m c.refuse.result c.refuse.ensures after c.deal_rows.ensures in
    record { answer = r.answer; chip0 = r.chips 0 (omega arith); chip1 = r.chips 1 (omega arith); chip2 = r.chips 2 (omega arith); chip3 = r.chips 3 (omega arith) }

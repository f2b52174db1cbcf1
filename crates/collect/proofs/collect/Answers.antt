-- `collect` answers by the first check that fails, or collects all rows.
use Rattle.std.proofs.Common.{◌≡◌, [], ◌∷◌, Ok, Err, refl, sym, ap, ◌∙◌}
use Rattle.std.specs.Prelude.{None}
use Rattle.window.specs.declared.Refusal.{Refusal}
use Rattle.window.specs.Headers.{header_of}
use Rattle.window.specs.Plans.{refusal}
use Rattle.chips.specs.declared.Collected.{Collected}
use Rattle.chips.specs.Boards.{buffers_of, board_of}
use Rattle.chips.specs.Promises.{told, lengths_checked}
use Rattle.chips.proofs.AnswerLaws.{checked}
use Rattle.collect.proofs.AnswerLaws.{bad_rows, refused_by_lengths, refused_by_check, ready, accepted}
use Rattle.collect.proofs.collect.Goals as goal

-- an answer with this refusal
abbrev answered : Refusal → Collected
answered r = record { refusal = r; header = header_of []; entry = None }

pub returns-in-Err : goal.returns-in-Err
returns-in-Err c =
    let a = c.args in
    let b = board_of a.memory0.now a.marks0.now a.memory1.now a.marks1.now a.memory2.now a.marks2.now a.memory3.now a.marks3.now in
    let q : Err c.in-Err.fault ≡ checked a.k a.base a.memory.now a.marks.now b = sym c.in-Err.is ∙ c.check_lengths.ensures ∙ (λ t. lengths_checked a.k a.base (c.of-5.ensures t) (c.of.ensures t ∷ c.of-2.ensures t ∷ c.of-3.ensures t ∷ c.of-4.ensures t ∷ [])) in
    let r = refused_by_lengths a.k a.base a.memory.now a.marks.now b c.refusal.result c.in-Err.fault c.refusal.ensures q in
    record { answer = c.answer.ensures ∙ ap answered r.refuses; whole = r.whole }

pub returns-in-Err-check_chips : goal.returns-in-Err-check_chips
returns-in-Err-check_chips c =
    let a = c.args in
    let b = board_of a.memory0.now a.marks0.now a.memory1.now a.marks1.now a.memory2.now a.marks2.now a.memory3.now a.marks3.now in
    let q : Ok tt ≡ checked a.k a.base a.memory.now a.marks.now b = sym c.in_default.is ∙ c.check_lengths.ensures ∙ (λ t. lengths_checked a.k a.base (c.of-5.ensures t) (c.of.ensures t ∷ c.of-2.ensures t ∷ c.of-3.ensures t ∷ c.of-4.ensures t ∷ [])) in
    let r =
    refused_by_check a.k a.base a.memory.now a.marks.now b q c.check_chips.result c.check_chips.ensures c.refusal-in-Err-check_chips.result c.in-Err-check_chips.fault c.refusal-in-Err-check_chips.ensures
    c.in-Err-check_chips.is in
    record { answer = c.answer-in-Err-check_chips.ensures ∙ ap answered r.refuses; whole = r.whole }

pub collect_rows-requires : goal.collect_rows-requires
collect_rows-requires c =
    let a = c.args in
    let b = board_of a.memory0.now a.marks0.now a.memory1.now a.marks1.now a.memory2.now a.marks2.now a.memory3.now a.marks3.now in
    let q : Ok tt ≡ checked a.k a.base a.memory.now a.marks.now b = sym c.in_default.is ∙ c.check_lengths.ensures ∙ (λ t. lengths_checked a.k a.base (c.of-5.ensures t) (c.of.ensures t ∷ c.of-2.ensures t ∷ c.of-3.ensures t ∷ c.of-4.ensures t ∷ [])) in
    let m : bad_rows a.k a.base a.memory.now a.marks.now b ≡ refusal 0 0 0 = c.check_chips.ensures (refusal 0 0 0) ∙ ap (told (refusal 0 0 0)) c.in_default-check_chips.is in
    ready a.k a.base a.memory.now a.marks.now b (refusal 0 0 0) q (sym m) refl

pub returns : goal.returns
returns c =
    let a = c.args in
    let b = board_of a.memory0.now a.marks0.now a.memory1.now a.marks1.now a.memory2.now a.marks2.now a.memory3.now a.marks3.now in
    let q : Ok tt ≡ checked a.k a.base a.memory.now a.marks.now b = sym c.in_default.is ∙ c.check_lengths.ensures ∙ (λ t. lengths_checked a.k a.base (c.of-5.ensures t) (c.of.ensures t ∷ c.of-2.ensures t ∷ c.of-3.ensures t ∷ c.of-4.ensures t ∷ [])) in
    let m : bad_rows a.k a.base a.memory.now a.marks.now b ≡ refusal 0 0 0 = c.check_chips.ensures (refusal 0 0 0) ∙ ap (told (refusal 0 0 0)) c.in_default-check_chips.is in
    let zeros : c.refuse.result.reason ≡ 0 = ap (λ (x : Refusal). x.reason) c.refuse.ensures in
    let new = buffers_of c.collect_rows.new.memory c.collect_rows.new.marks in
    let r = accepted a.k a.base a.memory.now a.marks.now b c.refuse.result q (c.refuse.ensures ∙ sym m) zeros new c.collect_rows.ensures in
    record { answer = c.answer-2.ensures ∙ ap answered r.refuses; whole = r.whole }

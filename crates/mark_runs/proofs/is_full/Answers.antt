-- Where all marks have a bit in common, each is set.
use Rattle.std.proofs.Common.{◌≡◌, rules, bit_and, fold, ◌∙◌}
use borrow.Author.Tests.{eqb-false, not-true}
use Rattle.mark_bytes.proofs.MarkSearchLaws.{common_bit}
use Rattle.mark_runs.proofs.is_full.Goals as goal

pub returns-then-part-eq-BLOCK : goal.returns-then-part-eq-BLOCK
returns-then-part-eq-BLOCK c t =
    let e : c.fold.result ≡ fold bit_and 255 c.args.part.now = search rules in
    common_bit 255 c.args.part.now (λ z. eqb-false c.fold.result 0 (not-true _ t) (e ∙ z))

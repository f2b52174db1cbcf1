-- Each turn feeds the next part, and the parts that are left come to the same.
use Rattle.std.proofs.Common.{ap, ◌∙◌, rules}
use Rattle.parts.specs.Parts.{Stage}
use Rattle.cuts.proofs.CutLaws.{fed_in_bytes, behind_none, behind_fed, behind_all}
use Rattle.cuts.proofs.feed_parts.Goals as goal

pub loop-part-init : goal.loop-part-init
loop-part-init c = record { by_size = search rules; behind = behind_none _ _ _ _ _ (search rules); form = c.requires.1 }

pub loop-part-preserved : goal.loop-part-preserved
loop-part-preserved c =
    let l = c.loop-part in
    let before = l.invariant in
    let steps = c.in-Some.ensures.steps in
    let fed = c.feed-s.ensures in
    let own = fed_in_bytes l.s c.args.base l.memory l.marks c.in-Some.part.now before.form fed.status fed.memory fed.marks in
    record {
      by_size = steps.0 ∙ before.by_size;
      behind = behind_fed _ _ _ _ _ _ _ _ _ _ _ c.requires.0 steps.1.0 (rw before.by_size at steps.1.1) steps.1.2 before.behind own.0 own.1.0 own.1.1;
      form = fed.form ∙ before.form;
    }

pub returns : goal.returns
returns c =
    let all = behind_all _ _ _ _ _ _ c.in-None.ensures.steps.1.0 c.loop-part.invariant.behind in
    record {
      status = ap (λ (w : Stage). w.status) all;
      memory = ap (λ (w : Stage). w.memory) all;
      marks = ap (λ (w : Stage). w.marks) all;
      form = c.loop-part.invariant.form;
    }

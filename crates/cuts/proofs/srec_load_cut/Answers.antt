-- Begun, fed the parts and ended.
use Rattle.std.proofs.Common.{ap, ◌∙◌}
use Rattle.window.specs.declared.Loaded.{Loaded}
use Rattle.window.specs.Windows.{window_of}
use Rattle.parts.specs.Agreement.{Ending}
use Rattle.cuts.proofs.CutLaws.{in_parts_lem, ended_in_bytes}
use Rattle.cuts.proofs.srec_load_cut.Goals as goal

pub returns : goal.returns
returns c =
    let a = c.args in
    let begun = c.begin-begun.ensures in
    let fed = c.feed_parts-fed in
    let ended = c.end.ensures in
    let all = in_parts_lem (window_of a.base a.memory.now a.marks.now) a.cut _ a.text.now _ _ _ _ _
    c.max.ensures begun.status begun.marks fed.ensures.status fed.ensures.memory fed.ensures.marks in
    let own = ended_in_bytes fed.result a.base fed.new.memory fed.new.marks fed.ensures.form ended.answer ended.memory ended.marks in
    record {
      answer = ap (λ (x : Loaded). x.refusal.reason) own.0 ∙ ap (λ (x : Ending). x.answer.refusal.reason) all;
      memory = own.1.0 ∙ ap (λ (x : Ending). x.memory) all;
      marks = own.1.1 ∙ ap (λ (x : Ending). x.marks) all;
    }

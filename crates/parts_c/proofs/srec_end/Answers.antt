-- What the library function answers, gives out and leaves.
use Rattle.std.proofs.Common.{ap, ◌∙◌}
use Rattle.window.specs.Windows.{window_of}
use Rattle.marks.specs.declared.Form.{Form}
use Rattle.parts.specs.Parts.{Status, Stage}
use Rattle.parts.specs.Forms.{end_as, answered_in}
use Rattle.c_answers.specs.Answers.{answer_of}
use Rattle.parts_c.proofs.StateLaws.{shown, in_bytes, left}
use Rattle.parts_c.proofs.srec_end.Goals as goal

pub returns : goal.returns
returns c =
    let a = c.args in
    let session = c.session_of-session.ensures in
    let ended = c.end-ended.ensures in
    let form = in_bytes a.parts _ session in
    let same = left a.parts _ session (λ (form : Form) (status : Status). end_as form status (window_of a.base a.memory.now a.marks.now)) in
    record {
      answer = c.answer_of.ensures ∙ ap answer_of (ended.answer ∙ (λ i. answered_in (form i) (same i).status (same i).marks));
      status = shown _ (ended.form ∙ form) _ c.parts_of.ensures ∙ ended.status ∙ ap (λ (w : Stage). w.status) same;
      memory = ended.memory ∙ ap (λ (w : Stage). w.memory) same;
      marks = ended.marks ∙ ap (λ (w : Stage). w.marks) same;
    }

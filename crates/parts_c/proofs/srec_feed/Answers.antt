-- What the library function gives out and leaves.
use Rattle.std.proofs.Common.{ap, ◌∙◌}
use Rattle.window.specs.Windows.{window_of}
use Rattle.marks.specs.declared.Form.{Form}
use Rattle.parts.specs.Parts.{Status, Stage}
use Rattle.parts.specs.Forms.{feed_as}
use Rattle.parts_c.proofs.StateLaws.{shown, in_bytes, left}
use Rattle.parts_c.proofs.srec_feed.Goals as goal

pub returns : goal.returns
returns c =
    let a = c.args in
    let session = c.session_of-session.ensures in
    let fed = c.feed.ensures in
    let same = left a.parts _ session (λ (form : Form) (status : Status). feed_as form status (window_of a.base a.memory.now a.marks.now) a.part.now) in
    record {
      status = shown _ (fed.form ∙ in_bytes a.parts _ session) _ c.parts_of.ensures ∙ fed.status ∙ ap (λ (w : Stage). w.status) same;
      memory = fed.memory ∙ ap (λ (w : Stage). w.memory) same;
      marks = fed.marks ∙ ap (λ (w : Stage). w.marks) same;
    }

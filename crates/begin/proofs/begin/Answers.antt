-- `begin_as` with a mark byte a cell.
use Rattle.std.proofs.Common.{ap, ◌∙◌}
use Rattle.window.specs.Windows.{window_of}
use Rattle.parts.specs.Parts.{Stage}
use Rattle.parts.proofs.FormLaws.{begun_bytes}
use Rattle.begin.proofs.begin.Goals as goal

pub returns : goal.returns
returns c =
    let a = c.args in
    let e = c.begin_as.ensures in
    let w = begun_bytes (window_of a.base a.memory.now a.marks.now) in
    record { status = e.status ∙ ap (λ (x : Stage). x.status) w; marks = e.marks ∙ ap (λ (x : Stage). x.marks) w; form = e.form }

-- `look_as` meets its contract: the run of the image that the source names.
use mathlib.Core.Path.{sym, ◌∙◌}
use Rattle.window.specs.Windows.{Window, window_of}
use Rattle.marks.specs.Forms.{plain}
use Rattle.overlay.specs.Forms.{look_part_in, look_place_in}
use Rattle.overlay.proofs.RefusalLaws.{look_fit_in}
use Rattle.overlay.proofs.InsideLaws.{inside}
use Rattle.overlay.proofs.FormLaws.{plain_source}
use Rattle.look.proofs.SourceLaws.{not_refused}
use borrow.Author.Rules.{rules}
use Rattle.look.proofs.look_as.Statement.{statement}
use Rattle.look.proofs.look_as.Tie as tie

part-at-requires : tie.Need-part_at-requires
part-at-requires c κs n =
    let a = c.args in
    let B : Window = window_of a.base a.base_memory.now a.base_marks.now in
    let P : Window = window_of a.base a.patch_memory.now a.patch_marks.now in
    let w = c.look_source_as-source.result in
    let ok = not_refused a.form B P a.address w n c.look_source_as-source.ensures in
    let l = look_fit_in a.form B P ok in
    let h = inside (plain a.form B) (plain a.form P) a.address w n
    (sym (plain_source a.form B P a.address ok) ∙ sym c.look_source_as-source.ensures) in
    (l.base, l.patch, l.both, h.low, h.high)

returns : tie.Need-returns
unfolding look_part_in look_place_in
returns c = rw (← c.look_source_as-source.ensures) c.part_at.ensures

pub look_as_spec : {M : Type 1} → statement M
look_as_spec = tie.close (tie.spec (λ c κs. search rules) part-at-requires returns)

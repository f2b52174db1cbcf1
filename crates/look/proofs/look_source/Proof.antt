-- `look_source` meets its contract: `look_source_as` with a mark byte a cell.
use mathlib.Core.Path.{◌∙◌}
use Rattle.overlay.proofs.FormLaws.{source_bytes}
use borrow.Author.Rules.{rules}
use Rattle.look.proofs.look_source.Statement.{statement}
use Rattle.look.proofs.look_source.Tie as tie

returns : tie.Need-returns
returns c =
    let a = c.args in
    c.look_source_as.ensures ∙ source_bytes a.base a.base_memory.now a.base_marks.now a.patch_memory.now a.patch_marks.now a.address

pub look_source_spec : {M : Type 1} → statement M
look_source_spec = tie.close (tie.spec (λ c κs. search rules) returns)

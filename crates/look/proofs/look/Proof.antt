-- `look` meets its contract: `look_as` with a mark byte a cell.
use mathlib.Core.Path.{◌∙◌}
use Rattle.overlay.proofs.FormLaws.{part_bytes, place_bytes}
use borrow.Author.Rules.{rules}
use Rattle.look.proofs.look.Statement.{statement}
use Rattle.look.proofs.look.Tie as tie

returns : tie.Need-returns
returns c =
    let a = c.args in
    let m = a.base_memory.now in
    let k = a.base_marks.now in
    let n = a.patch_memory.now in
    let j = a.patch_marks.now in
    (c.look_as.ensures.0 ∙ part_bytes a.base m k n j a.address, c.look_as.ensures.1 ∙ place_bytes a.base m k n j a.address _ _)

pub look_spec : {M : Type 1} → statement M
look_spec = tie.close (tie.spec (λ c κs. search rules) returns)

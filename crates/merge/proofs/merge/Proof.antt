-- `merge` meets its contract: `merge_as` with a mark byte a cell.
use mathlib.Core.Path.{◌∙◌}
use Rattle.overlay.proofs.FormLaws.{answer_bytes, memory_bytes, marks_bytes}
use borrow.Author.Rules.{rules}
use Rattle.merge.proofs.merge.Statement.{statement}
use Rattle.merge.proofs.merge.Tie as tie

returns : tie.Need-returns
returns c =
    let at-merge = c.before.before.before.before in
    let a = at-merge.args in
    let m = a.base_memory.now in
    let k = a.base_marks.now in
    let h = a.base_header.now in
    let n = a.patch_memory.now in
    let j = a.patch_marks.now in
    let g = a.patch_header.now in
    let e = at-merge.merge_as.ensures in (
      e.0 ∙ answer_bytes a.base m k h n j g a.base_entry a.patch_entry,
      (
        e.1.0 ∙ memory_bytes a.base m k h n j g a.base_entry a.patch_entry,
        e.1.1 ∙ marks_bytes a.base m k h n j g a.base_entry a.patch_entry,
      ),
    )

pub merge_spec : {M : Type 1} → statement M
merge_spec = tie.close (tie.spec (λ c κs. search rules) (λ c. search rules) (λ c. search rules) returns)

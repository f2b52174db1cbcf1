-- `merged_header` meets its contract: its test is whether the patch's header is empty.
use mathlib.Core.Path.{sym, ap, ◌∙◌}
use Rattle.window.specs.Headers.{header_of}
use Rattle.merge.proofs.MergeLaws.{header_of_base, header_of_patch}
use borrow.Author.Rules.{rules}
use Rattle.merge.proofs.merged_header.Statement.{statement}
use Rattle.merge.proofs.merged_header.Tie as tie

returns : tie.Need-returns-then-patch-eq0
returns c =
    let a = c.args in
    c.header_from.ensures ∙ ap header_of (sym (header_of_base a.base.now a.patch.now c.if-patch-eq0.true))

returns-2 : tie.Need-returns
returns-2 c =
    let a = c.args in
    c.header_from-2.ensures ∙ ap header_of (sym (header_of_patch a.base.now a.patch.now c.if-patch-eq0.false))

pub merged_header_spec : {M : Type 1} → statement M
merged_header_spec = tie.close (tie.spec (λ c κs. search rules) returns (λ c κs. search rules) returns-2)

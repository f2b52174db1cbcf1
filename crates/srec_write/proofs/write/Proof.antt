-- `write` meets its contract: `write_as` with a mark byte a cell.
use mathlib.Core.Path.{ap, ◌∙◌}
use lib.ListN.{length}
use Rattle.text.specs.Write.{write_answer, output_after}
use Rattle.srec.specs.Formats.{srec}
use Rattle.forms.proofs.CallLaws.{write_bytes}
use borrow.Author.Rules.{rules}
use Rattle.srec_write.proofs.write.Statement.{statement}
use Rattle.srec_write.proofs.write.Tie as tie

returns : tie.Need-returns
returns c =
    let at-write = c.before.before in
    let a = at-write.args in
    let same = write_bytes srec a.base a.memory.now a.marks.now a.header.now a.entry (length a.out.now) in
    (at-write.write_as.ensures.0 ∙ ap write_answer same, at-write.write_as.ensures.1 ∙ ap (output_after a.out.now) same)

pub write_spec : {M : Type 1} → statement M
write_spec = tie.close (tie.spec (λ c κs. search rules) (λ c. search rules) returns)

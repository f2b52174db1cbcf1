-- `is_allowed` meets its contract: the two halves of row 1.
use mathlib.Core.Path.{sym, ◌∙◌}
use native.Mathlib.Omega.{arith}
use Rattle.marks.proofs.RowLaws.{row_1_lengths, row_1_reach}
use borrow.Author.Rules.{rules}
use Rattle.marks.proofs.is_allowed.Statement.{statement}
use Rattle.marks.proofs.is_allowed.Tie as tie

returns : tie.Need-returns-then-marks-bytes_for
returns c =
    let a = c.args in
    row_1_lengths a.form a.base a.memory.now a.marks.now (λ e. c.if-marks-bytes_for.true (e ∙ sym c.bytes_for.ensures))

returns-2 : tie.Need-returns
returns-2 c =
    let a = c.args in
    row_1_reach a.form a.base a.memory.now a.marks.now (omega arith) (c.if-marks-bytes_for.false ∙ c.bytes_for.ensures)

pub is_allowed_spec : {M : Type 1} → statement M
is_allowed_spec = tie.close (tie.spec (λ c κs. search rules) returns (λ c. search rules) returns-2)

-- `is_gap` meets its contract: the test of the format that it was told.
use Rattle.formats.proofs.ChoiceLaws.{gap_chosen}
use borrow.Author.Rules.{rules}
use Rattle.formats.proofs.is_gap.Statement.{statement}
use Rattle.formats.proofs.is_gap.Tie as tie

returns : tie.Need-returns-in-Records
returns c =
    let a = c.args in
    gap_chosen a.format _ c.in-Records.is a.c c.is_end.result c.is_end.ensures

returns-2 : tie.Need-returns-in-Tape
returns-2 c =
    let a = c.args in
    gap_chosen a.format _ c.in-Tape.is a.c c.is_pause.result c.is_pause.ensures

pub is_gap_spec : {M : Type 1} → statement M
is_gap_spec =
    tie.close (tie.spec (λ c. search rules) (λ c κs. search rules) (λ c. search rules) (λ c κs. search rules) returns returns-2)

-- `most_cells` meets its contract: the cut of the format that it was told.
use mathlib.Core.Path.{refl}
use Rattle.formats.proofs.ChoiceLaws.{row_left, most_chosen}
use borrow.Author.Rules.{rules}
use Rattle.formats.proofs.most_cells.Statement.{statement}
use Rattle.formats.proofs.most_cells.Tie as tie

returns : tie.Need-returns-in-Records
returns c = let a = c.args in most_chosen a.format _ c.in-Records.is a.address _ (row_left a.address)

returns-2 : tie.Need-returns-in-Tape
returns-2 c = let a = c.args in most_chosen a.format _ c.in-Tape.is a.address _ refl

pub most_cells_spec : {M : Type 1} → statement M
most_cells_spec = tie.close (tie.spec (λ c. search rules) (λ c. search rules) (λ c. search rules) returns returns-2)

-- `bytes_for` meets its contract in either form.
use borrow.Author.Rules.{rules}
use Rattle.marks.proofs.bytes_for.Statement.{statement}
use Rattle.marks.proofs.bytes_for.Tie as tie

returns-2 : tie.Need-returns-in-Packed
returns-2 c = rw c.in-Packed.is c.byte_count.ensures

pub bytes_for_spec : {M : Type 1} → statement M
bytes_for_spec = tie.close (tie.spec (λ c. search rules) (λ c. search rules) (λ c κs. search rules) (λ c. search rules) returns-2)

-- `tidy` meets its contract: mark bytes have no spare bits.
use borrow.Author.Rules.{rules}
use Rattle.marks.proofs.FormLaws.{packed_long}
use Rattle.marks.proofs.tidy.Statement.{statement}
use Rattle.marks.proofs.tidy.Tie as tie

returns : tie.Need-returns-in-Bytes
returns c = rw c.in-Bytes.is

clear-spare-requires : tie.Need-clear_spare-requires
clear-spare-requires c κs =
    let t = c.before in
    let s = t.before in
    packed_long s.args.form s.args.cells s.args.marks.now s.requires t.in-Packed.is

returns-2 : tie.Need-returns
returns-2 c = let at_clear = c.before in rw at_clear.in-Packed.is at_clear.clear_spare.ensures

pub tidy_spec : {M : Type 1} → statement M
tidy_spec = tie.close (tie.spec (λ c. search rules) returns (λ c. search rules) clear-spare-requires (λ c. search rules) returns-2)

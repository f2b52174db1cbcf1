-- `tape_length` meets its contract: nothing wraps.
use mathlib.Core.Path.{refl}
use Rattle.tape_text.specs.Pieces.{length_for}
use borrow.Author.Rules.{rules}
use Rattle.tape_text.proofs.tape_length.Statement.{statement}
use Rattle.tape_text.proofs.tape_length.Tie as tie

returns : tie.Need-returns
unfolding length_for
returns c = refl

pub tape_length_spec : {M : Type 1} → statement M
tape_length_spec =
    tie.close (tie.spec (λ c. search rules) (λ c. search rules) (λ c. search rules) (λ c. search rules) returns)

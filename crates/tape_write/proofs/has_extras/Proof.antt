-- `has_extras` meets its contract: a header of some bytes, or else the entry tells.
use mathlib.Core.Path.{refl}
use lib.ListN.{length}
use borrow.Author.Tests.{lt-ltb, le-ltb}
use Rattle.tape.specs.Formats.{row19}
use borrow.Author.Rules.{rules}
use Rattle.tape_write.proofs.has_extras.Statement.{statement}
use Rattle.tape_write.proofs.has_extras.Tie as tie

returns : tie.Need-returns-then-header-gt0
unfolding row19
returns c = rw (lt-ltb 0 (length c.args.header.now) c.if-header-gt0.true) refl

returns-2 : tie.Need-returns-in-None
unfolding row19
returns-2 c =
    let e = c.before in
    rw (le-ltb 0 (length e.args.header.now) e.if-header-gt0.false, c.in-None.is) refl

returns-3 : tie.Need-returns-in-Some
unfolding row19
returns-3 c =
    let e = c.before in
    rw (le-ltb 0 (length e.args.header.now) e.if-header-gt0.false, c.in-Some.is) refl

pub has_extras_spec : {M : Type 1} → statement M
has_extras_spec = tie.close (tie.spec returns (λ c. search rules) (λ c. search rules) returns-2 returns-3)

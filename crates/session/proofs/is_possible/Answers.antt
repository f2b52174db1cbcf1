-- Each test is the definition's.
use mathlib.Core.Path.{◌≡◌}
use native.Mathlib.Omega.{arith}
use lib.ListN.{length, length-take, length-map}
use borrow.Author.Rules.{rules}
use Rattle.std.proofs.lemmas.Bool.Decides.{nat_tests}
use Rattle.parts.specs.Parts.{possible}
use Rattle.session.specs.Sessions.{going_of}
use Rattle.session.proofs.is_possible.Goals.{After-smaller-held}
use Rattle.session.proofs.is_possible.Goals as goal

-- so many characters are held
held : (c : After-smaller-held) → length (going_of c.args.session).held ≡ c.smaller-held.result
held c =
    let long : length c.args.session.line ≡ 516 = search rules in
    rw (length-map, length-take) (omega (arith, long, c.smaller-held.ensures))

pub returns-then-state-place-2 : goal.returns-then-state-place-2
unfolding possible
returns-then-state-place-2 c = let h = held (goal.at.returns-then-state-place-2 c).After-smaller-held in grind (arith, nat_tests)

pub returns-else-state-place-2 : goal.returns-else-state-place-2
unfolding possible
returns-else-state-place-2 c = let h = held (goal.at.returns-else-state-place-2 c).After-smaller-held in grind (arith, nat_tests)

-- The characters so far are as they are shown.
use Rattle.std.proofs.Common.{◌≡◌, map}
use Rattle.lists.proofs.RenewLaws.{renewed}
use Rattle.session.specs.Sessions.{visible}
use Rattle.holding.proofs.hide_ends.Given as goal

abbrev pub invariant-loop-c : goal.invariant-loop-c
invariant-loop-c l = l.chars ≡ renewed l.initial.chars (map visible l.initial.chars) l.c-index

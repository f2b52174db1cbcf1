-- The marks up to this one are joined, and the others are as they were.
use Rattle.std.proofs.Common.{◌≡◌}
use Rattle.lists.proofs.RenewLaws.{renewed}
use Rattle.layers.specs.Layers.{joined}
use Rattle.layers.proofs.join.Given as goal

abbrev pub invariant-loop-i : goal.invariant-loop-i
invariant-loop-i l = l.marks ≡ renewed l.initial.marks (joined l.initial.marks l.others) l.i

-- The loop's invariant: the chips before this one fit.
use Rattle.std.proofs.Common.{◌≡◌, drop}
use Rattle.chips.specs.Promises.{misfits}
use Rattle.chips.proofs.has_misfit.Given as goal

abbrev pub invariant-loop-chip : goal.invariant-loop-chip
invariant-loop-chip l = misfits l.k l.cells 0 l.chips ≡ misfits l.k l.cells l.chip (drop l.chip l.chips)

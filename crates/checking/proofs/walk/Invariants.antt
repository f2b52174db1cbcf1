-- What is left to walk gives what the whole gives, and the marks show its image.
use Rattle.std.proofs.Common.{◌-◌, length}
use Rattle.formats.specs.Choices.{format_of}
use Rattle.checking.proofs.CheckLaws.{Going}
use Rattle.checking.proofs.walk.Given as goal

abbrev pub invariant-loop-from : goal.invariant-loop-from
invariant-loop-from l = Going (format_of l.format) l.form l.text l.base l.cells l.marks l.state l.at

abbrev pub decreases-loop-from : goal.decreases-loop-from
decreases-loop-from l = length l.text - l.at

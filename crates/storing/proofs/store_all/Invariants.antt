-- Memory shows the image of the walk, or the last line is behind it.
use Rattle.std.proofs.Common.{◌≡◌, length, ◌-◌}
use Rattle.formats.specs.Choices.{format_of}
use Rattle.storing.proofs.PassLaws.{Storing}
use Rattle.storing.proofs.store_all.Given as goal

abbrev pub invariant-loop-from : goal.invariant-loop-from
invariant-loop-from l = (length l.memory ≡ length l.fn.memory) × Storing (format_of l.format) l.text l.base l.fn.memory l.memory l.at

abbrev pub decreases-loop-from : goal.decreases-loop-from
decreases-loop-from l = length l.text - l.at

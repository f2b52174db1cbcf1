-- What is counted and what is left to count make up the whole.
use Rattle.std.proofs.Common.{◌≡◌, ◌+◌, drop}
use Rattle.text.specs.Finds.{leading}
use Rattle.formats.specs.Choices.{format_of}
use Rattle.lines.proofs.count_gaps.Given as goal

abbrev pub invariant-loop-i : goal.invariant-loop-i
invariant-loop-i l = l.i + leading (format_of l.format).gap (drop l.i l.text) ≡ leading (format_of l.format).gap l.text

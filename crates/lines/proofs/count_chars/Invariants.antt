-- What is counted and what is left to count make up the whole.
use Rattle.std.proofs.Common.{◌≡◌, ◌+◌, length, drop}
use Rattle.text.specs.Lines.{front}
use Rattle.formats.specs.Choices.{format_of}
use Rattle.lines.proofs.count_chars.Given as goal

abbrev pub invariant-loop-i : goal.invariant-loop-i
invariant-loop-i l = l.i + length (front (format_of l.format).gap (drop l.i l.text)) ≡ length (front (format_of l.format).gap l.text)

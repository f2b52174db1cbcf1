-- What is left of the part comes to what all of it comes to.
use Rattle.std.proofs.Common.{◌≡◌, ℕ, ◌+◌, ◌-◌, length, drop}
use Rattle.marks.specs.Forms.{flags, Tidy}
use Rattle.parts.specs.Parts.{stage, fed}
use Rattle.parts.specs.Parts.Status.{going}
use Rattle.parts.specs.Stretches.{fresh}
use Rattle.tally.specs.Tallies.{known_of}
use Rattle.part_lines.proofs.LoopLaws.{Taking}
use Rattle.part_lines.proofs.take_lines.Given as goal

abbrev pub invariant-loop-from : goal.invariant-loop-from
invariant-loop-from l =
    let size = length l.fn.memory in
    let all = fed l.base (stage (going (fresh size (l.total + l.fn.first) (known_of l.fn.tally l.fn.header))) l.fn.memory (flags l.form size l.fn.marks)) (drop l.fn.first l.part) in
    Taking l.base size l.total l.part all l.memory (flags l.form size l.marks) l.now l.header l.at × Tidy l.form size l.marks

abbrev pub decreases-loop-from : goal.decreases-loop-from
decreases-loop-from l = length l.part - l.at

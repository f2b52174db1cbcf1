-- What C is told of dealing and collecting.
use Rattle.std.specs.Prelude.{[]}
use Rattle.window.specs.declared.Refusal.{Refusal}
use Rattle.std.specs.Prelude.{None}
use Rattle.window.specs.Headers.{header_of}
use Rattle.chips.specs.declared.Collected.{Collected}
use Rattle.c_answers.specs.declared.Answer.{Answer}
use Rattle.c_answers.specs.Answers.{answer_of, bare_of}

-- dealing answers a refusal alone
abbrev pub dealt_of : Refusal → Answer
dealt_of refusal = answer_of (bare_of refusal (header_of []) None)

-- collecting answers a header and an entry, too
abbrev pub collected_of : Collected → Answer
collected_of c = answer_of (bare_of c.refusal c.header c.entry)

-- What C is told of a merge.
use Rattle.overlay.specs.declared.Merged.{Merged}
use Rattle.c_answers.specs.declared.Answer.{Answer}
use Rattle.c_answers.specs.Answers.{answer_of, bare_of}

-- the refusal, and the merged image's header and entry
abbrev pub merged_of : Merged → Answer
merged_of m = answer_of (bare_of m.refusal m.header m.entry)

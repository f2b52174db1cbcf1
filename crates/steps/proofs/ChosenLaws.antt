-- The numbers of the chosen format's walk can be kept.
use Rattle.text.proofs.StepLaws.{Counting}
use Rattle.formats.specs.declared.Format.{Format}
use Rattle.formats.specs.declared.Format.TheVariants.{Records, Tape}
use Rattle.formats.specs.Choices.{format_of}
use Rattle.srec_judge.proofs.JudgeLaws.{counting as recordsCount}
use Rattle.tape_step.proofs.LineStepLaws.{counting as tapesCount}

-- the numbers of its walk can be kept
pub counting_of : (c : Format) → Counting (format_of c)
counting_of Records = recordsCount
counting_of (Tape edition) = tapesCount edition

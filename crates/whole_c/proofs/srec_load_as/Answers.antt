-- What the library function answers and leaves, in the format that the number names.
use Rattle.std.proofs.Common.{ap}
use Rattle.loader.proofs.LoaderLaws.{in_bytes}
use Rattle.c_answers.specs.Answers.{answer_of}
use Rattle.whole_c.proofs.srec_load_as.Goals as goal

pub returns : goal.returns
returns c =
    let a = c.args in
    let l = in_bytes a.base a.memory.now a.marks.now _ _ _ _ c.load_as.ensures in
    rw (c.answer_of.ensures, ← c.format_for-choice.ensures) (record { answer = ap answer_of l.0; memory = l.1.0; marks = l.1.1 })

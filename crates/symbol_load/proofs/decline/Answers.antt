use Rattle.std.proofs.Common.{◌∙◌, ap, rules}
use Rattle.window.specs.Windows.{window_of}
use Rattle.text.specs.Load.{load_answer}
use Rattle.symbol_load.proofs.LoadLaws.{row_1_given, row_1_passed}
use Rattle.symbol_load.proofs.decline.Goals as goal

pub returns-then-not-allowed-clause-answer : goal.returns-then-not-allowed-clause-answer
returns-then-not-allowed-clause-answer c =
    let a = c.args in
    c.refused_answer.ensures
    ∙ rw c.refuse.ensures
    (ap load_answer (row_1_given (window_of a.base a.memory.now a.marks.now) a.refusal c.is_allowed-allowed.result c.is_allowed-allowed.ensures (search rules)))

pub returns-clause-answer : goal.returns-clause-answer
returns-clause-answer c =
    let a = c.args in
    c.refused_answer-2.ensures
    ∙ ap load_answer (row_1_passed (window_of a.base a.memory.now a.marks.now) a.refusal c.is_allowed-allowed.result c.is_allowed-allowed.ensures (search rules))

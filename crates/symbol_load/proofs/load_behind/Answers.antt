use Rattle.std.proofs.Common.{◌∙◌, ap}
use Rattle.window.specs.Windows.{window_of}
use Rattle.text.specs.Load.{load_answer, memory_after, marks_after}
use Rattle.symbol_load.proofs.LoadLaws.{kept, cleared, behind_bad, behind_table}
use Rattle.symbol_load.proofs.load_behind.Goals as goal

pub returns-in-Err-clause-answer : goal.returns-in-Err-clause-answer
returns-in-Err-clause-answer c =
    let a = c.args in
    let is = behind_bad (window_of a.base a.memory.now a.marks.now) a.text.now c.in-Err.refusal c.in-Err.ensures.block in
    c.decline.ensures.answer ∙ ap load_answer is

pub returns-in-Err-clause-memory : goal.returns-in-Err-clause-memory
returns-in-Err-clause-memory c =
    let a = c.args in
    let W = window_of a.base a.memory.now a.marks.now in
    let is = behind_bad W a.text.now c.in-Err.refusal c.in-Err.ensures.block in
    kept W c.in-Err.refusal a.memory.now ∙ ap (memory_after a.memory.now) is

pub returns-in-Err-clause-marks : goal.returns-in-Err-clause-marks
returns-in-Err-clause-marks c =
    let a = c.args in
    let W = window_of a.base a.memory.now a.marks.now in
    let is = behind_bad W a.text.now c.in-Err.refusal c.in-Err.ensures.block in
    c.decline.ensures.marks ∙ cleared W c.in-Err.refusal a.marks.now ∙ ap (marks_after a.marks.now) is

pub returns-in-Ok-clause-answer : goal.returns-in-Ok-clause-answer
returns-in-Ok-clause-answer c =
    let a = c.args in
    let is = behind_table (window_of a.base a.memory.now a.marks.now) a.text.now c.in-Ok.table c.in-Ok.ensures.block in
    c.load.ensures.answer ∙ ap load_answer is

pub returns-in-Ok-clause-memory : goal.returns-in-Ok-clause-memory
returns-in-Ok-clause-memory c =
    let a = c.args in
    let is = behind_table (window_of a.base a.memory.now a.marks.now) a.text.now c.in-Ok.table c.in-Ok.ensures.block in
    c.load.ensures.memory ∙ ap (memory_after a.memory.now) is

pub returns-in-Ok-clause-marks : goal.returns-in-Ok-clause-marks
returns-in-Ok-clause-marks c =
    let a = c.args in
    let is = behind_table (window_of a.base a.memory.now a.marks.now) a.text.now c.in-Ok.table c.in-Ok.ensures.block in
    c.load.ensures.marks ∙ ap (marks_after a.marks.now) is

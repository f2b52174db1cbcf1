-- `load_sheet` meets its contract: the block's refusal, or the sheet with its table.
use mathlib.Core.Path.{ap, ◌∙◌}
use Rattle.window.specs.Windows.{window_of}
use Rattle.text.specs.Load.{load_answer, memory_after, marks_after}
use Rattle.symbol_load.proofs.LoadLaws.{kept, cleared}
use Rattle.sheet_load.proofs.PlaceLaws.{block_refused, block_placed}
use Rattle.sheet_load.proofs.load_sheet.Goals as goal

pub returns-in-Err : goal.returns-in-Err
returns-in-Err c =
    let a = c.args in
    let W = window_of a.base a.memory.now a.marks.now in
    let is = block_refused a.base a.memory.now a.marks.now a.text.now a.sheet.now _ c.in-Err.ensures.block in
    record {
      answer = c.decline.ensures.answer ∙ ap load_answer is;
      memory = kept W c.in-Err.refusal a.memory.now ∙ ap (memory_after a.memory.now) is;
      marks = c.decline.ensures.marks ∙ cleared W c.in-Err.refusal a.marks.now ∙ ap (marks_after a.marks.now) is;
    }

pub returns-in-Ok : goal.returns-in-Ok
returns-in-Ok c =
    let a = c.args in
    let is = block_placed a.base a.memory.now a.marks.now a.text.now a.sheet.now _ c.in-Ok.ensures.block in
    record {
      answer = c.place_sheet.ensures.answer ∙ ap load_answer is;
      memory = c.place_sheet.ensures.memory ∙ ap (memory_after a.memory.now) is;
      marks = c.place_sheet.ensures.marks ∙ ap (marks_after a.marks.now) is;
    }

-- `load_tape` is `load_as` with a mark byte a cell.
use Rattle.loader.proofs.LoaderLaws.{in_bytes}
use Rattle.load.proofs.load_tape.Goals as goal

pub returns : goal.returns
returns c =
    let a = c.args in
    let l = in_bytes a.base a.memory.now a.marks.now _ _ _ _ c.load_as.ensures in
    record { answer = l.0; memory = l.1.0; marks = l.1.1 }

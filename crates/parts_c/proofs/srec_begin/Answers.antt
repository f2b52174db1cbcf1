-- What the library function gives out and leaves.
use Rattle.std.proofs.Common.{◌∙◌}
use Rattle.parts_c.proofs.StateLaws.{shown}
use Rattle.parts_c.proofs.srec_begin.Goals as goal

pub returns : goal.returns
returns c =
    let begun = c.begin.ensures in
    record { status = shown _ begun.form _ c.parts_of.ensures ∙ begun.status; marks = begun.marks }

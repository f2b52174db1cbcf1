-- `blended` is asked for flags of 0 and 1, and gives the cells laid over memory.
use Rattle.std.proofs.Common.{take, arith}
use Rattle.std.proofs.lemmas.List.{get_or-take}
use Rattle.chips.proofs.ReceiveLaws.{flag_small}
use Rattle.receiving.proofs.ReceiveLaws.{blended_all}
use Rattle.receiving.proofs.blended.Goals as goal

pub choose-requires : goal.choose-requires
choose-requires c =
    let a = c.args in
    rw (get_or-take a.size a.flags.now c.loop-i.i 0 (omega arith)) at (flag_small (take a.size a.flags.now) c.loop-i.i c.requires.4)

pub returns : goal.returns
returns c =
    let a = c.args in
    blended_all a.old.now a.cells.now a.flags.now c.loop-i.bytes a.size (omega arith) c.requires.1 c.requires.2 c.requires.3
    (λ i h. c.loop-i.invariant.1 i (omega arith))

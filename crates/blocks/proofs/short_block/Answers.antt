-- `short_block` lays the cells one after the other.
use Rattle.std.proofs.Common.{arith}
use Rattle.blocks.proofs.BlockLaws.{block_cells}
use Rattle.blocks.proofs.short_block.Goals as goal

pub returns : goal.returns
returns c =
    let a = c.args in
    (c.loop-i.invariant.0, block_cells a.k a.size a.rows.now c.loop-i.block c.requires.1 (λ j h. c.loop-i.invariant.1 j (omega arith)))

-- `whole_block` lays one column after the other.
use Rattle.std.proofs.Common.{◌∙◌}
use Rattle.blocks.proofs.BlockLaws.{column_fits, block_length, block_more}
use Rattle.blocks.proofs.whole_block.Goals as goal

pub loop-i-preserved : goal.loop-i-preserved
loop-i-preserved g c =
    let k = g.row.K in
    let l = c.loop-i in
    let fit = column_fits k l.i l.block c.requires c.loop-i-test.true l.invariant.0 in
    rw c.copy_from_slice.ensures.after (
      block_length k l.i c.args.rows.now l.block c.column.result c.requires fit c.column.ensures.0 ∙ l.invariant.0,
      block_more k l.i c.args.rows.now l.block c.column.result c.requires fit c.column.ensures.0 l.invariant.1 c.column.ensures.1,
    )

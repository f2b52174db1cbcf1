-- `collect_row` lays the chips' rows into a block, and receives it.
use Rattle.chips.specs.Boards.{board_of, chip_at}
use Rattle.collect_row.proofs.CollectLaws.{row_asks, receivable, part_collected}
use Rattle.collect_row.proofs.collect_row.Goals as goal

pub rows_at-cells-requires : goal.rows_at-cells-requires
rows_at-cells-requires c =
    let a = c.args in
    let r = c.requires.2 in
    let b = board_of a.memory0.now a.marks0.now a.memory1.now a.marks1.now a.memory2.now a.marks2.now a.memory3.now a.marks3.now in
    row_asks _ _ _ r a.at a.size c.requires.0 c.requires.1 (λ n. (chip_at b n).memory) (λ n u. (r.shares n u).0)

pub rows_at-flags-requires : goal.rows_at-flags-requires
rows_at-flags-requires c =
    let a = c.args in
    let r = c.requires.2 in
    let b = board_of a.memory0.now a.marks0.now a.memory1.now a.marks1.now a.memory2.now a.marks2.now a.memory3.now a.marks3.now in
    row_asks _ _ _ r a.at a.size c.requires.0 c.requires.1 (λ n. (chip_at b n).marks) (λ n u. (r.shares n u).1)

pub receive_block-requires : goal.receive_block-requires
receive_block-requires c =
    let a = c.args in
    let e = c.blocks_of.ensures in
    receivable _ _ _ c.requires.2 a.at a.size c.requires.0 c.requires.1 _ _ _ _ e.0.1 e.1.1 c.rows_at-cells.ensures c.rows_at-flags.ensures e.0.0 e.1.0

pub returns : goal.returns
returns c =
    let a = c.args in
    let e = c.blocks_of.ensures in
    part_collected _ _ _ c.requires.2 a.at a.size c.requires.0 c.requires.1 _ _ _ _ e.0.1 e.1.1 c.rows_at-cells.ensures c.rows_at-flags.ensures e.0.0 e.1.0 _ _ c.receive_block.ensures

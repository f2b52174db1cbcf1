use Rattle.std.proofs.Common.{arith, ◌∙◌}
use Rattle.hex_store.proofs.BlockLaws.{store_turn, store_end}
use Rattle.hex_store.proofs.store_pairs.Goals as goal

pub loop-k-preserved : goal.loop-k-preserved
loop-k-preserved c =
    let l = c.loop-k in
    let a = c.args in
    rw (l.invariant, c.byte_of.ensures) (store_turn a.chars.now a.part.now l.k c.requires (omega arith))

pub returns : goal.returns
returns c = c.loop-k.invariant ∙ store_end c.args.chars.now c.args.part.now c.loop-k.k c.requires (omega arith)

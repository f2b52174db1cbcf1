use Rattle.std.proofs.Common.{arith, ◌+◌, ◌*◌, replicate, ◌∙◌}
use Rattle.hex_digits.proofs.DigitLaws.{digit_in}
use Rattle.hex_store.proofs.BlockLaws.{store_turn, store_end}
use Rattle.hex_store.proofs.block_of.Goals as goal

pub loop-k-preserved : goal.loop-k-preserved
loop-k-preserved c =
    let l = c.loop-k in
    let cs = c.args.chars.now in
    let high = c.value_of.ensures.0 (digit_in cs (2 * l.k) c.requires.1 (omega arith)) in
    let low = c.value_of-in-loop-k.ensures.0 (digit_in cs (2 * l.k + 1) c.requires.1 (omega arith)) in
    rw (high, low, l.invariant) (store_turn cs (replicate 16 0) l.k (omega arith) (omega arith))

pub returns : goal.returns
returns c = c.loop-k.invariant ∙ store_end c.args.chars.now (replicate 16 0) c.loop-k.k (omega arith) (omega arith)

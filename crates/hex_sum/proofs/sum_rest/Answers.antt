use Rattle.std.proofs.Common.{arith}
use Rattle.hex_sum.proofs.SumLaws.{weight_tells}
use Rattle.hex_sum.proofs.sum_rest.Goals as goal

pub returns-then-chars-lt-BLOCK : goal.returns-then-chars-lt-BLOCK
returns-then-chars-lt-BLOCK c =
    let w = c.weigh.ensures in
    (rw w.0 (weight_tells c.args.chars.now c.requires.1), omega (arith, w.1))

-- With all bits turned over, a clear bit is the next one set.
use Rattle.std.proofs.Common.{◌+◌, ap, ◌∙◌, arith}
use Rattle.bit_runs.proofs.NextLaws.{run_flipped}
use Rattle.bit_runs.proofs.next_clear.Goals as goal

pub returns : goal.returns
returns c = c.next_bit.ensures ∙ ap (λ n. c.args.from + n) (run_flipped _ _ _ (omega arith))

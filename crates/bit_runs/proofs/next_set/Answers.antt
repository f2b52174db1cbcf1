-- Nothing is turned over.
use Rattle.bit_runs.proofs.NextLaws.{flipped_none}
use Rattle.bit_runs.proofs.next_set.Goals as goal

pub returns : goal.returns
returns c = rw (flipped_none c.args.marks.now) at c.next_bit.ensures

-- No mark was set in the blocks so far.
use Rattle.std.proofs.Common.{◌≡◌, ◌+◌, ◌*◌, drop}
use Rattle.window.specs.Walks.{unmarked}
use Rattle.mark_runs.proofs.skip_free.Given as goal

abbrev pub invariant-loop-k : goal.invariant-loop-k
invariant-loop-k l = l.at + 16 * l.k + unmarked (drop (l.at + 16 * l.k) l.marks) ≡ l.at + unmarked (drop l.at l.marks)

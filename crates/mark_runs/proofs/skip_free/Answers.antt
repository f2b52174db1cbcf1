-- A block without a mark is passed.
use Rattle.std.proofs.Common.{◌≡◌, true, ◌+◌, ◌*◌, sym, ◌∙◌, take, drop, arith}
use native.Mathlib.Nat.{add-sub_cancel_left}
use Rattle.window.specs.Marks.{is_free}
use Rattle.mark_bytes.proofs.MarkSearchLaws.{free_block}
use Rattle.mark_runs.proofs.skip_free.Goals as goal

pub loop-k-preserved : goal.loop-k-preserved
loop-k-preserved c =
    let ms = c.args.marks.now in
    let from = c.args.at + 16 * c.loop-k.k in
    let f : is_free (take 16 (drop from ms)) ≡ true = rw add-sub_cancel_left at (sym c.is_free.ensures ∙ c.if-not-is_free.false) in
    free_block ms from 16 _ (omega arith) (omega arith) f ∙ c.loop-k.invariant

-- The first block and the last say what all marks say.
use Rattle.std.proofs.Common.{length, ◌-◌, ap, sym, ◌∙◌, arith}
use Rattle.lists.proofs.PartLaws.{rest}
use Rattle.window.specs.Marks.{is_free}
use Rattle.mark_bytes.proofs.CoverLaws.{free_from}
use Rattle.mark_runs.proofs.all_free.Goals as goal

pub returns-then-is_free : goal.returns-then-is_free
returns-then-is_free c =
    let ms = c.args.part.now in
    let last = length ms - 16 in
    c.is_free-then-is_free.ensures ∙ ap is_free (rest last ms) ∙ free_from last 16 ms (omega arith) (sym c.is_free-2.ensures ∙ c.if-is_free.true)

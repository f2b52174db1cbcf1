-- A full part is a run, and else the place of the first mark that is not set is where the run ends.
use Rattle.std.proofs.Common.{◌≡◌, rules, position, eqb, ap, ◌∙◌, take, drop, ◌+◌, ◌-◌}
use Rattle.std.proofs.lemmas.Iterator.{YieldsList-from_slice}
use Rattle.std.proofs.lemmas.Iterator.Search.{position_from_yields_List}
use borrow.Author.Tests.{tests}
use Rattle.mark_bytes.proofs.MarkSearchLaws.{full_end, place_found, run_place, run_part}
use Rattle.mark_runs.proofs.end_byte.Goals as goal

pub returns-then-is_full : goal.returns-then-is_full
returns-then-is_full c = full_end _ _ _ c.requires.0 c.requires.1 (c.is_full.ensures c.if-is_full.true)

pub returns : goal.returns
returns c =
    let ms = take (c.args.to - c.args.at) (drop c.args.at c.args.marks.now) in
    let e : c.position-ahead.result ≡ position (λ m. eqb m 0) ms
    = position_from_yields_List (λ m. eqb m 0) _ _ _ c.position-ahead.ensures.ran (YieldsList-from_slice ms cc) (λ x b q k. search (rules, tests)) in
    ap (λ n. c.args.at + n) (c.unwrap_or.ensures ∙ rw e (place_found (λ m. eqb m 0) ms ∙ run_place ms ∙ run_part _ _ _ c.requires.0))

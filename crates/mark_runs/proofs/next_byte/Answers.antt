-- The place of the first mark that is set is how many stand before it.
use Rattle.std.proofs.Common.{ℕ, ◌≡◌, rules, position, eqb, not, length, ap, ◌∙◌, take, drop, ◌+◌, ◌-◌}
use Rattle.std.proofs.lemmas.Iterator.{YieldsList-from_slice}
use Rattle.std.proofs.lemmas.Iterator.Search.{position_from_yields_List}
use borrow.Author.Tests.{tests}
use Rattle.lists.proofs.PartLaws.{rest}
use Rattle.window.specs.Walks.{unmarked}
use Rattle.mark_bytes.proofs.MarkSearchLaws.{place_found, unmarked_place}
use Rattle.mark_runs.proofs.next_byte.Goals as goal

pub returns : goal.returns
returns c =
    let from = c.skip_free-from.result in
    let ms = take (length c.args.marks.now - from) (drop from c.args.marks.now) in
    let set = λ (m : ℕ). not (eqb m 0) in
    let e : c.position-ahead.result ≡ position set ms
    = position_from_yields_List set _ _ _ c.position-ahead.ensures.ran (YieldsList-from_slice ms cc) (λ x b q k. search (rules, tests)) in
    ap (λ n. from + n) (c.unwrap_or.ensures ∙ rw e (place_found set ms ∙ unmarked_place ms ∙ ap unmarked (rest from c.args.marks.now))) ∙ c.skip_free-from.ensures.1

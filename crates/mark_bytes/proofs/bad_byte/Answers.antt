-- The place of the first bad mark.
use Rattle.std.proofs.Common.{◌≡◌, rules, position, ltb, ◌∙◌}
use Rattle.std.proofs.lemmas.Iterator.{YieldsList-from_slice}
use Rattle.std.proofs.lemmas.Iterator.Search.{position_from_yields_List}
use borrow.Author.Tests.{tests}
use Rattle.mark_bytes.proofs.MarkSearchLaws.{place_found, bad_place}
use Rattle.mark_bytes.proofs.bad_byte.Goals as goal

pub returns : goal.returns
returns c =
    let ms = c.args.marks.now in
    let e : c.position-bad.result ≡ position (ltb 1) ms
    = position_from_yields_List (ltb 1) _ _ _ c.position-bad.ensures.ran (YieldsList-from_slice ms cc) (λ x b q k. search (rules, tests)) in
    c.unwrap_or.ensures ∙ rw e (place_found (ltb 1) ms ∙ bad_place ms)

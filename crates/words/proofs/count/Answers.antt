use Rattle.std.proofs.Common.{◌≡◌, ◌∙◌, ap, rules, tests, not, length, unwrap_or}
use Rattle.std.specs.Prelude.{position}
use Rattle.std.proofs.lemmas.Iterator.{YieldsList-from_slice}
use Rattle.std.proofs.lemmas.Iterator.Search.{position_from_yields_List}
use Rattle.words.proofs.CountLaws.{count_position}
use Rattle.words.proofs.count.Goals as goal

pub returns-clause-value : goal.returns-clause-value
returns-clause-value g c p tells =
    let chars = c.args.chars.now in
    let e : c.position.result ≡ position (λ x. not (p x)) chars
    = position_from_yields_List (λ x. not (p x)) _ _ c.position.result c.position.ensures.ran (YieldsList-from_slice chars cc) (λ x b q k. search (rules, tests)) in
    c.unwrap_or.ensures ∙ ap (λ r. unwrap_or r (length chars)) e ∙ count_position p chars

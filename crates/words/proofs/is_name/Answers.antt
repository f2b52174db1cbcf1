use Rattle.std.proofs.Common.{◌≡◌, ◌∙◌, sym, rules, tests, arith}
use Rattle.std.proofs.lemmas.Iterator.{YieldsList-from_slice}
use Rattle.std.proofs.lemmas.Iterator.Search.{all_from_yields_List}
use Rattle.std.specs.List.{list_all}
use Rattle.words.specs.Words.{is_alnum}
use Rattle.words.proofs.NameLaws.{name_all}
use Rattle.words.proofs.is_name.Goals as goal

pub returns : goal.returns
returns c =
    let w = c.args.word.now in
    let e : c.all.result ≡ list_all is_alnum w
    = all_from_yields_List is_alnum _ _ c.all.result c.all.ensures.ran (YieldsList-from_slice _ c.iter.ensures.rest) (λ x b q k. search (rules, tests)) in
    e ∙ name_all w (omega arith) (omega arith) (sym c.is_letter.ensures ∙ c.if-not-is_letter.false)

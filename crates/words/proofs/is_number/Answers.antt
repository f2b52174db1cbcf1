use Rattle.std.proofs.Common.{◌≡◌, ◌∙◌, rules, tests, arith, drop, take, length, ◌<◌, ◌≤◌, ◌-◌}
use Rattle.std.proofs.lemmas.Iterator.{YieldsList-from_slice}
use Rattle.std.proofs.lemmas.Iterator.Search.{all_from_yields_List}
use Rattle.std.proofs.lemmas.Bool.Decides.{nat_tests}
use Rattle.lists.proofs.PartLaws.{rest}
use Rattle.std.specs.List.{list_all}
use Rattle.hex_digits.specs.Digits.{is_hex}
use Rattle.words.proofs.NameLaws.{number_all}
use Rattle.words.proofs.is_number.Goals as goal

pub returns : goal.returns
returns c =
    let w = c.args.word.now in
    let some : 0 < length (take (length w - 1) (drop 1 w)) = grind (arith, nat_tests) in
    let most : length (take (length w - 1) (drop 1 w)) ≤ 8 = omega arith in
    let e : c.all.result ≡ list_all is_hex (take (length w - 1) (drop 1 w))
    = all_from_yields_List is_hex _ _ c.all.result c.all.ensures.ran (YieldsList-from_slice _ c.iter.ensures.rest) (λ x b q k. search (rules, tests)) in
    (rw (rest 1 w) at e) ∙ number_all w (rw (rest 1 w) at some) (rw (rest 1 w) at most) (omega arith)

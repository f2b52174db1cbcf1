use Rattle.std.proofs.Common.{not, rules}
use Rattle.symbol_table.proofs.SymbolLaws.{gap_alone, gap_then}
use Rattle.symbol_table.proofs.next_part.Goals as goal

pub returns-then-from-text : goal.returns-then-from-text
returns-then-from-text g c gap tells =
    gap_alone gap c.args.text.now c.args.at c.count.result c.requires.within (c.count.ensures.value gap tells) (search rules)

pub returns : goal.returns
returns g c gap tells =
    gap_then gap c.args.text.now c.args.at c.count.result c.requires.within (c.count.ensures.value gap (search rules)) c.count-2.result
    c.count.ensures.within (search rules) (c.count-2.ensures.value (λ d. not (gap d)) (λ d b h. search rules))

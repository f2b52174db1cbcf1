use Rattle.words.specs.Words.{is_break}
use Rattle.std.proofs.Common.{rules}
use Rattle.symbol_table.proofs.SymbolLaws.{found_within}
use Rattle.symbol_table.proofs.next_line.Goals as goal

pub returns-clause-within : goal.returns-clause-within
returns-clause-within c =
    found_within is_break c.args.text.now c.args.at c.next_part.result c.requires (search rules)

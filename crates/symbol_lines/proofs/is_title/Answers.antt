use Rattle.std.proofs.Common.{◌∙◌, sym, rules}
use Rattle.symbol_lines.proofs.LineLaws.{title_loose, title_empty, title_one, title_more, title_two}
use Rattle.symbol_lines.proofs.is_title.Goals as goal

pub returns-then-not-is_tight : goal.returns-then-not-is_tight
returns-then-not-is_tight c = title_loose c.args.line.now (search rules)

pub returns-in_default : goal.returns-in_default
returns-in_default c = title_empty c.args.line.now (search rules) c.in_default.ensures.first

pub returns-in_default-next_word : goal.returns-in_default-next_word
returns-in_default-next_word c = title_one c.args.line.now (search rules) c.in-Some.dollars c.in-Some.ensures.first c.in_default-next_word.ensures.first

pub returns-then-is_some : goal.returns-then-is_some
returns-then-is_some c =
    title_more c.args.line.now (search rules) c.in-Some.dollars c.in-Some.ensures.first c.in-Some-next_word.name c.in-Some-next_word.ensures.first
    c.next_word-3.result c.next_word-3.ensures.first (search rules)

pub returns-then-is_last : goal.returns-then-is_last
returns-then-is_last c =
    c.is_name.ensures ∙ (rw (sym c.is_last.ensures ∙ c.if-is_last.true) at (
    title_two c.args.line.now (search rules) c.in-Some.dollars c.in-Some.ensures.first c.in-Some-next_word.name c.in-Some-next_word.ensures.first
    c.next_word-3.result c.next_word-3.ensures.first (search rules)))

pub returns-else-is_last : goal.returns-else-is_last
returns-else-is_last c =
    c.if-is_last.false ∙ (rw (sym c.is_last.ensures ∙ c.if-is_last.false) at (
    title_two c.args.line.now (search rules) c.in-Some.dollars c.in-Some.ensures.first c.in-Some-next_word.name c.in-Some-next_word.ensures.first
    c.next_word-3.result c.next_word-3.ensures.first (search rules)))

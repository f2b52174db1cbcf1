-- `next_counted` meets its contract: separators are passed, and the line behind them ends where its count says.
use Rattle.std.proofs.Common.{ap, arith}
use Rattle.text.specs.Finds.{leading}
use Rattle.formats.specs.Choices.{format_of}
use Rattle.lists.proofs.PartLaws.{rest}
use Rattle.text.proofs.FindLaws.{next_nothing, next_at}
use Rattle.line_counts.proofs.CountLaws.{by_count}
use Rattle.line_counts.proofs.next_counted.Goals as goal

pub returns-then-from-text : goal.returns-then-from-text
returns-then-from-text c =
    let a = c.args in
    let gap = (format_of a.format).gap in
    let gaps = ap (leading gap) (rest a.at a.text.now) in
    next_nothing gap a.text.now a.at (omega arith)

pub size_at-requires : goal.size_at-requires
size_at-requires c =
    let a = c.args in
    let gap = (format_of a.format).gap in
    let gaps = ap (leading gap) (rest a.at a.text.now) in
    omega (arith, (by_count a.format a.text.now a.at c.requires.0 (omega arith) c.requires.1).four)

pub returns : goal.returns
returns c =
    let a = c.args in
    let gap = (format_of a.format).gap in
    let gaps = ap (leading gap) (rest a.at a.text.now) in
    let ends = (by_count a.format a.text.now a.at c.requires.0 (omega arith) c.requires.1).end_is in
    let next = next_at gap a.text.now a.at (omega arith) in
    cc

use Rattle.std.proofs.Common.{◌≡◌, ◌∙◌, sym, rules, arith, Err}
use Rattle.symbols.specs.declared.Fault.TheVariants.{Unpaired}
use Rattle.symbols.specs.Blocks.{line_at, row23}
use Rattle.symbols.proofs.BlockLaws.{line_22, line_23, line_24, line_none, line_count}
use Rattle.symbols.proofs.symbols_of.Goals as goal

pub returns-in_err-count-clause-row : goal.returns-in_err-count-clause-row
returns-in_err-count-clause-row c =
    let a = c.args in
    let r = line_22 a.text.now a.begin a.seen (line_at a.text.now a.line.from a.line.to) (sym c.in_err-count.ensures.ok_part ∙ c.pairs_of.ensures.count) in
    let h : c.from_residual.result ≡ Err Unpaired = search rules in
    rw h r

pub returns-then-repeats-clause-row : goal.returns-then-repeats-clause-row
unfolding row23
returns-then-repeats-clause-row c =
    let a = c.args in
    line_23 a.text.now a.begin a.seen (line_at a.text.now a.line.from a.line.to) c.in_ok-count.count
    (sym c.in_ok-count.ensures.ok_part ∙ c.pairs_of.ensures.count) (search rules)

pub returns-then-seen-count-gt-SYMBOLS-clause-row : goal.returns-then-seen-count-gt-SYMBOLS-clause-row
unfolding row23
returns-then-seen-count-gt-SYMBOLS-clause-row c =
    let a = c.args in
    line_24 a.text.now a.begin a.seen (line_at a.text.now a.line.from a.line.to) c.in_ok-count.count
    (sym c.in_ok-count.ensures.ok_part ∙ c.pairs_of.ensures.count) (search rules) (omega arith)

pub returns-clause-count : goal.returns-clause-count
returns-clause-count c =
    let a = c.args in (
      line_count a.text.now a.begin a.seen (line_at a.text.now a.line.from a.line.to) c.in_ok-count.count
          (sym c.in_ok-count.ensures.ok_part ∙ c.pairs_of.ensures.count),
      omega arith,
    )

pub returns-clause-fine : goal.returns-clause-fine
unfolding row23
returns-clause-fine c =
    let a = c.args in
    line_none a.text.now a.begin a.seen (line_at a.text.now a.line.from a.line.to) c.in_ok-count.count
    (sym c.in_ok-count.ensures.ok_part ∙ c.pairs_of.ensures.count) (search rules) (omega arith)

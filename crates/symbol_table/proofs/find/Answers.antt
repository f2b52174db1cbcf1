use Rattle.std.proofs.Common.{◌∙◌, sym, refl, ap, rules, arith}
use Rattle.symbol_table.specs.Symbols.{symbols_in, sought}
use Rattle.symbol_table.proofs.SymbolLaws.{find_odd, find_here, find_on}
use Rattle.symbol_table.proofs.find.Goals as goal

pub loop-key-init : goal.loop-key-init
unfolding symbols_in
loop-key-init c = (omega arith, refl)

pub returns-in_default-next_word : goal.returns-in_default-next_word
returns-in_default-next_word c =
    let l = c.loop-key in
    ap sought (sym (find_odd c.args.table.now c.args.name.now l.at l.invariant.0 c.in-Some.key c.in-Some.ensures.first c.in_default-next_word.ensures.first) ∙ l.invariant.1)

pub returns-then-eq : goal.returns-then-eq
returns-then-eq c =
    let l = c.loop-key in
    rw c.number_word.ensures
    (ap sought (sym (find_here c.args.table.now c.args.name.now l.at l.invariant.0 c.in-Some.key c.in-Some.ensures.first c.in-Some-next_word.value
    c.in-Some-next_word.ensures.first (search rules)) ∙ l.invariant.1))

pub loop-key-preserved : goal.loop-key-preserved
loop-key-preserved c =
    let l = c.loop-key in (
      search rules,
      sym (find_on c.args.table.now c.args.name.now l.at l.invariant.0 c.in-Some.key c.in-Some.ensures.first c.in-Some-next_word.value
          c.in-Some-next_word.ensures.first (search rules)) ∙ l.invariant.1,
    )

use Rattle.std.proofs.Common.{◌∙◌, sym, refl, rules, arith}
use Rattle.symbol_lines.specs.Lines.{parts_of}
use Rattle.symbols.proofs.AgainLaws.{again_end, again_odd, again_here, again_on}
use Rattle.symbols.proofs.repeats.Goals as goal

pub loop-name-init : goal.loop-name-init
unfolding parts_of
loop-name-init c = (omega arith, refl)

pub returns-in_default-next_word : goal.returns-in_default-next_word
returns-in_default-next_word c =
    let a = c.args in
    let l = c.loop-name in
    sym (again_odd a.text.now a.begin a.place a.line.now l.at l.invariant.0 c.in-Some.name c.in-Some.ensures.first c.in_default-next_word.ensures.first) ∙ l.invariant.1

pub returns-then-is_some : goal.returns-then-is_some
returns-then-is_some c =
    let a = c.args in
    let l = c.loop-name in
    sym (again_here a.text.now a.begin a.place a.line.now l.at l.invariant.0 c.in-Some.name c.in-Some.ensures.first c.in-Some-next_word.value c.in-Some-next_word.ensures.first
    c.find-known.result c.find-known.ensures (search rules)) ∙ l.invariant.1

pub loop-name-preserved : goal.loop-name-preserved
loop-name-preserved c =
    let a = c.args in
    let l = c.loop-name in (
      search rules,
      sym (again_on a.text.now a.begin a.place a.line.now l.at l.invariant.0 c.in-Some.name c.in-Some.ensures.first c.in-Some-next_word.value c.in-Some-next_word.ensures.first
          c.find-known.result c.find-known.ensures (search rules)) ∙ l.invariant.1,
    )

pub returns : goal.returns
returns c =
    let a = c.args in
    let l = c.loop-name in
    sym (again_end a.text.now a.begin a.place a.line.now l.at (search rules)) ∙ l.invariant.1

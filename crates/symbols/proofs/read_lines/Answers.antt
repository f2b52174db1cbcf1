use Rattle.std.proofs.Common.{◌≡◌, ℕ, length, length-take, length-drop, rules, arith}
use Rattle.text.proofs.FindLaws.{part}
use Rattle.symbols.specs.Blocks.{row_of}
use Rattle.symbols.proofs.BlockLaws.{last_long, row_some, block_table, block_bad, block_on}
use Rattle.symbols.proofs.read_lines.Goals as goal

pub returns-then-is_last-clause-block : goal.returns-then-is_last-clause-block
returns-then-is_last-clause-block c =
    block_table c.args.text.now c.args.begin c.loop-line.invariant c.in-Some.line c.in-Some.ensures.first (search rules)

pub returns-then-is_last-clause-within : goal.returns-then-is_last-clause-within
returns-then-is_last-clause-within c =
    let t = c.args.text.now in
    let w = c.in-Some.line in
    let e : length (part t w.from w.to) ≡ 2 = last_long (part t w.from w.to) (search rules) in
    (omega (arith, c.in-Some.ensures.within), omega (arith, c.in-Some.ensures.within, length-take {A = ℕ}, length-drop {A = ℕ}))

pub returns-in-Err-clause-block : goal.returns-in-Err-clause-block
returns-in-Err-clause-block c =
    rw (c.refuse.ensures, c.row.ensures)
    (block_bad c.args.text.now c.args.begin c.loop-line.invariant c.in-Some.line c.in-Some.ensures.first (search rules)
    (row_of c.in-Err.fault) c.in-Err.ensures.row (row_some c.in-Err.fault))

pub loop-line-preserved : goal.loop-line-preserved
loop-line-preserved c =
    block_on c.args.text.now c.args.begin c.loop-line.invariant c.in-Some.line c.in-Some.ensures.first (search rules)
    c.in-Ok.ensures.fine c.in-Ok.count c.in-Ok.ensures.count.0

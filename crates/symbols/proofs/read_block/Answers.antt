use Rattle.std.proofs.Common.{◌≡◌, ◌∙◌, sym, rules, length}
use Rattle.symbols.specs.Blocks.{bad}
use Rattle.symbols.proofs.BlockLaws.{block_empty, block_untitled, block_titled}
use Rattle.symbols.proofs.read_block.Goals as goal

pub returns-in_err-title-clause-block : goal.returns-in_err-title-clause-block
returns-in_err-title-clause-block c =
    let h : c.from_residual.result ≡ bad 22 0 (length c.args.text.now) = search rules in
    h ∙ block_empty c.args.text.now (sym c.in_err-title.ensures.ok_part ∙ c.next_line.ensures.first)

pub returns-then-not-is_title-clause-block : goal.returns-then-not-is_title-clause-block
returns-then-not-is_title-clause-block c =
    rw c.refuse-then-not-is_title.ensures
    (block_untitled c.args.text.now c.in_ok-title.title (sym c.in_ok-title.ensures.ok_part ∙ c.next_line.ensures.first) (search rules))

pub returns-clause-block : goal.returns-clause-block
returns-clause-block c =
    c.read_lines.ensures.block
    ∙ block_titled c.args.text.now c.in_ok-title.title (sym c.in_ok-title.ensures.ok_part ∙ c.next_line.ensures.first) (search rules)

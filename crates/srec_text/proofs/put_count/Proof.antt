-- `put_count` meets its contract: its test is the definition's.
use mathlib.Core.Path.{sym, ap, ◌∙◌}
use native.Mathlib.Nat.{add-zero}
use native.Mathlib.Omega.{arith}
use mathlib.Core.List.{[]}
use lib.ListN.{length}
use borrow.Author.Rules.{rules}
use Rattle.lists.proofs.OverLaws.{over_none}
use Rattle.srec_encode.proofs.EncodeLaws.{length_line}
use Rattle.srec_text.proofs.PieceLaws.{count_written, count_left_out}
use Rattle.srec_text.proofs.put_count.Statement.{statement}
use Rattle.srec_text.proofs.put_count.Tie as tie

returns : tie.Need-returns-then-records-gt-MOST_COUNTED
returns c =
    let a = c.args in
    rw (count_left_out a.records c.if-records-gt-MOST_COUNTED.true) (sym (add-zero a.at), sym (over_none a.out.now a.at))

put-line-requires : tie.Need-put_line-requires
put-line-requires c κs =
    let n = c.args.records in
    let e = ap length (count_written n c.if-records-gt-MOST_COUNTED.false) ∙ length_line 53 2 n [] in
    ((omega arith, omega arith), omega (arith, e, c.requires))

returns-2 : tie.Need-returns
returns-2 c =
    let n = c.args.records in
    rw (count_written n c.if-records-gt-MOST_COUNTED.false, length_line 53 2 n []) c.put_line.ensures

pub put_count_spec : {M : Type 1} → statement M
put_count_spec =
    tie.close
    (tie.spec
    returns
    (λ c. search rules)
    (λ c. search rules)
    put-line-requires
    (λ c. search rules)
    returns-2)

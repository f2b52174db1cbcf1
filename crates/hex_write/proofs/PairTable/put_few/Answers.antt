use Rattle.std.proofs.Common.{◌≡◌, get_or, rules, ◌∙◌}
use Rattle.hex_digits.proofs.DigitTableLaws.{pair_at}
use Rattle.hex_write.proofs.PairTable.put_few.Goals as goal

pub put_each-requires-clause-digits : goal.put_each-requires-clause-digits
put_each-requires-clause-digits c = λ b r h p.
    let t = c.args.self.now in
    let e : r ≡ get_or t.entries b 0 = search rules in
    e ∙ rw t.right (pair_at b h)

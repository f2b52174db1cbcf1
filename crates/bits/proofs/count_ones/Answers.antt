-- The sum of the ones of each byte.
use Rattle.std.proofs.Common.{◌≡◌, rules, arith, sum_by, sym, ◌∙◌}
use Rattle.std.specs.Int.Count.{ones}
use Rattle.bits.specs.Bits.{ones_of}
use Rattle.bits.proofs.CountLaws.{ones_sum}
use Rattle.bits.proofs.count_ones.Goals as goal

pub returns : goal.returns
returns c =
    let bytes = c.args.marks.now in
    let e : c.sum.result ≡ sum_by ones bytes = search rules in
    let all : c.sum.result ≡ ones_of bytes = e ∙ sym (ones_sum bytes) in
    omega arith

use Rattle.std.proofs.Common.{drop}
use Rattle.lists.proofs.PartLaws.{rest}
use Rattle.hex_sum.specs.Sums.{AreDigits}
use Rattle.hex_sum.proofs.SumLaws.{digits_join}
use Rattle.hex_sum.proofs.FaultLaws.{not_true}
use Rattle.hex_sum.proofs.are_digits.Goals as goal

pub returns : goal.returns
returns c e =
    let cs = c.args.chars.now in
    let d = c.has_fault.ensures (not_true _ e) in
    let second : AreDigits (drop 16 cs) = rw (rest 16 cs) at d.1 in
    digits_join 16 cs d.0 second

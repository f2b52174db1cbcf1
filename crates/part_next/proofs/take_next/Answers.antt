-- A good line that ends where its count says is the next one.
use native.Mathlib.Omega.{arith}
use Rattle.text.proofs.FindLaws.{from_is}
use Rattle.srec.specs.Lines.{is_end}
use Rattle.part_next.proofs.TakeLaws.{sure_next}
use Rattle.part_next.proofs.take_next.Goals as goal

pub returns : goal.returns
returns c =
    let a = c.args in
    let e = c.counted_end-to.ensures in
    let begins = from_is is_end a.part.now a.at _ c.count_gaps.ensures.0 in
    sure_next _ _ a.part.now _ _ _ c.in-Some.ensures a.at begins e.0 (omega (arith, e.1)) e.2

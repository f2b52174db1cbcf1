-- The byte that is read holds the next set bit, or is passed.
use Rattle.std.proofs.Common.{◌<◌, get_or, bit_xor, arith, ◌∙◌}
use Rattle.bits.specs.Steps.{flipped}
use Rattle.bit_runs.proofs.NextLaws.{flipped_at, flipped_byte, inside_byte, turn_on, turn_end}
use Rattle.bit_runs.proofs.next_bit.Goals as goal

pub overflow_add-first-then-rest-ne0 : goal.overflow_add-first-then-rest-ne0
overflow_add-first-then-rest-ne0 c =
    let byte : bit_xor (get_or c.args.marks.now c.loop-k.k 0) c.args.flip < 256 = flipped_byte _ _ (omega (arith, c.type_inv.marks c.loop-k.k)) c.ranges.flip.fits in
    omega (arith, inside_byte _ c.loop-k.low byte c.if-rest-ne0.true)

pub returns-then-rest-ne0 : goal.returns-then-rest-ne0
returns-then-rest-ne0 c =
    let byte : bit_xor (get_or c.args.marks.now c.loop-k.k 0) c.args.flip < 256 = flipped_byte _ _ (omega (arith, c.type_inv.marks c.loop-k.k)) c.ranges.flip.fits in
    c.min.ensures
    ∙ turn_end (flipped c.args.flip c.args.marks.now) c.args.from c.args.to c.loop-k.k c.loop-k.low _ c.requires.0 c.loop-k.auto.k (omega arith) c.loop-k.invariant.0
    (flipped_at c.args.flip c.args.marks.now c.loop-k.k (omega arith)) byte c.if-rest-ne0.true
    ∙ c.loop-k.invariant.1

pub loop-k-preserved : goal.loop-k-preserved
loop-k-preserved c = (
  omega arith,
  turn_on (flipped c.args.flip c.args.marks.now) c.args.from c.args.to c.loop-k.k c.loop-k.low _ c.requires.0 c.loop-k.auto.k (omega arith) c.loop-k.invariant.0
      (flipped_at c.args.flip c.args.marks.now c.loop-k.k (omega arith)) c.if-rest-ne0.false ∙ c.loop-k.invariant.1,
)

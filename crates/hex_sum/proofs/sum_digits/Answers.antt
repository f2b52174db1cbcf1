use Rattle.std.proofs.Common.{◌≡◌, ◌-◌, ◌*◌, ◌%◌, length, drop, sym, ap, arith, ◌∙◌, length-append}
use Rattle.std.proofs.lemmas.List.{length_push}
use Rattle.std.specs.Slice.Iter.{chunks_exact_rest}
use Rattle.hex_digits.specs.Tables.{weighed}
use Rattle.hex_read.proofs.TurnLaws.{behind_part}
use Rattle.hex_sum.proofs.SumLaws.{chunk_turn, weight_tells}
use Rattle.hex_sum.proofs.sum_digits.Goals as goal

pub loop-block-preserved : goal.loop-block-preserved
loop-block-preserved c =
    let l = c.loop-block in
    let cs = c.args.chars.now in
    let s = c.in-Some.ensures.steps in
    let p = c.in-Some.block.now in
    let whole : length p ≡ 32 = s.1.1 ∙ l.invariant.by_block in
    let n = ap length s.1.0 ∙ length-append p _ in
    let m = length_push l.yielded c.in-Some.block in
    let b = c.sum_block-sum.ensures in
    record {
      by_block = s.0 ∙ l.invariant.by_block;
      left = rw m (behind_part 32 cs p _ (length l.yielded) (sym l.invariant.left ∙ s.1.0) whole);
      long = omega arith;
      small = omega (arith, b.1);
      so_far = chunk_turn cs p (chunks_exact_rest c.next.new.self) l.sum c.sum_block-sum.result whole b.0 (λ t h. l.invariant.so_far t (rw s.1.0 h));
    }

pub returns : goal.returns
returns c =
    let l = c.loop-block in
    let cs = c.args.chars.now in
    let s = c.in-None.ensures.steps in
    let i : length cs - length cs % 32 ≡ 32 * length l.yielded = omega (arith, s.1.0, l.invariant.by_block, l.invariant.long) in
    let r : c.remainder-rest.result.now ≡ chunks_exact_rest l.block-iterator
    = c.remainder-rest.ensures ∙ c.chunks_exact-blocks.ensures.remainder ∙ ap (λ n. drop n cs) i ∙ sym l.invariant.left in
    let even : length (chunks_exact_rest l.block-iterator) % 2 ≡ 0 = omega (arith, l.invariant.long, c.requires.1) in
    let w : c.weigh.result ≡ weighed (chunks_exact_rest l.block-iterator) = rw r at c.weigh.ensures.0 in
    (l.invariant.so_far c.weigh.result (rw w (weight_tells (chunks_exact_rest l.block-iterator) even)), omega (arith, c.weigh.ensures.1, ap length r))

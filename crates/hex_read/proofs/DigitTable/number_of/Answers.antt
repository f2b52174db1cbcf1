use Rattle.std.proofs.Common.{◌≡◌, length, ap, arith, ◌∙◌, sym, length-append}
use Rattle.std.proofs.lemmas.List.{length_push}
use Rattle.hex_digits.specs.Digits.{bytes}
use Rattle.hex_digits.specs.Numbers.{number_after}
use Rattle.hex_digits.proofs.NumberLaws.{one_more, three_bytes}
use Rattle.hex_digits.proofs.PairLaws.{pairs_end}
use Rattle.std.specs.Slice.Iter.{chunks_exact_rest}
use Rattle.hex_read.proofs.TurnLaws.{number_turn}
use Rattle.hex_read.proofs.DigitTable.number_of.Goals as goal

pub overflow_mul-a : goal.overflow_mul-a
overflow_mul-a c =
    let l = c.loop-pair in
    let s = c.in-Some.ensures.steps in
    let n = ap length s.1.0 ∙ length-append c.in-Some.pair.now _ in
    record { fits = omega (arith, n, three_bytes l.a (length l.yielded) l.invariant.small (omega arith)) }

pub loop-pair-preserved : goal.loop-pair-preserved
loop-pair-preserved c =
    let l = c.loop-pair in
    let s = c.in-Some.ensures.steps in
    let two : length c.in-Some.pair.now ≡ 2 = s.1.1 ∙ l.invariant.by_two in
    let k = length_push l.yielded c.in-Some.pair in
    let n = ap length s.1.0 ∙ length-append c.in-Some.pair.now _ in
    record {
      by_two = s.0 ∙ l.invariant.by_two;
      left = omega (arith, n, k);
      small = rw k (one_more l.a c.from.result (length l.yielded) l.invariant.small (omega arith));
      so_far = rw (c.from.ensures, c.byte_of.ensures) (number_turn l.a c.in-Some.pair.now (chunks_exact_rest c.next.new.self) two)
          ∙ ap (λ cs. number_after l.a (bytes cs)) (sym s.1.0) ∙ l.invariant.so_far;
    }

pub returns : goal.returns
returns c =
    let l = c.loop-pair in
    let s = c.in-None.ensures.steps in
    let e = pairs_end (chunks_exact_rest l.pair-iterator) 0 (omega (arith, s.1.0, l.invariant.by_two)) in
    (rw e at l.invariant.so_far)

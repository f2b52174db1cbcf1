use Rattle.std.proofs.Common.{◌≡◌, ◌≤◌, List, ℕ, length, take, drop, ap, arith, ◌∙◌, length-take-le, length-drop}
use Rattle.lists.proofs.PartLaws.{rest}
use Rattle.hex_digits.specs.Digits.{bytes}
use Rattle.hex_digits.specs.Numbers.{sum}
use Rattle.hex_digits.proofs.PairLaws.{length_bytes}
use Rattle.hex_sum.specs.Sums.{Tells}
use Rattle.hex_sum.proofs.SumLaws.{around_tells}
use Rattle.hex_sum.proofs.sum_around.Goals as goal

-- the block has sixteen bytes
sixteen : (cs block : List ℕ) → 34 ≤ length cs → block ≡ bytes (take 32 (drop 2 cs)) → length block ≡ 16
sixteen cs block n e =
    ap length e ∙ length_bytes 16 (take 32 (drop 2 cs)) (length-take-le 32 (drop 2 cs) (omega (arith, length-drop 2 cs)))

pub sum_bytes-requires : goal.sum_bytes-requires
sum_bytes-requires c = omega (arith, sixteen c.args.chars.now c.args.block.now c.requires.lengths.0 c.requires.are_digits.1)

pub overflow_add-result : goal.overflow_add-result
overflow_add-result c =
    let b = sixteen c.args.chars.now c.args.block.now c.requires.lengths.0 c.requires.are_digits.1 in
    record { fits = omega (arith, c.sum_bytes.ensures.1, c.sum_rest-last.ensures.1) }

pub overflow_add-result-2 : goal.overflow_add-result-2
overflow_add-result-2 c =
    let b = sixteen c.args.chars.now c.args.block.now c.requires.lengths.0 c.requires.are_digits.1 in
    record { fits = omega (arith, c.sum_bytes.ensures.1, c.sum_rest-last.ensures.1, c.weigh-first.ensures.1, length-take-le 2 c.args.chars.now) }

pub returns : goal.returns
returns c =
    let cs = c.args.chars.now in
    let d = c.requires.are_digits in
    let last : Tells c.sum_rest-last.result (drop 34 cs) = rw (rest 34 cs) at c.sum_rest-last.ensures.0 in
    rw c.weigh-first.ensures.0
    (around_tells cs c.sum_bytes.result c.sum_rest-last.result c.requires.lengths.0 d.0 (c.sum_bytes.ensures.0 ∙ ap sum d.1) last)

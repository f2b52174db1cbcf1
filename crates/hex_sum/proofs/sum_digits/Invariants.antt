-- What tells of the characters left tells, with the sum so far, of all.
use Rattle.std.proofs.Common.{◌≡◌, ℕ, ◌+◌, ◌*◌, ◌≤◌, length, drop}
use Rattle.std.specs.Slice.Iter.{chunks_exact_rest, chunks_exact_size}
use Rattle.hex_sum.specs.Sums.{Tells}
use Rattle.hex_sum.proofs.sum_digits.Given as goal

abbrev pub invariant-loop-block : goal.invariant-loop-block
invariant-loop-block l = record {
  by_block : chunks_exact_size l.block-iterator ≡ 32;
  left : chunks_exact_rest l.block-iterator ≡ drop (32 * length l.yielded) l.chars;
  long : 32 * length l.yielded + length (chunks_exact_rest l.block-iterator) ≡ length l.chars;
  small : l.sum ≤ 131072 * length l.yielded;
  so_far : (t : ℕ) → Tells t (chunks_exact_rest l.block-iterator) → Tells (l.sum + t) l.chars;
}

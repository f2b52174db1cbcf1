-- The number so far, followed by the bytes left, is the whole; k bytes are below 2 ^ (8 * k).
use Rattle.std.proofs.Common.{◌≡◌, ◌+◌, ◌*◌, ◌^◌, ◌<◌, length}
use Rattle.std.specs.Slice.Iter.{chunks_exact_rest, chunks_exact_size}
use Rattle.hex_digits.specs.Digits.{bytes}
use Rattle.hex_digits.specs.Numbers.{number, number_after}
use Rattle.hex_read.proofs.DigitTable.number_of.Given as goal

abbrev pub invariant-loop-pair : goal.invariant-loop-pair
invariant-loop-pair l = record {
  by_two : chunks_exact_size l.pair-iterator ≡ 2;
  left : 2 * length l.yielded + length (chunks_exact_rest l.pair-iterator) ≡ length l.chars;
  small : l.a < 2 ^ (8 * length l.yielded);
  so_far : number_after l.a (bytes (chunks_exact_rest l.pair-iterator)) ≡ number (bytes l.chars);
}

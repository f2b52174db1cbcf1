-- The digits of a byte as one number.
use mathlib.Core.Path.{◌≡◌}
use Prim.Native.Nat.{ℕ, ◌+◌, ◌*◌, ◌/◌, ◌%◌, ◌<◌}
use native.Mathlib.Omega.{arith}
use mathlib.Core.List.{[], ◌∷◌}
use lib.Bits.{bit_and}
use lib.Dec.{ltb, eqb, eqb→eq}
use borrow.Author.Tests.{ltb-true}
use Rattle.lists.proofs.TestLaws.{below, TTrue}
use Rattle.hex_digits.specs.Digits.{digit, digits_of}
use Rattle.hex_digits.proofs.DigitLaws.{low_small, high_small}
use Rattle.hex_digits.specs.Tables.{pair_of}

-- the halves of a byte, the first in the low byte
abbrev pub halves : ℕ → ℕ
halves b = b / 16 + 256 * (b % 16)

-- what `pair_of` makes of them: one computed test over all bytes
pub pair_by_bits : (b : ℕ) → b < 256 → halves b + 12336 + 7 * bit_and ((halves b + 1542) / 16) 257 ≡ digit (b / 16) + 256 * digit (b % 16)
unfolding digit
pair_by_bits b h =
    eqb→eq (halves b + 12336 + 7 * bit_and ((halves b + 1542) / 16) 257) (digit (b / 16) + 256 * digit (b % 16))
    (below (λ b. eqb (halves b + 12336 + 7 * bit_and ((halves b + 1542) / 16) 257) (digit (b / 16) + 256 * digit (b % 16))) 256 tt b h)

-- a digit is a character
digit_small : (n : ℕ) → n < 16 → digit n < 256
unfolding digit
digit_small n h = ltb-true (digit n) 256 (TTrue (below (λ n. ltb (digit n) 256) 16 tt n h))

-- a byte's pair of digits, one after the other
pub pair_digits : (b : ℕ) → b < 256 → pair_of b % 256 ∷ pair_of b / 256 ∷ [] ≡ digits_of (b ∷ [])
unfolding pair_of
pair_digits b h =
    let high = digit_small (b / 16) (high_small b h) in
    let low = digit_small (b % 16) (low_small b) in
    let first : (digit (b / 16) + 256 * digit (b % 16)) % 256 ≡ digit (b / 16) = omega arith in
    let second : (digit (b / 16) + 256 * digit (b % 16)) / 256 ≡ digit (b % 16) = omega arith in
    rw (first, second)

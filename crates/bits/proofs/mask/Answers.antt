-- A power of two below 2 ^ 9 is shifted without loss.
use Rattle.std.proofs.Common.{◌≡◌, ℕ, ◌*◌, ◌%◌, ◌^◌, ◌≤◌, arith}
use native.Mathlib.Nat.{one-mul, mod-eq_of_lt}
use lib.Pow.{pow_mono}
use Rattle.bits.proofs.mask.Goals as goal

shifted : (k : ℕ) → k ≤ 8 → 1 * 2 ^ k % 4294967296 ≡ 2 ^ k
shifted k h = let l : 2 ^ k ≤ 2 ^ 8 = pow_mono h in rw (one-mul (2 ^ k)) (mod-eq_of_lt (omega arith))

pub overflow_sub-result : goal.overflow_sub-result
overflow_sub-result c = rw (shifted c.args.low (omega arith), shifted c.args.high (omega arith)) (pow_mono (omega arith))

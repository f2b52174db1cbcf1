-- The first bytes of a number of four.
use mathlib.Core.Path.{◌≡◌}
use Prim.Native.Nat.{ℕ, zero, suc, ◌-◌, ◌*◌, ◌/◌, ◌^◌, ◌≤◌, ◌<◌}
use native.Mathlib.Omega.{arith}
use mathlib.Core.List.{[], ◌∷◌}
use lib.ListN.{take}
use Rattle.hex_digits.specs.Numbers.{number}

-- the number of the first w of four bytes is that of all four without the others
pub leading : (a b c d w : ℕ) → b < 256 → c < 256 → d < 256 → 2 ≤ w → w ≤ 4
    → number (a ∷ b ∷ c ∷ d ∷ []) / 2 ^ (8 * (4 - w)) ≡ number (take w (a ∷ b ∷ c ∷ d ∷ []))
leading a b c d zero hb hc hd l h = absurd (omega arith)
leading a b c d (suc zero) hb hc hd l h = absurd (omega arith)
leading a b c d (suc (suc zero)) hb hc hd l h = omega arith
leading a b c d (suc (suc (suc zero))) hb hc hd l h = omega arith
leading a b c d (suc (suc (suc (suc zero)))) hb hc hd l h = omega arith
leading a b c d (suc (suc (suc (suc (suc w))))) hb hc hd l h = absurd (omega arith)

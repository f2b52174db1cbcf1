-- Characters that are no digits, by ranges.
use mathlib.Core.Path.{◌≡◌, refl, ap}
use Prim.Native.Nat.{ℕ, ◌<◌}
use native.Mathlib.Omega.{arith}
use mathlib.Core.Bool.{Bool, true, false, not, ◌&&◌, ◌||◌}
use lib.Bits.{bit_or}
use lib.Dec.{T, leb}
use Rattle.lists.proofs.TestLaws.{below}
use Rattle.hex_digits.specs.Digits.{between, is_hex}

-- two tests that agree are equal
agree : (a b : Bool) → T ((a && b) || (not a && not b)) → a ≡ b
agree true true t = refl
agree true false t = absurd t
agree false true t = absurd t
agree false false t = refl

-- what `is_fault` asks: a digit, or a letter of either case
abbrev asked : ℕ → Bool
asked c = (leb 48 c && leb c 57) || (leb 97 (bit_or c 32) && leb (bit_or c 32) 102)

-- one computed test over all characters: the return of `is_fault`
pub fault_by_ranges : (c : ℕ) → c < 256 → not (asked c) ≡ not (is_hex c)
unfolding is_hex between
fault_by_ranges c h =
    ap not (agree (asked c) (is_hex c) (below (λ c. (asked c && is_hex c) || (not (asked c) && not (is_hex c))) 256 tt c h))

-- a test that does not hold
pub not_true : (a : Bool) → not a ≡ true → a ≡ false
not_true true e = absurd (let z : ◌≡◌ {A = ℕ} 0 1 = cc in omega arith)
not_true false e = refl

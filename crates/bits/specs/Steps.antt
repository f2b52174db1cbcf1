-- What the helper functions do to bits.
use Rattle.std.specs.Prelude.{◌≡◌, ℕ, ◌≤◌, ◌<◌, List, map, get_or}
use Rattle.std.specs.Int.Bits.{bit_xor}
use Rattle.bits.specs.Bits.{bit}

-- bytes with the bits of a number turned over
abbrev pub flipped : ℕ → List ℕ → List ℕ
flipped flip marks = map (λ b. bit_xor b flip) marks

-- bytes with the bits of the cells from `from` to below `to` set, and all others as they were
pub record Painted (before : List ℕ) (from to : ℕ) (after : List ℕ) : Type 0 where
  pub set : (j : ℕ) → from ≤ j → j < to → bit after j ≡ 1
  pub below : (j : ℕ) → j < from → bit after j ≡ bit before j
  pub above : (j : ℕ) → to ≤ j → bit after j ≡ bit before j
  pub bytes : ((k : ℕ) → get_or before k 0 < 256) → (k : ℕ) → get_or after k 0 < 256

-- Cells received by value, and copied.
use mathlib.Core.Path.{◌≡◌, sym, ◌∙◌}
use Prim.Native.Nat.{ℕ, zero, suc, ◌-◌, ◌*◌, ◌≤◌, ◌<◌}
use native.Mathlib.Omega.{arith}
use mathlib.Core.List.{List}
use lib.Bits.{bit_and, bit_or, and_zero_r, or_zero_l, or_zero_r, and_mask}
use lib.ListN.{length, get_or, take}
use lib.Seq.{length-take-le, get_or-take, ext_get_or}
use Rattle.window.specs.Images.{overlaid, image}
use Rattle.window.proofs.ViewLaws.{length_overlaid}
use Rattle.chips.specs.Promises.{chosen, Filled}
use Rattle.chips.proofs.ReceiveLaws.{laid_at}

-- ---- masks

byte_mask : (b : ℕ) → b < 256 → bit_and b 255 ≡ b
byte_mask b h = and_mask b 8 ∙ omega arith

-- the mask of a flag is 0 or 255
pub masked : (flag new old : ℕ) → flag ≤ 1 → new < 256 → old < 256
    → bit_or (bit_and new (255 * flag)) (bit_and old (255 - 255 * flag)) ≡ chosen flag new old
unfolding chosen
masked zero new old f n o = rw (and_zero_r new, or_zero_l) (byte_mask old o)
masked (suc zero) new old f n o = rw (and_zero_r old, or_zero_r) (byte_mask new n)
masked (suc (suc m)) new old f n o = absurd (omega arith)

-- ---- lists by value

-- so many bytes, each chosen, are the cells laid over memory
module _ (old cells flags bytes : List ℕ) (n : ℕ) (fit : n ≤ length bytes) (long : length old ≡ n) (some : n ≤ length cells) (all : n ≤ length flags) where
  pub blended_all : Filled (λ i. chosen (get_or flags i 0) (get_or cells i 0) (get_or old i 0)) n bytes → take n bytes ≡ overlaid old (image (take n cells) (take n flags))
  blended_all r =
      let p : length (take n cells) ≡ length old = length-take-le n cells some ∙ sym long in
      let q : length (take n flags) ≡ length old = length-take-le n flags all ∙ sym long in
      ext_get_or 0 (take n bytes) (overlaid old (image (take n cells) (take n flags)))
      (length-take-le n bytes fit ∙ sym long ∙ sym (length_overlaid old (image (take n cells) (take n flags))))
      (λ i h.
      let l : i < n = rw (length-take-le n bytes fit) at h in
      get_or-take n bytes i 0 l ∙ r i l
      ∙ sym (laid_at old (take n cells) (take n flags) i p q (omega arith) ∙ (λ t. chosen (get_or-take n flags i 0 l t) (get_or-take n cells i 0 l t) (get_or old i 0))))

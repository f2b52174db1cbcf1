-- The address of a record in the block of sixteen pairs that begins with it.
use mathlib.Core.Path.{◌≡◌, refl, ap, ◌∙◌}
use Prim.Native.Nat.{ℕ, zero, suc, ◌*◌, ◌≤◌}
use native.Mathlib.Omega.{arith}
use mathlib.Core.List.{List, [], ◌∷◌}
use lib.ListN.{length, get_or, take, drop, length-drop}
use lib.Seq.{length-take-le, take-take}
use Rattle.hex_digits.specs.Digits.{bytes}
use Rattle.hex_digits.specs.Numbers.{number}
use Rattle.hex_digits.proofs.PairLaws.{length_bytes, take_bytes}

-- up to four of the first four bytes
first_four : (w : ℕ) (bs : List ℕ) → 4 ≤ length bs → w ≤ 4 → take w (get_or bs 0 0 ∷ get_or bs 1 0 ∷ get_or bs 2 0 ∷ get_or bs 3 0 ∷ []) ≡ take w bs
first_four w [] n h = absurd (omega arith)
first_four w (a ∷ []) n h = absurd (omega arith)
first_four w (a ∷ b ∷ []) n h = absurd (omega arith)
first_four w (a ∷ b ∷ c ∷ []) n h = absurd (omega arith)
first_four zero (a ∷ b ∷ c ∷ d ∷ bs) n h = refl
first_four (suc zero) (a ∷ b ∷ c ∷ d ∷ bs) n h = refl
first_four (suc (suc zero)) (a ∷ b ∷ c ∷ d ∷ bs) n h = refl
first_four (suc (suc (suc zero))) (a ∷ b ∷ c ∷ d ∷ bs) n h = refl
first_four (suc (suc (suc (suc zero)))) (a ∷ b ∷ c ∷ d ∷ bs) n h = refl
first_four (suc (suc (suc (suc (suc w))))) (a ∷ b ∷ c ∷ d ∷ bs) n h = absurd (omega arith)

-- the block's bytes begin with those of the address
pub address_first : (cs block : List ℕ) (w : ℕ) → 36 ≤ length cs → w ≤ 4 → block ≡ bytes (take 32 (drop 4 cs))
    → number (take w (get_or block 0 0 ∷ get_or block 1 0 ∷ get_or block 2 0 ∷ get_or block 3 0 ∷ [])) ≡ number (bytes (take (2 * w) (drop 4 cs)))
address_first cs block w n h e =
    let sixteen : length block ≡ 16
    = ap length e ∙ length_bytes 16 (take 32 (drop 4 cs)) (length-take-le 32 (drop 4 cs) (omega (arith, length-drop 4 cs))) in
    ap number (first_four w block (omega (arith, sixteen)) h ∙ ap (take w) e ∙ take_bytes w (take 32 (drop 4 cs))
    ∙ ap bytes (take-take (2 * w) 32 (drop 4 cs) (omega (arith, h))))

-- The header's array: bytes over zeros.
use mathlib.Core.Path.{◌≡◌, ap, ◌∙◌}
use Prim.Native.Nat.{ℕ, zero, suc, ◌+◌, ◌-◌, ◌≤◌}
use native.Mathlib.Nat.{zero-add, suc-add}
use native.Mathlib.Omega.{arith}
use mathlib.Core.List.{List, ◌++◌}
use lib.ListN.{length, drop, replicate}
use Rattle.window.specs.Headers.{header_of}

-- the array before it is filled
abbrev pub zeros : List ℕ
zeros = replicate 252 0

-- behind the first n of n + k zeros stand k zeros
drop_zeros : (n k : ℕ) → drop n (replicate {A = ℕ} (n + k) 0) ≡ replicate k 0
drop_zeros zero k = ap (λ (j : ℕ). replicate j 0) (zero-add k)
drop_zeros (suc n) k = ap (λ (j : ℕ). drop (suc n) (replicate {A = ℕ} j 0)) (suc-add n k) ∙ drop_zeros n k

-- behind the first n bytes the array stays zero
pub padding : (n : ℕ) → n ≤ 252 → drop n zeros ≡ replicate (252 - n) 0
padding n h =
    let m : 252 ≡ n + (252 - n) = omega arith in
    ap (λ (j : ℕ). drop n (replicate {A = ℕ} j 0)) m ∙ drop_zeros n (252 - n)

-- bytes copied over the first of them are a header
pub header_copied : (bs out : List ℕ) → length bs ≤ 252 → out ≡ bs ++ drop (length bs) zeros → record { len = length bs; bytes = out } ≡ header_of bs
header_copied bs out h q =
    λ i. record { len = length bs; bytes = (q ∙ ap (λ (x : List ℕ). bs ++ x) (padding (length bs) h)) i }

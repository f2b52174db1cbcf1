-- A search by index: f says how far ahead of index i the place lies, so the place is i + f (drop i xs).
use mathlib.Core.Path.{◌≡◌}
use Prim.Native.Nat.{ℕ, suc, ◌+◌, ◌≤◌, ◌<◌}
use native.Mathlib.Nat.{add-zero}
use native.Mathlib.Numerals.{add-one}
use native.Mathlib.Omega.{arith}
use mathlib.Core.List.{List, [], ◌∷◌}
use lib.ListN.{length, get_or, drop, drop_of_length-le}
use lib.Seq.{drop-cons}

-- at the end the place is here
pub at_end : (f : List ℕ → ℕ) (xs : List ℕ) (i : ℕ) → f [] ≡ 0 → length xs ≤ i → i + f (drop i xs) ≡ i
at_end f xs i e h = rw (drop_of_length-le xs h, e, add-zero)

-- where f stops at this element the place is here
pub at_stop : (f : List ℕ → ℕ) (xs : List ℕ) (i : ℕ) → i < length xs → ((rest : List ℕ) → f (get_or xs i 0 ∷ rest) ≡ 0) → i + f (drop i xs) ≡ i
at_stop f xs i h e = rw (drop-cons xs i 0 h, e (drop (suc i) xs), add-zero)

-- where f goes on behind this element, as g, so does the search
pub at_step : (f g : List ℕ → ℕ) (xs : List ℕ) (i : ℕ) → i < length xs → ((rest : List ℕ) → f (get_or xs i 0 ∷ rest) ≡ suc (g rest))
    → i + 1 + g (drop (i + 1) xs) ≡ i + f (drop i xs)
at_step f g xs i h e = rw (add-one i, drop-cons xs i 0 h, e (drop (suc i) xs)) (omega arith)

-- A list whose elements are stored anew, one after the other: how far that has come.
use mathlib.Core.Path.{◌≡◌, refl, sym, ap, ◌∙◌}
use Prim.Native.Nat.{ℕ, zero, suc, ◌+◌, ◌<◌}
use native.Mathlib.Nat.{le_of_suc-le-suc, not-suc-le-zero}
use native.Mathlib.Numerals.{add-one}
use native.Mathlib.Omega.{arith}
use mathlib.Core.List.{List, [], ◌∷◌, ◌++◌, append-nil}
use lib.ListN.{length, get_or, set, take, drop, drop_of_length-le}
use lib.Seq.{take_all}

-- the first i are the new ones
abbrev pub renewed : List ℕ → List ℕ → ℕ → List ℕ
renewed old new i = take i new ++ drop i old

-- the next one is still the old one
pub still_old : (old new : List ℕ) (i : ℕ) → length new ≡ length old → i < length old → get_or (renewed old new i) i 0 ≡ get_or old i 0
still_old [] new i e h = absurd (not-suc-le-zero h)
still_old (x ∷ old) [] i e h = absurd (omega arith)
still_old (x ∷ old) (y ∷ new) zero e h = refl
still_old (x ∷ old) (y ∷ new) (suc i) e h = still_old old new i (omega arith) (le_of_suc-le-suc h)

-- it is stored
store_next : (old new : List ℕ) (i : ℕ) → length new ≡ length old → i < length old
    → set (renewed old new i) i (get_or new i 0) ≡ renewed old new (suc i)
store_next [] new i e h = absurd (not-suc-le-zero h)
store_next (x ∷ old) [] i e h = absurd (omega arith)
store_next (x ∷ old) (y ∷ new) zero e h = refl
store_next (x ∷ old) (y ∷ new) (suc i) e h =
    ap {B = List ℕ} (λ (r : List ℕ). y ∷ r) (store_next old new i (omega arith) (le_of_suc-le-suc h))

pub renew_turn : (old new u : List ℕ) (i v : ℕ) → length new ≡ length old → i < length old → u ≡ renewed old new i → v ≡ get_or new i 0
    → set u i v ≡ renewed old new (i + 1)
renew_turn old new u i v e h p q = rw (p, q, add-one i) (store_next old new i e h)

-- behind the last one all are new
pub renew_end : (old new u : List ℕ) (i : ℕ) → length new ≡ length old → i ≡ length old → u ≡ renewed old new i → u ≡ new
renew_end old new u i e h p =
    p ∙ rw (drop_of_length-le old {i = i} (omega arith), append-nil) (take_all i new (omega arith))

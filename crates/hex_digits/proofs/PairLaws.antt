-- The bytes of pairs of digits, as a loop comes to them: two characters a turn.
use mathlib.Core.Path.{◌≡◌, refl, sym, ap}
use Prim.Native.Nat.{ℕ, zero, suc, ◌+◌, ◌*◌, ◌/◌, ◌≤◌, ◌<◌}
use native.Mathlib.Numerals.{add-one}
use native.Mathlib.Omega.{arith}
use mathlib.Core.List.{List, [], ◌∷◌}
use lib.ListN.{length, get_or, take, drop, length-drop}
use lib.Seq.{drop-cons}
use Rattle.hex_digits.specs.Digits.{byte_of, bytes}
use Rattle.hex_digits.specs.Numbers.{number_after}

-- ---- one pair after the other

-- the characters from pair k on: its own two, then those from the next pair on
pub pair_split : (cs : List ℕ) (k : ℕ) → 2 * k + 1 < length cs
    → drop (2 * k) cs ≡ get_or cs (2 * k) 0 ∷ get_or cs (2 * k + 1) 0 ∷ drop (2 * (k + 1)) cs
pair_split cs k h =
    let e : 2 * (k + 1) ≡ suc (suc (2 * k)) = omega arith in
    rw (drop-cons cs (2 * k) 0 (omega arith), drop-cons cs (suc (2 * k)) 0 (omega arith), add-one (2 * k), e)

-- the bytes from pair k on: its own, then those from the next pair on
pairs_more : (cs : List ℕ) (k : ℕ) → 2 * k + 1 < length cs
    → bytes (drop (2 * k) cs) ≡ byte_of (get_or cs (2 * k) 0) (get_or cs (2 * k + 1) 0) ∷ bytes (drop (2 * (k + 1)) cs)
pairs_more cs k h = ap bytes (pair_split cs k h)

-- behind the last whole pair there is no byte
pub pairs_end : (cs : List ℕ) (k : ℕ) → length cs / 2 ≤ k → bytes (drop (2 * k) cs) ≡ []
pairs_end cs k h = short (drop (2 * k) cs) (omega (arith, length-drop (2 * k) cs))
  where
    short : (ds : List ℕ) → length ds < 2 → bytes ds ≡ []
    short [] h = refl
    short (d ∷ []) h = refl
    short (d ∷ e ∷ ds) h = absurd (omega arith)

-- ---- the loops' turns

-- one byte more is put behind the number: a turn of `number_of`
pub number_turn : (cs : List ℕ) (a k : ℕ) → 2 * k + 1 < length cs
    → number_after (a * 256 + byte_of (get_or cs (2 * k) 0) (get_or cs (2 * k + 1) 0)) (bytes (drop (2 * (k + 1)) cs)) ≡ number_after a
    (bytes (drop (2 * k) cs))
number_turn cs a k h = ap (number_after a) (sym (pairs_more cs k h))

-- ---- bytes by index

-- 2 * n characters stand for n bytes
pub length_bytes : (n : ℕ) (cs : List ℕ) → length cs ≡ 2 * n → length (bytes cs) ≡ n
length_bytes zero [] h = refl
length_bytes zero (c ∷ cs) h = absurd (omega arith)
length_bytes (suc n) [] h = absurd (omega arith)
length_bytes (suc n) (c ∷ []) h = absurd (omega arith)
length_bytes (suc n) (c ∷ d ∷ cs) h = ap suc (length_bytes n cs (omega arith))

-- the bytes behind the first k are those of the characters behind 2 * k
pub drop_bytes : (k : ℕ) (cs : List ℕ) → drop k (bytes cs) ≡ bytes (drop (2 * k) cs)
drop_bytes zero cs = refl
drop_bytes (suc k) [] = let e : 2 * suc k ≡ suc (suc (2 * k)) = omega arith in rw e
drop_bytes (suc k) (c ∷ []) = let e : 2 * suc k ≡ suc (suc (2 * k)) = omega arith in rw e
drop_bytes (suc k) (c ∷ d ∷ cs) = let e : 2 * suc k ≡ suc (suc (2 * k)) = omega arith in rw e (drop_bytes k cs)

-- the first k bytes are those of the first 2 * k characters
pub take_bytes : (k : ℕ) (cs : List ℕ) → take k (bytes cs) ≡ bytes (take (2 * k) cs)
take_bytes zero cs = refl
take_bytes (suc k) [] = let e : 2 * suc k ≡ suc (suc (2 * k)) = omega arith in rw e
take_bytes (suc k) (c ∷ []) = let e : 2 * suc k ≡ suc (suc (2 * k)) = omega arith in rw e
take_bytes (suc k) (c ∷ d ∷ cs) =
    let e : 2 * suc k ≡ suc (suc (2 * k)) = omega arith in rw e (ap {B = List ℕ} (λ (r : List ℕ). byte_of c d ∷ r) (take_bytes k cs))

-- byte k is that of characters 2 * k and 2 * k + 1
pub byte_at : (k : ℕ) (cs : List ℕ) → 2 * k + 1 < length cs → get_or (bytes cs) k 0 ≡ byte_of (get_or cs (2 * k) 0) (get_or cs (2 * k + 1) 0)
byte_at k [] h = absurd (omega arith)
byte_at k (c ∷ []) h = absurd (omega arith)
byte_at zero (c ∷ d ∷ cs) h = refl
byte_at (suc k) (c ∷ d ∷ cs) h =
    let e : 2 * suc k ≡ suc (suc (2 * k)) = omega arith in
    let f : 2 * suc k + 1 ≡ suc (suc (2 * k + 1)) = omega arith in
    rw (f, e) (byte_at k cs (omega arith))

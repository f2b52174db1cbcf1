-- Digits, and sums of bytes by blocks.
use mathlib.Core.Path.{◌≡◌, sym, ap, ◌∙◌}
use Prim.Native.Nat.{ℕ, zero, suc, ◌+◌, ◌*◌, ◌/◌, ◌%◌, ◌≤◌}
use native.Mathlib.Nat.{add_assoc}
use native.Mathlib.Omega.{arith}
use mathlib.Core.List.{List, [], ◌∷◌, ◌++◌}
use lib.ListN.{length, take, drop, take-append-drop}
use lib.Seq.{drop-drop, length-take-le, take_at, drop_at}
use Rattle.hex_digits.specs.Digits.{bytes}
use Rattle.hex_digits.specs.Numbers.{sum}
use Rattle.hex_digits.specs.Tables.{weighed}
use Rattle.hex_digits.proofs.DigitLaws.{first_is}
use Rattle.hex_digits.proofs.DigitTableLaws.{weigh_tells, weigh_sum}
use Rattle.hex_digits.proofs.PairLaws.{take_bytes, drop_bytes}
use Rattle.hex_write.proofs.PutLaws.{sum_append}
use Rattle.hex_sum.specs.Sums.{Tells, AreDigits}

-- ---- one block more

-- digits, then digits
pub digits_join : (n : ℕ) (cs : List ℕ) → AreDigits (take n cs) → AreDigits (drop n cs) → AreDigits cs
digits_join zero cs h k = k
digits_join (suc n) [] h k = k
digits_join (suc n) (c ∷ cs) h k =
    let f = first_is c (take n cs) h in
    rw f.0 (omega (arith, digits_join n cs f.1 k))

-- the bytes of n pairs, and those behind them
pub sum_split : (n : ℕ) (cs : List ℕ) → sum (bytes cs) ≡ sum (bytes (take (2 * n) cs)) + sum (bytes (drop (2 * n) cs))
sum_split n cs =
    ap sum (sym (take-append-drop n (bytes cs))) ∙ sum_append (take n (bytes cs)) (drop n (bytes cs))
    ∙ (λ i. sum (take_bytes n cs i) + sum (drop_bytes n cs i))

-- a part that tells, and what is left behind it
pub block_tells : (cs : List ℕ) (n s t : ℕ) → Tells s (take (2 * n) cs) → Tells t (drop (2 * n) cs) → Tells (s + t) cs
block_tells cs n s t p q h =
    let a = p (omega arith) in
    let b = q (omega arith) in
    (digits_join (2 * n) cs a.0 b.0, omega (arith, sum_split n cs, a.1, b.1))

-- a turn from any place: whatever tells of what is left tells, with the sum so far, of the whole
pub block_turn : (cs : List ℕ) (i s b : ℕ) → Tells b (take 32 (drop i cs)) → ((t : ℕ) → Tells t (drop i cs) → Tells (s + t) cs)
    → (t : ℕ) → Tells t (drop (i + 32) cs) → Tells (s + b + t) cs
block_turn cs i s b p r t q =
    rw (add_assoc s b t) (r (b + t) (block_tells (drop i cs) 16 b t p (rw (drop-drop 32 i cs) q)))

-- the same, as a turn of `sum_digits` has it: a block, and what is behind it
pub chunk_turn : (cs p rest : List ℕ) (s b : ℕ) → length p ≡ 32 → Tells b p → ((t : ℕ) → Tells t (p ++ rest) → Tells (s + t) cs)
    → (t : ℕ) → Tells t rest → Tells (s + b + t) cs
chunk_turn cs p rest s b h q r t k =
    rw (add_assoc s b t) (r (b + t) (block_tells (p ++ rest) 16 b t (rw (take_at p rest 32 h) q) (rw (drop_at p rest 32 h) k)))

-- its end: the weight of what is left tells
pub weight_tells : (cs : List ℕ) → length cs % 2 ≡ 0 → Tells (weighed cs) cs
weight_tells cs e h =
    let d : AreDigits cs = weigh_tells (length cs / 2) cs (omega arith) h in
    (d, weigh_sum cs d)

-- a pair, a block of digits whose bytes are at hand, and what is left: the return of `sum_around`
pub around_tells : (cs : List ℕ) (b t : ℕ) → 34 ≤ length cs → AreDigits (take 32 (drop 2 cs)) → b ≡ sum (bytes (take 32 (drop 2 cs)))
    → Tells t (drop 34 cs) → Tells (weighed (take 2 cs) + (b + t)) cs
around_tells cs b t n d e q =
    block_tells cs 1 (weighed (take 2 cs)) (b + t) (weight_tells (take 2 cs) (omega (arith, length-take-le 2 cs (omega arith))))
    (block_tells (drop 2 cs) 16 b t (λ h. (d, e)) (rw (drop-drop 32 2 cs) q))

-- Parts of a list.
use mathlib.Core.Path.{◌≡◌, ◌∙◌}
use Prim.Native.Nat.{ℕ, zero, suc, ◌+◌, ◌-◌, ◌≤◌, min}
use native.Mathlib.Nat.{zero-add, add-sub_cancel_left}
use native.Mathlib.Omega.{arith}
use mathlib.Core.List.{List, [], ◌∷◌, ◌++◌, append-nil}
use lib.Dec.{ltb}
use lib.ListN.{length, take, drop, length-drop, drop_of_length-le}
use lib.Seq.{take_all, take-nil, length-take-le}
use borrow.Author.Tests.{ltb-true, ltb-false}
use Rattle.lists.proofs.TestLaws.{by_test}

-- a part up to the end
pub rest : (i : ℕ) (l : List ℕ) → take (length l - i) (drop i l) ≡ drop i l
rest i l = take_all (length l - i) (drop i l) (omega (arith, length-drop i l))

-- a part in the middle, taken before or after what stands before it is dropped
pub drop_take : (i k : ℕ) (l : List ℕ) → drop i (take (i + k) l) ≡ take k (drop i l)
drop_take zero k l = rw (zero-add k)
drop_take (suc i) k [] = let e : suc i + k ≡ suc (i + k) = omega arith in rw (e, take-nil k)
drop_take (suc i) k (x ∷ l) = let e : suc i + k ≡ suc (i + k) = omega arith in rw e (drop_take i k l)

-- no more can be taken than there are
pub take_least : (k : ℕ) (l : List ℕ) → take (min k (length l)) l ≡ take k l
take_least k l =
    by_test (ltb (length l) k)
    (λ t. let e : min k (length l) ≡ length l = omega (arith, ltb-true (length l) k t) in
    rw (e, take_all (length l) l (omega arith), take_all k l (omega (arith, ltb-true (length l) k t))))
    (λ t. let e : min k (length l) ≡ k = omega (arith, ltb-false (length l) k t) in rw e)

-- how long the part from i up to j is
pub part_long : (l : List ℕ) (i j : ℕ) → i ≤ j → j ≤ length l → length (take (j - i) (drop i l)) ≡ j - i
part_long l i j h k = length-take-le (j - i) (drop i l) (omega (arith, length-drop i l))

-- a part of n bytes that is lent has n bytes
pub lent_length : (m : List ℕ) (from n : ℕ) → from + n ≤ length m → length (take (from + n - from) (drop from m)) ≡ n
lent_length m from n h = part_long m from (from + n) (omega arith) h ∙ add-sub_cancel_left from n

-- a list copied over another as long as it
pub copied : (src dst : List ℕ) → length dst ≡ length src → take (length src) src ++ drop (length src) dst ≡ src
copied src dst h = rw (take_all (length src) src (omega arith), drop_of_length-le dst {i = length src} (omega arith), append-nil)

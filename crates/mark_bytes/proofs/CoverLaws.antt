-- Two blocks that cover a part between them.
use mathlib.Core.Path.{◌≡◌, refl, ap, ◌∙◌}
use mathlib.Core.Bool.{true}
use Prim.Native.Nat.{ℕ, zero, suc, ◌+◌, ◌-◌, ◌≤◌}
use native.Mathlib.Omega.{arith}
use mathlib.Core.List.{List, [], ◌∷◌, ◌++◌, append-nil}
use lib.Dec.{eqb}
use lib.ListN.{length, take, drop, replicate, length-append, length-drop, length-replicate, replicate-append-replicate, drop_of_length-le}
use lib.Seq.{take-append-le, length-take-le}
use borrow.Rule.Slice.PartMut.{put_mid}
use Rattle.lists.proofs.TestLaws.{and_both}
use Rattle.window.specs.Marks.{is_free}

-- ---- filled

take_filled : (k n v : ℕ) → k ≤ n → take k (replicate n v) ≡ replicate k v
take_filled zero n v h = refl
take_filled (suc k) zero v h = absurd (omega arith)
take_filled (suc k) (suc n) v h = ap (λ (l : List ℕ). v ∷ l) (take_filled k n v (omega arith))

-- a part o, whose first b are x and whose last b are y, both filled: the return of `cover`
pub covered : (o x y : List ℕ) (b v : ℕ) → b ≤ length o → length o ≤ b + b → x ≡ replicate (length (take b o)) v
    → (let l : List ℕ = x ++ drop b o in let at : ℕ = length o - b in
    y ≡ replicate (length (take (length l - at) (drop at l))) v → put_mid at (length l - at) l y ≡ replicate (length o) v)
covered o x y b v low high p q =
    let x-is : x ≡ replicate b v = rw length-take-le at p in
    let at : ℕ = length o - b in
    let all : length (x ++ drop b o) ≡ length o = omega (arith, length-append x (drop b o), length-drop b o, ap length x-is, length-replicate b v) in
    let own : at + b ≡ length o = omega arith in
    let last : length o - at ≡ b = omega arith in
    let long : length (take (length (x ++ drop b o) - at) (drop at (x ++ drop b o))) ≡ b
    = rw (all, last, length-take-le b (drop at (x ++ drop b o)) (omega (arith, all, length-drop at (x ++ drop b o)))) in
    let y-is : y ≡ replicate b v = rw long at q in
    let front : take at (x ++ drop b o) ≡ replicate at v = rw x-is (take-append-le at (replicate b v) (drop b o) (omega (arith, length-replicate b v)) ∙ take_filled at b v (omega arith)) in
    let none : drop b (drop at (x ++ drop b o)) ≡ [] = drop_of_length-le (drop at (x ++ drop b o)) {i = b} (omega (arith, all, length-drop at (x ++ drop b o))) in
    rw (all, last, front, y-is, none, append-nil, replicate-append-replicate at b v, own)

-- ---- free

-- a free part from its place k on says what all say, if k is in free ones: a return of `all_free`
pub free_from : (k n : ℕ) (ms : List ℕ) → k ≤ n → is_free (take n ms) ≡ true → is_free (drop k ms) ≡ is_free ms
free_from zero n ms h f = refl
free_from (suc k) zero ms h f = absurd (omega arith)
free_from (suc k) (suc n) [] h f = refl
free_from (suc k) (suc n) (m ∷ ms) h f =
    let p = and_both (eqb m 0) (is_free (take n ms)) f in
    rw p.0 (free_from k n ms (omega arith) p.1)

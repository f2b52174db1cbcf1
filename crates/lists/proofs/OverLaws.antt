-- Pieces that are laid over a list, one behind the other, and parts that are lent and come back.
use mathlib.Core.Path.{◌≡◌, refl, sym, ap, ◌∙◌}
use Prim.Native.Nat.{ℕ, ◌+◌, ◌-◌, ◌≤◌, ◌<◌}
use native.Mathlib.Nat.{add_assoc, add-zero}
use native.Mathlib.Numerals.{add-one}
use native.Mathlib.Omega.{arith}
use mathlib.Core.List.{List, [], ◌∷◌, ◌++◌, append_assoc, append-nil}
use lib.ListN.{length, set, take, drop, length-append, length-take, length-drop, replicate, take-append-drop, drop_of_length-le, length-replicate}
use lib.Seq.{length-take-le, take_at, drop-append-add, drop-drop, set_split}
use borrow.Rule.Slice.PartMut.{put_mid}
use Rattle.lists.specs.Lists.{over}

-- a piece that fits leaves an output its length
pub over_length : (o : List ℕ) (at : ℕ) (xs : List ℕ) → at + length xs ≤ length o → length (over o at xs) ≡ length o
unfolding over
over_length o at xs h = simp (length-append, length-take, length-drop) (omega arith)

-- nothing laid over an output leaves it
pub over_none : (o : List ℕ) (at : ℕ) → over o at [] ≡ o
unfolding over
over_none o at = rw add-zero (take-append-drop at o)

-- a piece and the one behind it are one piece
pub over_more : (o : List ℕ) (at : ℕ) (xs ys : List ℕ) → at + length xs ≤ length o → over (over o at xs) (at + length xs) ys ≡ over o at (xs ++ ys)
unfolding over
over_more o at xs ys h =
    let e : length (take at o ++ xs) ≡ at + length xs
    = length-append (take at o) xs ∙ ap (λ (n : ℕ). n + length xs) (length-take-le at o (omega arith)) in
    rw (
      ← (append_assoc (take at o) xs (drop (at + length xs) o)),
      take_at (take at o ++ xs) (drop (at + length xs) o) (at + length xs) e,
      behind (take at o ++ xs) (drop (at + length xs) o) (at + length xs) (length ys) e,
      drop-drop (length ys) (at + length xs) o,
      length-append xs ys,
      ← (add_assoc at (length xs) (length ys)),
    )
    (simp append_assoc)
  where
    behind : (p q : List ℕ) (n m : ℕ) → length p ≡ n → drop (n + m) (p ++ q) ≡ drop m q
    behind p q n m e = rw (← e) (drop-append-add p q m)

-- the same where the place of the second piece is given
pub over_next : (o : List ℕ) (at : ℕ) (xs ys : List ℕ) (p : ℕ) → at + length xs ≡ p → p ≤ length o
    → over (over o at xs) p ys ≡ over o at (xs ++ ys)
over_next o at xs ys p e h = rw (← e) (over_more o at xs ys (rw e h))

-- one character stored
pub over_one : (o : List ℕ) (at x : ℕ) → at < length o → set o at x ≡ over o at (x ∷ [])
unfolding over
over_one o at x h = set_split o at x h ∙ rw add-one

-- one character stored behind a piece
pub over_store : (o : List ℕ) (at : ℕ) (xs : List ℕ) (y p : ℕ) → at + length xs ≡ p → p < length o
    → set (over o at xs) p y ≡ over o at (xs ++ (y ∷ []))
over_store o at xs y p e h =
    let l : at + length xs ≤ length o = omega arith in
    over_one (over o at xs) p y (rw (over_length o at xs l) h) ∙ over_next o at xs (y ∷ []) p e (omega arith)

-- two characters stored side by side
pub over_two : (o : List ℕ) (at x y : ℕ) → at + 2 ≤ length o → set (set o at x) (at + 1) y ≡ over o at (x ∷ y ∷ [])
over_two o at x y h =
    let l : at < length o = omega arith in
    rw (over_one o at x l) (over_store o at (x ∷ []) y (at + 1) refl (omega arith))

-- a piece as long as the output
pub over_all : (o xs : List ℕ) → length xs ≡ length o → over o 0 xs ≡ xs
unfolding over
over_all o xs e =
    let l : length o ≤ 0 + length xs = omega arith in
    rw (drop_of_length-le o l, append-nil)

-- ---- a part of a list that was lent

-- a part that is put back at i stands in place of what was there
pub lent_over : (i k : ℕ) (l part : List ℕ) → k ≡ length part → put_mid i k l part ≡ over l i part
unfolding over
lent_over i k l part e = ap (λ (r : List ℕ). take i l ++ (part ++ r)) (drop-drop k i l ∙ ap (λ (j : ℕ). drop (i + j) l) e)

-- the same for a part of n bytes that was filled with v
pub lent_filled : (i k n v : ℕ) (l part : List ℕ) → k ≡ n → i + n ≤ length l → part ≡ replicate (length (take k (drop i l))) v
    → put_mid i k l part ≡ over l i (replicate n v)
lent_filled i k n v l part e h q =
    let m : length (take k (drop i l)) ≡ n = length-take-le k (drop i l) (omega (arith, length-drop i l)) ∙ e in
    let p : part ≡ replicate n v = q ∙ ap (λ (j : ℕ). replicate j v) m in
    lent_over i k l part (e ∙ sym (length-replicate n v) ∙ ap length (sym p)) ∙ ap (over l i) p

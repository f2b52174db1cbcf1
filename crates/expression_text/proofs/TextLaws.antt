-- What stands at a place of a text, and how far digits and names reach there.
use mathlib.Core.Path.{◌≡◌, refl, sym, ap, ◌∙◌}
use Prim.Native.Nat.{ℕ, suc, ◌+◌, ◌-◌, ◌≤◌}
use mathlib.Core.Bool.{Bool}
use native.Mathlib.Nat.{add-zero}
use native.Mathlib.Omega.{arith}
use mathlib.Core.List.{List, [], ◌∷◌, ◌++◌}
use lib.ListN.{length, get_or, take, drop, length-append, length-drop}
use lib.Seq.{drop-append_seam, get_or-drop, drop-drop}
use Rattle.lists.proofs.TestLaws.{by_test}
use Rattle.words.specs.Words.{counted}

-- ---- places

module _ (s : List ℕ) (at : ℕ) where
  -- the character at a place is the first from there on
  pub first_at : (x : List ℕ) → drop at s ≡ x → get_or s at 0 ≡ get_or x 0 0
  first_at x e = sym (ap (λ (k : ℕ). get_or s k 0) (add-zero at)) ∙ sym (get_or-drop at s 0 0) ∙ ap (λ (l : List ℕ). get_or l 0 0) e

  -- behind a part stands what follows it
  pub behind : (x q : List ℕ) → drop at s ≡ x ++ q → drop (at + length x) s ≡ q
  behind x q e = sym (drop-drop (length x) at s) ∙ ap (λ (l : List ℕ). drop (length x) l) e ∙ drop-append_seam x q

  -- a part is no longer than the text
  pub part_fits : (x q : List ℕ) → drop at s ≡ x ++ q → length x ≤ length s
  part_fits x q e =
      let l : length s - at ≡ length x + length q = sym (length-drop at s) ∙ ap (λ (l : List ℕ). length l) e ∙ length-append x q in omega arith

-- ---- counts

module _ (k : ℕ → Bool) where
  -- characters of a class are counted up to what follows them
  pub count_on : (x q : List ℕ) → counted k x ≡ length x → counted k (x ++ q) ≡ length x + counted k q
  unfolding counted
  count_on [] q e = omega arith
  count_on (c ∷ x) q e =
      by_test (k c) (λ t. rw t (let h : suc (counted k x) ≡ suc (length x) = rw t at e in omega (arith, count_on x q (omega arith))))
      (λ t. absurd (let h : 0 ≡ suc (length x) = rw t at e in omega arith))

  -- as many as are counted are of the class
  pub count_taken : (x : List ℕ) → counted k (take (counted k x) x) ≡ length (take (counted k x) x)
  unfolding counted
  count_taken [] = refl
  count_taken (c ∷ x) = by_test (k c) (λ t. rw t (rw t (ap suc (count_taken x)))) (λ t. rw t)

  -- no more are counted than there are
  pub count_most : (x : List ℕ) → counted k x ≤ length x
  unfolding counted
  count_most [] = omega arith
  count_most (c ∷ x) = by_test (k c) (λ t. rw t (omega (arith, count_most x))) (λ t. rw t (omega arith))

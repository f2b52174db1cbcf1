-- Held characters as they are shown: a line end counts as NUL, and every other character as itself.
use mathlib.Core.Path.{◌≡◌, refl, ap, ◌∙◌}
use Prim.Native.Nat.{ℕ, zero, suc, ◌<◌}
use native.Mathlib.Nat.{le_of_suc-le-suc, not-suc-le-zero}
use native.Mathlib.Omega.{arith}
use mathlib.Core.Bool.{false}
use mathlib.Core.List.{List, [], ◌∷◌, ◌++◌, map}
use lib.ListN.{length, get_or, take}
use Rattle.lists.proofs.TestLaws.{by_test}
use Rattle.text.specs.Lines.{front}
use Rattle.srec.specs.Lines.{is_end}
use Rattle.session.specs.Sessions.{visible}

-- a shown character ends no line
no_end : (c : ℕ) → is_end (visible c) ≡ false
unfolding is_end
no_end c = by_test (is_end c) (λ e. rw e refl) (λ e. rw e e)

-- so shown characters have no line end
pub shown_free : (cs : List ℕ) → front is_end (map visible cs) ≡ map visible cs
shown_free [] = refl
shown_free (c ∷ cs) = rw (no_end c) (ap {B = List ℕ} (λ (r : List ℕ). visible c ∷ r) (shown_free cs))

-- and characters without one are shown as they are
pub free_shown : (cs : List ℕ) → front is_end cs ≡ cs → map visible cs ≡ cs
free_shown [] e = refl
free_shown (c ∷ cs) e =
    by_test (is_end c) (λ t. absurd (none (rw t at e)))
    (λ t. rw t (ap {B = List ℕ} (λ (r : List ℕ). c ∷ r) (free_shown cs (tail (rw t at e)))))
  where
    none : [] ≡ c ∷ cs → ⊥
    none q = let z : ◌≡◌ {A = ℕ} 0 1 = cc in omega arith

    tail : c ∷ front is_end cs ≡ c ∷ cs → front is_end cs ≡ cs
    tail q = cc

-- the first of the shown characters, and shown characters joined
pub shown_take : (n : ℕ) (cs : List ℕ) → map visible (take n cs) ≡ take n (map visible cs)
shown_take zero cs = refl
shown_take (suc n) [] = refl
shown_take (suc n) (c ∷ cs) = ap {B = List ℕ} (λ (r : List ℕ). visible c ∷ r) (shown_take n cs)

pub shown_append : (cs ds : List ℕ) → map visible (cs ++ ds) ≡ map visible cs ++ map visible ds
shown_append [] ds = refl
shown_append (c ∷ cs) ds = ap {B = List ℕ} (λ (r : List ℕ). visible c ∷ r) (shown_append cs ds)

-- more characters behind those that are held
pub shown_more : (cs ds : List ℕ) → front is_end ds ≡ ds → map visible (take 515 (cs ++ ds)) ≡ take 515 (map visible cs ++ ds)
shown_more cs ds e =
    shown_take 515 (cs ++ ds) ∙ ap (take 515) (shown_append cs ds ∙ ap (λ (r : List ℕ). map visible cs ++ r) (free_shown ds e))

-- ---- the loop of `hide_ends`

-- the character at an index, as it is shown
pub shown_at : (cs : List ℕ) (i : ℕ) → i < length cs → visible (get_or cs i 0) ≡ get_or (map visible cs) i 0
shown_at [] i h = absurd (not-suc-le-zero h)
shown_at (c ∷ cs) zero h = refl
shown_at (c ∷ cs) (suc i) h = shown_at cs i (le_of_suc-le-suc h)

-- Cells received one by one are those of an image laid over memory.
use mathlib.Core.Path.{◌≡◌, refl}
use Prim.Native.Nat.{ℕ, zero, suc, ◌≤◌, ◌<◌}
use native.Mathlib.Nat.{not-suc-le-zero, le_of_suc-le-suc}
use native.Mathlib.Omega.{arith}
use mathlib.Core.Bool.{false}
use mathlib.Core.List.{List, [], ◌∷◌}
use lib.ListN.{length, get_or}
use lib.Dec.{leb}
use borrow.Author.Tests.{ltb-false, le-ltb, le-leb, leb-true, ne_eqb}
use Rattle.lists.proofs.TestLaws.{by_test}
use Rattle.window.specs.Windows.{first_bad_mark, row16}
use Rattle.window.specs.Images.{overlaid, image}
use Rattle.chips.specs.Promises.{chosen}

-- ---- one cell after the other

-- row 16 lets only flags of 0 and 1 pass
pub flag_small : (flags : List ℕ) (i : ℕ) → row16 flags ≡ false → get_or flags i 0 ≤ 1
unfolding row16
flag_small flags i h = go flags i (ltb-false (first_bad_mark flags) (length flags) h)
  where
    go : (fs : List ℕ) (i : ℕ) → length fs ≤ first_bad_mark fs → get_or fs i 0 ≤ 1
    go [] i h = omega arith
    go (zero ∷ fs) zero h = omega arith
    go (zero ∷ fs) (suc i) h = go fs i (omega arith)
    go (suc zero ∷ fs) zero h = omega arith
    go (suc zero ∷ fs) (suc i) h = go fs i (omega arith)
    go (suc (suc m) ∷ fs) i h = absurd (by_test (leb (suc (suc m)) 1) (λ e. omega (arith, leb-true (suc (suc m)) 1 e)) (λ e. let z : suc (length fs) ≤ 0 = rw e at h in omega arith))

-- the byte at i after cells were laid over memory
pub laid_at : (memory cells flags : List ℕ) (i : ℕ) → length cells ≡ length memory → length flags ≡ length memory → i < length memory
    → get_or (overlaid memory (image cells flags)) i 0 ≡ chosen (get_or flags i 0) (get_or cells i 0) (get_or memory i 0)
unfolding chosen
laid_at [] cells flags i p q h = absurd (not-suc-le-zero h)
laid_at (m ∷ memory) [] flags i p q h = absurd (omega arith)
laid_at (m ∷ memory) (b ∷ cells) [] i p q h = absurd (omega arith)
laid_at (m ∷ memory) (b ∷ cells) (zero ∷ flags) zero p q h = refl
laid_at (m ∷ memory) (b ∷ cells) (suc f ∷ flags) zero p q h = rw (ne_eqb (suc f) 0 (λ z. omega arith))
laid_at (m ∷ memory) (b ∷ cells) (zero ∷ flags) (suc i) p q h = laid_at memory cells flags i (omega arith) (omega arith) (le_of_suc-le-suc h)
laid_at (m ∷ memory) (b ∷ cells) (suc f ∷ flags) (suc i) p q h = laid_at memory cells flags i (omega arith) (omega arith) (le_of_suc-le-suc h)

-- flags of 0 and 1 pass row 16
pub small_clean : (flags : List ℕ) → ((i : ℕ) → i < length flags → get_or flags i 0 ≤ 1) → row16 flags ≡ false
unfolding row16
small_clean flags h = le-ltb (first_bad_mark flags) (length flags) (go flags h)
  where
    go : (fs : List ℕ) → ((i : ℕ) → i < length fs → get_or fs i 0 ≤ 1) → length fs ≤ first_bad_mark fs
    go [] h = omega arith
    go (f ∷ fs) h = rw (le-leb f 1 (h 0 (omega arith))) (omega (arith, go fs (λ i l. h (suc i) (omega arith))))

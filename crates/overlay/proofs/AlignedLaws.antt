-- Memory and marks of two images, all of one length, and the images that they show.
use mathlib.Core.Path.{◌≡◌, refl, ap}
use Prim.Native.Nat.{ℕ, zero, suc, ◌≤◌}
use native.Mathlib.Omega.{arith}
use mathlib.Core.List.{List, [], ◌∷◌}
use mathlib.Core.Option.{none, some}
use lib.Dec.{leb}
use lib.ListN.{length, drop}
use borrow.Author.Tests.{leb-true}
use Rattle.lists.proofs.TestLaws.{by_test}
use Rattle.window.specs.Windows.{first_bad_mark}
use Rattle.window.specs.Images.{Image, image, marks_of, overlaid}
use Rattle.layers.specs.Layers.{joined}
use Rattle.overlay.specs.Layers.{merged}

-- every mark is 0 or 1: row 16 does not apply
abbrev pub Clean : List ℕ → Type 0
Clean ks = length ks ≤ first_bad_mark ks

-- the first of clean marks is 0 or 1, and the others are clean
pub clean_cons : (k : ℕ) (ks : List ℕ) → Clean (k ∷ ks) → (k ≤ 1) × Clean ks
clean_cons k ks h =
    by_test (leb k 1) (λ t. let l : suc (length ks) ≤ suc (first_bad_mark ks) = rw t at h in (leb-true k 1 t, omega arith))
    (λ t. let l : suc (length ks) ≤ 0 = rw t at h in absurd (omega arith))

-- an image has as many cells as memory has bytes
pub length_image : (m k : List ℕ) → length k ≡ length m → length (image m k) ≡ length m
length_image [] k h = refl
length_image (b ∷ m) [] h = absurd (omega arith)
length_image (b ∷ m) (j ∷ k) h = ap suc (length_image m k (omega arith))

-- a patch laid over the base's memory, with the merged image's marks, shows the merged image
pub merge_shown : (m k : List ℕ) (p : Image) → length k ≡ length m → length p ≡ length m
    → image (overlaid m p) (marks_of (merged (image m k) p)) ≡ merged (image m k) p
merge_shown [] k [] h l = refl
merge_shown [] k (o ∷ p) h l = absurd (omega arith)
merge_shown (b ∷ m) [] p h l = absurd (omega arith)
merge_shown (b ∷ m) (j ∷ k) [] h l = absurd (omega arith)
merge_shown (b ∷ m) (zero ∷ k) (none ∷ p) h l = ap {B = Image} (λ (r : Image). none ∷ r) (merge_shown m k p (omega arith) (omega arith))
merge_shown (b ∷ m) (suc j ∷ k) (none ∷ p) h l = ap {B = Image} (λ (r : Image). some b ∷ r) (merge_shown m k p (omega arith) (omega arith))
merge_shown (b ∷ m) (j ∷ k) (some y ∷ p) h l = ap {B = Image} (λ (r : Image). some y ∷ r) (merge_shown m k p (omega arith) (omega arith))

-- ---- memory and marks of two images, all of one length

-- the lists of base and patch, with a byte and a mark of each for every cell
pub data Aligned : List ℕ → List ℕ → List ℕ → List ℕ → Type 0 where
  ends : Aligned [] [] [] []
  next : {m k n j : List ℕ} (b x e y : ℕ) → Aligned m k n j → Aligned (b ∷ m) (x ∷ k) (e ∷ n) (y ∷ j)

-- lists of one length are aligned
pub aligned : (m k n j : List ℕ) → length k ≡ length m → length j ≡ length n → length n ≡ length m → Aligned m k n j
aligned [] [] [] [] a b l = ends
aligned [] [] [] (y ∷ j) a b l = absurd (omega arith)
aligned [] [] (e ∷ n) j a b l = absurd (omega arith)
aligned [] (x ∷ k) n j a b l = absurd (omega arith)
aligned (b ∷ m) [] n j a c l = absurd (omega arith)
aligned (b ∷ m) (x ∷ k) [] j a c l = absurd (omega arith)
aligned (b ∷ m) (x ∷ k) (e ∷ n) [] a c l = absurd (omega arith)
aligned (b ∷ m) (x ∷ k) (e ∷ n) (y ∷ j) a c l = next b x e y (aligned m k n j (omega arith) (omega arith) (omega arith))

-- what stands behind the first i of each is aligned too
pub aligned_drop : {m k n j : List ℕ} (i : ℕ) → Aligned m k n j → Aligned (drop i m) (drop i k) (drop i n) (drop i j)
aligned_drop zero s = s
aligned_drop (suc i) ends = ends
aligned_drop (suc i) (next b x e y s) = aligned_drop i s

-- the image from an index on is that of memory and marks from there on
pub image_drop : (i : ℕ) (m k : List ℕ) → length k ≡ length m → drop i (image m k) ≡ image (drop i m) (drop i k)
image_drop zero m k h = refl
image_drop (suc i) [] k h = refl
image_drop (suc i) (b ∷ m) [] h = absurd (omega arith)
image_drop (suc i) (b ∷ m) (x ∷ k) h = image_drop i m k (omega arith)

-- joined marks are those of the merged image
pub merge_marks : {m k n j : List ℕ} → Aligned m k n j → Clean k → Clean j → joined k j ≡ marks_of (merged (image m k) (image n j))
merge_marks ends c d = refl
merge_marks (next {m} {k} {n} {j} b x e y s) c d =
    let p = clean_cons x k c in
    let q = clean_cons y j d in
    cons x y p.0 q.0 (merge_marks s p.1 q.1)
  where
    cons : (x y : ℕ) → x ≤ 1 → y ≤ 1 → joined k j ≡ marks_of (merged (image m k) (image n j))
        → joined (x ∷ k) (y ∷ j) ≡ marks_of (merged (image (b ∷ m) (x ∷ k)) (image (e ∷ n) (y ∷ j)))
    cons zero zero p q r = ap {B = List ℕ} (λ (z : List ℕ). 0 ∷ z) r
    cons zero (suc zero) p q r = ap {B = List ℕ} (λ (z : List ℕ). 1 ∷ z) r
    cons zero (suc (suc y)) p q r = absurd (omega arith)
    cons (suc zero) zero p q r = ap {B = List ℕ} (λ (z : List ℕ). 1 ∷ z) r
    cons (suc zero) (suc zero) p q r = ap {B = List ℕ} (λ (z : List ℕ). 1 ∷ z) r
    cons (suc zero) (suc (suc y)) p q r = absurd (omega arith)
    cons (suc (suc x)) y p q r = absurd (omega arith)

-- Sources and runs of two images, by their marks, and what a run holds.
use mathlib.Core.Path.{◌≡◌, refl, ap}
use Prim.Native.Nat.{ℕ, zero, suc, ◌-◌, ◌≤◌, ◌<◌, zero-le, suc-le-suc}
use native.Mathlib.Nat.{not-suc-le-zero, le_of_suc-le-suc}
use native.Mathlib.Omega.{arith}
use mathlib.Core.Bool.{Bool, true, false, cond}
use mathlib.Core.List.{List, [], ◌∷◌, map}
use mathlib.Core.Option.{none, some}
use lib.Dec.{eqb}
use lib.ListN.{length, take, drop}
use borrow.Author.Tests.{ne_eqb, lt-ltb}
use Rattle.lists.proofs.TestLaws.{by_test}
use Rattle.window.specs.Images.{Image, seen, image}
use Rattle.window.specs.Walks.{unmarked, run_on}
use Rattle.overlay.specs.declared.Source.{Source}
use Rattle.overlay.specs.declared.Source.TheVariants.{Patch, Base, Neither, Refused}
use Rattle.overlay.specs.Layers.{merged}
use Rattle.overlay.specs.Looks.{comes, source_of, extent}
use Rattle.overlay.specs.Facts.{names, comes_first, mark_source}
use Rattle.overlay.proofs.AlignedLaws.{Aligned, ends, next}

-- ---- by marks

-- the source for a cell is that of its marks
pub source_by_marks : (b x e y : ℕ) (base patch : Image) → source_of (seen x b ∷ base) (seen y e ∷ patch) ≡ mark_source x y
source_by_marks b zero e zero base patch = refl
source_by_marks b (suc x) e zero base patch = rw (ne_eqb (suc x) 0 (λ q. omega arith))
source_by_marks b zero e (suc y) base patch = rw (ne_eqb (suc y) 0 (λ q. omega arith))
source_by_marks b (suc x) e (suc y) base patch = rw (ne_eqb (suc y) 0 (λ q. omega arith))

-- a run of the patch is one of its marks, where none is cut short
pub patch_extent : {m k n j : List ℕ} → Aligned m k n j → (most : ℕ) → length j ≤ most → extent Patch (image m k) (image n j) ≡ run_on most j
patch_extent ends most h = refl
patch_extent (next b x e zero s) most h = refl
patch_extent (next b x e (suc y) s) most h = rw (lt-ltb 0 most (omega arith)) (ap suc (patch_extent s (most - 1) (omega arith)))

-- a run of the base is one of its marks, before the next marked cell of the patch
pub base_extent : {m k n j : List ℕ} → Aligned m k n j → extent Base (image m k) (image n j) ≡ run_on (unmarked j) k
base_extent ends = refl
base_extent (next b zero e zero s) = refl
base_extent (next {m} {k} {n} {j} b (suc x) e zero s) =
    let d : suc (unmarked j) - 1 ≡ unmarked j = omega arith in
    rw (lt-ltb 0 (suc (unmarked j)) (omega arith), d) (ap suc (base_extent s))
base_extent (next b zero e (suc y) s) = refl
base_extent (next b (suc x) e (suc y) s) = refl

-- ---- what a run holds

-- a run of the patch has the merged image's bytes
pub patch_bytes : {m k n j : List ℕ} → Aligned m k n j
    → map some (take (extent Patch (image m k) (image n j)) n) ≡ take (extent Patch (image m k) (image n j)) (merged (image m k) (image n j))
patch_bytes ends = refl
patch_bytes (next b x e zero s) = refl
patch_bytes (next b x e (suc y) s) = ap {B = Image} (λ (r : Image). some e ∷ r) (patch_bytes s)

-- a run of the base too
pub base_bytes : {m k n j : List ℕ} → Aligned m k n j
    → map some (take (extent Base (image m k) (image n j)) m) ≡ take (extent Base (image m k) (image n j)) (merged (image m k) (image n j))
base_bytes ends = refl
base_bytes (next b zero e zero s) = refl
base_bytes (next b (suc x) e zero s) = ap {B = Image} (λ (r : Image). some b ∷ r) (base_bytes s)
base_bytes (next b x e (suc y) s) = refl

-- ---- how long it is

-- a run ends within both images
pub extent_le : (w : Source) (x y : Image) → (extent w x y ≤ length x) × (extent w x y ≤ length y)
extent_le w [] y = (zero-le, zero-le)
extent_le w (b ∷ x) [] = (zero-le, zero-le)
extent_le w (b ∷ x) (p ∷ y) = go (comes w b p) (extent_le w x y)
  where
    go : (t : Bool) → (extent w x y ≤ length x) × (extent w x y ≤ length y)
        → (cond t (suc (extent w x y)) 0 ≤ suc (length x)) × (cond t (suc (extent w x y)) 0 ≤ suc (length y))
    go true h = (suc-le-suc h.0, suc-le-suc h.1)
    go false h = (zero-le, zero-le)

-- a source that names no image has no run
pub no_extent : (w : Source) → names w ≡ false → (x y : Image) → extent w x y ≡ 0
no_extent w h [] y = refl
no_extent w h (b ∷ x) [] = refl
no_extent Neither h (b ∷ x) (p ∷ y) = refl
no_extent (Refused f) h (b ∷ x) (p ∷ y) = refl
no_extent Patch h (b ∷ x) (p ∷ y) = absurd (let z : ◌≡◌ {A = ℕ} 0 1 = cc in omega arith)
no_extent Base h (b ∷ x) (p ∷ y) = absurd (let z : ◌≡◌ {A = ℕ} 0 1 = cc in omega arith)

-- each cell of a run comes from the image that the source names
pub extent_all : (w : Source) (x y : Image) (i : ℕ) → i < extent w x y → comes_first w (drop i x) (drop i y) ≡ true
extent_all w [] y i h = absurd (not-suc-le-zero h)
extent_all w (b ∷ x) [] i h = absurd (not-suc-le-zero h)
extent_all w (b ∷ x) (p ∷ y) zero h =
    by_test (comes w b p) (λ t. t) (λ t. absurd (not-suc-le-zero (rw t at h)))
extent_all w (b ∷ x) (p ∷ y) (suc i) h =
    by_test (comes w b p) (λ t. extent_all w x y i (le_of_suc-le-suc (rw t at h))) (λ t. absurd (not-suc-le-zero (rw t at h)))

-- the cell behind a run does not
pub extent_stops : (w : Source) (x y : Image) → comes_first w (drop (extent w x y) x) (drop (extent w x y) y) ≡ false
extent_stops w [] y = refl
extent_stops w (b ∷ x) [] = refl
extent_stops w (b ∷ x) (p ∷ y) = by_test (comes w b p) (λ t. rw t (extent_stops w x y)) (λ t. rw t t)

-- a run from a cell that comes from the image is not empty, any other is
pub extent_first : (w : Source) (x y : Image) → comes_first w x y ≡ true → 0 < extent w x y
extent_first w [] y e = absurd (let z : ◌≡◌ {A = ℕ} 0 1 = cc in omega arith)
extent_first w (b ∷ x) [] e = absurd (let z : ◌≡◌ {A = ℕ} 0 1 = cc in omega arith)
extent_first w (b ∷ x) (p ∷ y) e = rw e (omega arith)

-- a source for a cell says where it comes from
pub source_comes : (x y : Image) → names (source_of x y) ≡ true → comes_first (source_of x y) x y ≡ true
source_comes [] y h = absurd (let z : ◌≡◌ {A = ℕ} 0 1 = cc in omega arith)
source_comes (b ∷ x) [] h = absurd (let z : ◌≡◌ {A = ℕ} 0 1 = cc in omega arith)
source_comes (none ∷ x) (none ∷ y) h = absurd (let z : ◌≡◌ {A = ℕ} 0 1 = cc in omega arith)
source_comes (some b ∷ x) (none ∷ y) h = refl
source_comes (none ∷ x) (some p ∷ y) h = refl
source_comes (some b ∷ x) (some p ∷ y) h = refl

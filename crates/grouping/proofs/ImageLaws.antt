-- Images and the buffers that show them: no cells, the same cells, no shared cell.
use mathlib.Core.Path.{◌≡◌, refl, sym, ap, subst}
use Prim.Native.Nat.{ℕ, zero, suc, ◌≤◌, ◌<◌}
use native.Mathlib.Omega.{arith}
use mathlib.Core.List.{List, [], ◌∷◌}
use mathlib.Core.Logic.{inl, inr}
use mathlib.Core.Option.{none, some}
use lib.ListN.{length, get_or}
use Rattle.window.specs.Images.{Image, seen, image, mark, marks_of, overlaid}
use Rattle.window.specs.Cells.{Cell, cells}
use Rattle.window.proofs.CellLaws.{In}
use Rattle.window.proofs.OrderLaws.{rising_cells, in_low}
use Rattle.overlay.proofs.AlignedLaws.{Clean, clean_cons}
use Rattle.grouping.proofs.LayLaws.{Bare, Disjoint}

-- clean marks are those of the image that they show
pub marks_again : (m k : List ℕ) → length k ≡ length m → Clean k → marks_of (image m k) ≡ k
marks_again [] [] h c = refl
marks_again [] (j ∷ k) h c = absurd (omega arith)
marks_again (b ∷ m) [] h c = absurd (omega arith)
marks_again (b ∷ m) (j ∷ k) h c =
    let s = clean_cons j k c in
    λ i. head j s.0 i ∷ marks_again m k (omega arith) s.1 i
  where
    head : (j : ℕ) → j ≤ 1 → mark (seen j b) ≡ j
    head zero l = refl
    head (suc zero) l = refl
    head (suc (suc j)) l = absurd (omega arith)

-- an image laid over the memory that it shows leaves that memory
pub overlaid_self : (m k : List ℕ) → overlaid m (image m k) ≡ m
overlaid_self [] k = refl
overlaid_self (b ∷ m) [] = refl
overlaid_self (b ∷ m) (zero ∷ k) = ap {B = List ℕ} (λ (r : List ℕ). b ∷ r) (overlaid_self m k)
overlaid_self (b ∷ m) (suc j ∷ k) = ap {B = List ℕ} (λ (r : List ℕ). b ∷ r) (overlaid_self m k)

-- an image of no cells leaves memory as it is
pub overlaid_bare : (m : List ℕ) (x : Image) → Bare x → overlaid m x ≡ m
overlaid_bare [] x h = refl
overlaid_bare (b ∷ m) [] h = refl
overlaid_bare (b ∷ m) (none ∷ x) h = ap {B = List ℕ} (λ (r : List ℕ). b ∷ r) (overlaid_bare m x h.1)
overlaid_bare (b ∷ m) (some y ∷ x) h = absurd (let z : ◌≡◌ {A = ℕ} 0 1 = cc in omega arith)

-- an image without addressed cells has no marked cell
pub no_cells : (a : ℕ) (x : Image) → cells a x ≡ [] → Bare x
no_cells a [] e = tt
no_cells a (none ∷ x) e = (refl, no_cells (suc a) x e)
no_cells a (some b ∷ x) e = absurd (let z : ◌≡◌ {A = ℕ} 0 1 = cc in omega arith)

-- no cell lies below the first one
too_low : (a b : ℕ) (x : Image) → In a b (cells (suc a) x) → ⊥
too_low a b x h = omega (arith, in_low a b (suc a) (cells (suc a) x) (rising_cells (suc a) x) h)

-- images of one length with the same addressed cells are the same
pub same_image : (a : ℕ) (x y : Image) → length x ≡ length y → cells a x ≡ cells a y → x ≡ y
same_image a [] [] l e = refl
same_image a [] (q ∷ y) l e = absurd (omega arith)
same_image a (o ∷ x) [] l e = absurd (omega arith)
same_image a (none ∷ x) (none ∷ y) l e = ap {B = Image} (λ (r : Image). none ∷ r) (same_image (suc a) x y (omega arith) e)
same_image a (none ∷ x) (some c ∷ y) l e = absurd (too_low a c x (subst (In a c) (sym e) (inl (refl, refl))))
same_image a (some b ∷ x) (none ∷ y) l e = absurd (too_low a b y (subst (In a b) e (inl (refl, refl))))
same_image a (some b ∷ x) (some c ∷ y) l e =
    let d : ◌≡◌ {A = Cell} (record { addr = a; byte = b }) (record { addr = a; byte = c }) = cc in
    let f : b ≡ c = ap (λ (k : Cell). k.byte) d in
    let g : x ≡ y = same_image (suc a) x y (omega arith) (cc) in
    λ i. some (f i) ∷ g i

-- marks that are 1 at no common index show images that share no cell
pub disjoint : (m k n j : List ℕ) → Clean k → Clean j
    → ((i : ℕ) → i < length k → i < length j → get_or k i 0 ≡ 1 → get_or j i 0 ≡ 1 → ⊥) → Disjoint (image m k) (image n j)
disjoint [] k n j c d h = tt
disjoint (b ∷ m) [] n j c d h = tt
disjoint (b ∷ m) (x ∷ k) [] j c d h = tt
disjoint (b ∷ m) (x ∷ k) (e ∷ n) [] c d h = tt
disjoint (b ∷ m) (zero ∷ k) (e ∷ n) (y ∷ j) c d h =
    (inl refl, disjoint m k n j (clean_cons 0 k c).1 (clean_cons y j d).1 (λ i p q. h (suc i) (omega arith) (omega arith)))
disjoint (b ∷ m) (suc x ∷ k) (e ∷ n) (zero ∷ j) c d h =
    (inr refl, disjoint m k n j (clean_cons (suc x) k c).1 (clean_cons 0 j d).1 (λ i p q. h (suc i) (omega arith) (omega arith)))
disjoint (b ∷ m) (suc x ∷ k) (e ∷ n) (suc y ∷ j) c d h =
    absurd (h 0 (omega arith) (omega arith) (omega (arith, (clean_cons (suc x) k c).0)) (omega (arith, (clean_cons (suc y) j d).0)))

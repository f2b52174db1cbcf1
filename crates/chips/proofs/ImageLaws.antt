-- A window whose marks are 0 or 1 shows an image: its marked cells are those of the image.
use mathlib.Core.Path.{◌≡◌, refl, sym, ap, ◌∙◌}
use Prim.Native.Nat.{ℕ, zero, suc, ◌+◌, ◌≤◌, ◌<◌}
use native.Mathlib.Nat.{not-suc-le-zero, le_of_suc-le-suc}
use native.Mathlib.Omega.{arith}
use mathlib.Core.Bool.{false}
use mathlib.Core.List.{List, [], ◌∷◌}
use mathlib.Core.Option.{none, some}
use mathlib.Core.Logic.{◌↔◌}
use lib.ListN.{length, get_or, length-map}
use borrow.Author.Tests.{le-ltb}
use Rattle.window.specs.Windows.{Window, window_of, Marked, row16}
use Rattle.window.specs.Images.{Image, mark, marks_of, seen, image}
use Rattle.window.proofs.ViewLaws.{image_after, length_overlaid, no_odd}
use Rattle.chips.specs.Boards.{Buffers, received}
use Rattle.chips.proofs.ReceiveLaws.{flag_small}

-- the marks of an image pass row 16
pub image_clean : (img : Image) → row16 (marks_of img) ≡ false
unfolding row16
image_clean img = rw (no_odd img) (le-ltb (length (marks_of img)) (length (marks_of img)) (omega arith))

-- an image shows as many cells as memory and marks have
pub length_image : (memory marks : List ℕ) → length marks ≡ length memory → length (image memory marks) ≡ length memory
length_image [] marks h = refl
length_image (b ∷ memory) [] h = absurd (omega arith)
length_image (b ∷ memory) (m ∷ marks) h = ap suc (length_image memory marks (omega arith))

-- cell by cell
pub image_at : (memory marks : List ℕ) (i : ℕ) → length marks ≡ length memory → i < length memory
    → get_or (image memory marks) i none ≡ seen (get_or marks i 0) (get_or memory i 0)
image_at [] marks i n h = absurd (not-suc-le-zero h)
image_at (b ∷ memory) [] i n h = absurd (omega arith)
image_at (b ∷ memory) (m ∷ marks) zero n h = refl
image_at (b ∷ memory) (m ∷ marks) (suc i) n h = image_at memory marks i (omega arith) (le_of_suc-le-suc h)

-- the cell at i of an image is given B
abbrev pub Given : Image → ℕ → ℕ → Type 0
Given img i B = get_or img i none ≡ some B

-- a cell that is given a byte is inside
pub given_inside : (img : Image) (i B : ℕ) → Given img i B → i < length img
given_inside [] i B q = absurd (let z : ◌≡◌ {A = ℕ} 0 1 = cc in omega arith)
given_inside (o ∷ img) zero B q = omega arith
given_inside (o ∷ img) (suc i) B q = omega (arith, given_inside img i B q)

seen_some : (m b B : ℕ) → m ≤ 1 → seen m b ≡ some B → (m ≡ 1) × (b ≡ B)
seen_some zero b B h q = absurd (let z : ◌≡◌ {A = ℕ} 0 1 = cc in omega arith)
seen_some (suc m) b B h q = (omega arith, cc)

-- ---- windows that show an image

-- as many marks as memory bytes, each 0 or 1
pub record Sound (W : Window) : Type 0 where
  pub long : length W.marks ≡ length W.memory
  pub clean : row16 W.marks ≡ false

-- the image that a window shows
abbrev pub shows : Window → Image
shows W = image W.memory W.marks

-- cell A is marked with B exactly when the image gives it B
pub marked_iff : (W : Window) → Sound W → (A B : ℕ) → Marked W A B ↔ ((i : ℕ) × (A ≡ W.base + i) × Given (shows W) i B)
marked_iff W s A B = (
  λ k.
      let e : get_or W.marks k.0 0 ≡ 1 = k.2 in
      (k.0, k.4, image_at W.memory W.marks k.0 s.long (rw s.long at k.1) ∙ rw e (ap some k.3)),
  λ k.
      let i : ℕ = k.0 in
      let l : i < length W.memory = rw (length_image W.memory W.marks s.long) at (given_inside (shows W) i B k.2) in
      let g = seen_some (get_or W.marks i 0) (get_or W.memory i 0) B (flag_small W.marks i s.clean)
      (sym (image_at W.memory W.marks i s.long l) ∙ k.2) in
      (i, rw s.long l, g.0, g.1, k.1),
)

-- two such windows of one base that show one image have the same marked cells
pub same_marked : (U W : Window) → U.base ≡ W.base → Sound U → Sound W → shows U ≡ shows W → (A B : ℕ) → Marked U A B ↔ Marked W A B
same_marked U W b u w q A B =
    let f = marked_iff U u A B in
    let g = marked_iff W w A B in (
      λ m. let k = f.0 m in g.1 (k.0, k.1 ∙ ap (λ (x : ℕ). x + k.0) b, ap (λ (x : Image). get_or x k.0 none) (sym q) ∙ k.2),
      λ m. let k = g.0 m in f.1 (k.0, k.1 ∙ ap (λ (x : ℕ). x + k.0) (sym b), ap (λ (x : Image). get_or x k.0 none) q ∙ k.2),
    )

-- memory and marks that received an image show it
pub received_shows : (base : ℕ) (c : Buffers) (img : Image) → length c.memory ≡ length img
    → Sound (window_of base (received c img).memory (received c img).marks) × (image (received c img).memory (received c img).marks ≡ img)
received_shows base c img h = (
  record { long = length-map img mark ∙ sym h ∙ sym (length_overlaid c.memory img); clean = image_clean img },
  image_after c.memory img h,
)

-- Looks one after the other show the merged image.
use mathlib.Core.Path.{◌≡◌, refl, sym, ap, ◌∙◌}
use Prim.Native.Nat.{ℕ, zero, suc, ◌+◌, ◌-◌, ◌≤◌, ◌<◌}
use native.Mathlib.Nat.{add-zero, add-suc, add_assoc, add-sub_cancel_left}
use native.Mathlib.Numerals.{add-one}
use native.Mathlib.Omega.{arith}
use mathlib.Core.Bool.{true, false}
use mathlib.Core.List.{List, [], ◌∷◌, ◌++◌, map}
use mathlib.Core.Option.{none, some}
use lib.ListN.{length, take, drop, drop_of_length-le, take-append-drop, length-map, length-drop}
use lib.Seq.{drop-drop}
use borrow.Author.Tests.{le-ltb}
use Rattle.lists.proofs.TestLaws.{by_test}
use Rattle.window.specs.Windows.{Window}
use Rattle.window.specs.Images.{Image}
use Rattle.window.specs.Cells.{Cell, Run, cells, flat}
use Rattle.window.proofs.CellLaws.{cells_append}
use Rattle.overlay.specs.Layers.{non_empty, merged}
use Rattle.window.specs.Plans.{passes}
use Rattle.overlay.specs.Refusals.{look_refusal}
use Rattle.overlay.specs.Looks.{source_of, seen_in, from, source_at, look_source, look_part}
use Rattle.overlay.specs.Facts.{names, comes_at, merging, walk, Looks, Parted, WholeWalk}
use Rattle.overlay.proofs.AlignedLaws.{length_image}
use Rattle.overlay.proofs.RefusalLaws.{look_fit}
use Rattle.overlay.proofs.ExtentLaws.{source_comes}
use Rattle.overlay.proofs.InsideLaws.{inside}
use Rattle.overlay.proofs.Facts.{as_long, merged_drop, every_look}

-- a cell that no image holds is none of the merged image's
unnamed_cell : (a : ℕ) (x y : Image) → length x ≡ length y → names (source_of x y) ≡ false → cells a (merged x y) ≡ cells (suc a) (drop 1 (merged x y))
unnamed_cell a [] [] h n = refl
unnamed_cell a [] (p ∷ y) h n = absurd (omega arith)
unnamed_cell a (b ∷ x) [] h n = absurd (omega arith)
unnamed_cell a (none ∷ x) (none ∷ y) h n = refl
unnamed_cell a (some b ∷ x) (none ∷ y) h n = absurd (let z : ◌≡◌ {A = ℕ} 0 1 = cc in omega arith)
unnamed_cell a (none ∷ x) (some p ∷ y) h n = absurd (let z : ◌≡◌ {A = ℕ} 0 1 = cc in omega arith)
unnamed_cell a (some b ∷ x) (some p ∷ y) h n = absurd (let z : ◌≡◌ {A = ℕ} 0 1 = cc in omega arith)

filled_length : (l : List ℕ) → non_empty l ≡ true → 0 < length l
filled_length [] e = absurd (let z : ◌≡◌ {A = ℕ} 0 1 = cc in omega arith)
filled_length (x ∷ l) e = omega arith

module _ (B P : Window) (ok : passes (look_refusal B P) ≡ true) where
  abbrev whole : Image
  whole = merging B P

  same_length : length (seen_in B) ≡ length (seen_in P)
  same_length =
      let s = look_fit B P ok in
      omega (arith, length_image B.memory B.marks s.base, length_image P.memory P.marks s.patch, s.both)

  length_whole : length whole ≡ length B.memory
  length_whole =
      as_long (seen_in B) (seen_in P) (sym same_length) ∙ length_image B.memory B.marks (look_fit B P ok).base

  -- the address of an index, and what a look there shows
  abbrev here : ℕ → ℕ
  here i = B.base + i

  abbrev part : ℕ → List ℕ
  part i = look_part B P (here i)

  -- the source there
  source_from : (i : ℕ) → look_source B P (here i) ≡ source_of (from i B) (from i P)
  unfolding look_source source_at
  source_from i = rw (ok, le-ltb (here i) B.base (omega arith), add-sub_cancel_left B.base i)

  -- a look that shows a part: the merged image has its bytes first
  shown_first : (i : ℕ) → drop i whole ≡ map some (part i) ++ drop (i + length (part i)) whole
  shown_first i =
      let k : ℕ = length (part i) in
      let bytes : map some (part i) ≡ take k (drop i whole) = rw add-sub_cancel_left at (every_look B P (here i)).bytes in
      sym (take-append-drop k (drop i whole)) ∙ ap (λ (x : Image). x ++ drop k (drop i whole)) (sym bytes)
      ∙ ap (λ (x : Image). map some (part i) ++ x) (drop-drop k i whole)

  -- so its cells come first
  shown_cells : (i : ℕ) → cells (here i) (drop i whole)
      ≡ cells (here i) (map some (part i)) ++ cells (here (i + length (part i))) (drop (i + length (part i)) whole)
  shown_cells i =
      ap (cells (here i)) (shown_first i) ∙ cells_append (here i) (map some (part i)) (drop (i + length (part i)) whole)
      ∙ ap (λ (n : ℕ). cells (here i) (map some (part i)) ++ cells n (drop (i + length (part i)) whole))
      (rw length-map (add_assoc B.base i (length (part i))))

  -- a look that shows none: there is no cell
  no_cell : (i : ℕ) → non_empty (part i) ≡ false → cells (here i) (drop i whole) ≡ cells (here (suc i)) (drop (suc i) whole)
  no_cell i e =
      let n : names (source_of (from i B) (from i P)) ≡ false = ap names (sym (source_from i)) ∙ sym (every_look B P (here i)).filled ∙ e in
      let l : length (from i B) ≡ length (from i P) = omega (arith, length-drop i (seen_in B), length-drop i (seen_in P), same_length) in
      let m = merged_drop i (seen_in B) (seen_in P) in
      ap (cells (here i)) m ∙ unnamed_cell (here i) (from i B) (from i P) l n
      ∙ ap (λ (x : Image). cells (suc (here i)) (drop 1 x)) (sym m)
      ∙ ap (cells (suc (here i))) (drop-drop 1 i whole ∙ ap (λ (j : ℕ). drop j whole) (add-one i))
      ∙ ap (λ (a : ℕ). cells a (drop (suc i) whole)) (sym (add-suc B.base i))

  -- n looks from an index on, where n are enough
  walk_from : (n i : ℕ) → length B.memory ≤ n + i → flat (walk n B P (here i)) ≡ cells (here i) (drop i whole)
  walk_from zero i h = ap (cells (here i)) (sym (drop_of_length-le whole {i = i} (omega (arith, length_whole))))
  walk_from (suc n) i h =
      by_test (non_empty (part i))
      (λ t. let k : ℕ = length (part i) in
      let rest : flat (walk n B P (here i + k)) ≡ cells (here (i + k)) (drop (i + k) whole)
      = ap (λ (a : ℕ). flat (walk n B P a)) (add_assoc B.base i k) ∙ walk_from n (i + k) (omega (arith, filled_length (part i) t)) in
      rw t (ap (λ (r : List Cell). cells (here i) (map some (part i)) ++ r) rest ∙ sym (shown_cells i)))
      (λ t. rw t (ap (λ (a : ℕ). flat (walk n B P a)) (sym (add-suc B.base i)) ∙ walk_from n (suc i) (omega arith) ∙ sym (no_cell i t)))

-- ---- no two runs that touch come from one image

module _ (B P : Window) where
  -- where the first run of a walk begins an image is named
  starts : (n a : ℕ) (r : Run) (rs : List Run) → walk n B P a ≡ r ∷ rs → names (look_source B P r.addr) ≡ true
  starts zero a r rs e = absurd (let z : ◌≡◌ {A = ℕ} 0 1 = cc in omega arith)
  starts (suc n) a r rs e =
      by_test (non_empty (look_part B P a))
      (λ t. let f : ◌≡◌ {A = List Run} (record { addr = a; bytes = look_part B P a } ∷ walk n B P (a + length (look_part B P a))) (r ∷ rs) = rw t at e in
      let g : ◌≡◌ {A = Run} (record { addr = a; bytes = look_part B P a }) r = cc in
      ap (λ (x : Run). names (look_source B P x.addr)) (sym g) ∙ sym (every_look B P a).filled ∙ t)
      (λ t. starts n (suc a) r rs (rw t at e))

  -- the run that begins where another ends comes from another image
  touching : (a b : ℕ) → names (look_source B P a) ≡ true → names (look_source B P b) ≡ true → a + length (look_part B P a) ≡ b
      → look_source B P a ≡ look_source B P b → ⊥
  touching a b m n e same =
      let h = inside B P a (look_source B P a) m refl in
      let k = inside B P b (look_source B P b) n refl in
      let i : a - B.base + length (look_part B P a) ≡ b - B.base = omega (arith, h.low) in
      let c : comes_at (look_source B P b) B P (b - B.base) ≡ true
      = rw k.source (source_comes (from (b - B.base) B) (from (b - B.base) P) (rw k.source at n)) in
      let d : comes_at (look_source B P b) B P (b - B.base) ≡ false
      = (λ j. comes_at (sym same j) B P (sym i j)) ∙ (every_look B P a).longest in
      let z : ◌≡◌ {A = ℕ} 0 1 = cc in
      omega arith

  parted_more : (a : ℕ) → names (look_source B P a) ≡ true → (rest : List Run)
      → ((r : Run) (rs : List Run) → rest ≡ r ∷ rs → names (look_source B P r.addr) ≡ true)
      → Parted B P rest → Parted B P (record { addr = a; bytes = look_part B P a } ∷ rest)
  parted_more a m [] f p = tt
  parted_more a m (r ∷ rs) f p = (touching a r.addr m (f r rs refl), p)

  parted : (n a : ℕ) → Parted B P (walk n B P a)
  parted zero a = tt
  parted (suc n) a =
      by_test (non_empty (look_part B P a))
      (λ t. let behind = a + length (look_part B P a) in
      rw t (parted_more a (sym (every_look B P a).filled ∙ t) (walk n B P behind) (λ r rs e. starts n behind r rs e) (parted n behind)))
      (λ t. rw t (parted n (suc a)))

  looks : (n a : ℕ) → Looks B P (walk n B P a)
  looks zero a = tt
  looks (suc n) a =
      by_test (non_empty (look_part B P a))
      (λ t. rw t (refl, looks n (a + length (look_part B P a))))
      (λ t. rw t (looks n (suc a)))

-- the looks from a window's start to its end are the runs of the merged image
pub whole_walk : WholeWalk
whole_walk B P ok =
    let n = length B.memory in
    record {
      cells_are = ap (λ (a : ℕ). flat (walk n B P a)) (sym (add-zero B.base)) ∙ walk_from B P ok n 0 (omega arith)
          ∙ ap (λ (a : ℕ). cells a (merging B P)) (add-zero B.base);
      looks = looks B P n B.base;
      parted = parted B P n B.base;
    }

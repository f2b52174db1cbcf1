-- What every look shows: the merged image's bytes, in a part that is the longest and that its source names.
use mathlib.Core.Path.{◌≡◌, refl, sym, ap, ◌∙◌}
use Prim.Native.Nat.{ℕ, zero, suc, ◌+◌, ◌-◌, ◌<◌}
use native.Mathlib.Omega.{arith}
use mathlib.Core.Bool.{true}
use mathlib.Core.List.{List, [], ◌∷◌, map}
use mathlib.Core.Option.{none, some}
use lib.ListN.{length, take, drop, length-drop}
use lib.Seq.{length-take-le, drop-drop}
use Rattle.lists.proofs.TestLaws.{by_test}
use Rattle.window.specs.Windows.{Window}
use Rattle.window.specs.Images.{Image, image}
use Rattle.overlay.specs.declared.Source.{Source}
use Rattle.overlay.specs.declared.Source.TheVariants.{Patch, Base, Neither, Refused}
use Rattle.overlay.specs.Layers.{non_empty, merged}
use Rattle.overlay.specs.Looks.{extent, seen_in, from, memory_of, part_of, look_source, look_part}
use Rattle.overlay.specs.Facts.{names, comes_first, merging, CellByCell, AsLong, Shows, EveryLook}
use Rattle.overlay.proofs.AlignedLaws.{length_image, image_drop}
use Rattle.overlay.proofs.RefusalLaws.{Alike}
use Rattle.overlay.proofs.ExtentLaws.{patch_bytes, base_bytes, extent_le, no_extent, extent_all, extent_stops, extent_first, source_comes}
use Rattle.overlay.proofs.InsideLaws.{Inside, inside, all_aligned, nothing_shown}

-- the merged image is the patch where it is marked, else the base
pub cell_by_cell : CellByCell
cell_by_cell [] [] i = refl
cell_by_cell [] (none ∷ y) zero = refl
cell_by_cell [] (some p ∷ y) zero = refl
cell_by_cell [] (p ∷ y) (suc i) = cell_by_cell [] y i
cell_by_cell (b ∷ x) [] i = refl
cell_by_cell (b ∷ x) (p ∷ y) zero = refl
cell_by_cell (b ∷ x) (p ∷ y) (suc i) = cell_by_cell x y i

-- it is as long as the two images
pub as_long : AsLong
as_long [] y h = h
as_long (b ∷ x) [] h = refl
as_long (b ∷ x) (p ∷ y) h = ap suc (as_long x y (omega arith))

-- images merged, from an index on
pub merged_drop : (i : ℕ) (x y : Image) → drop i (merged x y) ≡ merged (drop i x) (drop i y)
merged_drop zero x y = refl
merged_drop (suc i) [] y = refl
merged_drop (suc i) (b ∷ x) [] = nothing (drop i x)
  where
    nothing : (x : Image) → x ≡ merged x []
    nothing [] = refl
    nothing (b ∷ x) = refl
merged_drop (suc i) (b ∷ x) (p ∷ y) = merged_drop i x y

take_again : (n : ℕ) (l : List ℕ) → take n l ≡ take (length (take n l)) l
take_again zero l = refl
take_again (suc n) [] = refl
take_again (suc n) (x ∷ l) = ap {B = List ℕ} (λ (r : List ℕ). x ∷ r) (take_again n l)

longer : (l : List ℕ) → 0 < length l → non_empty l ≡ true
longer [] h = absurd (omega arith)
longer (x ∷ l) h = refl

module _ (B P : Window) (a : ℕ) where
  abbrev at : ℕ
  at = a - B.base

  abbrev source : Source
  source = look_source B P a

  abbrev count : ℕ
  count = extent source (from at B) (from at P)

  long : (w : Source) → Alike B P → length (memory_of w B P) ≡ length B.memory
  long Patch s = s.both
  long Base s = refl
  long Neither s = refl
  long (Refused f) s = refl

  -- a part is as long as its extent
  pub part_length : length (look_part B P a) ≡ count
  unfolding look_part part_of
  part_length =
      by_test (names source)
      (λ t. let h = inside B P a source t refl in
      length-take-le count (drop at (memory_of source B P)) (omega (
        arith,
        (extent_le source (from at B) (from at P)).0,
        length-drop at (seen_in B),
        length_image B.memory B.marks h.like.base,
        length-drop at (memory_of source B P),
        long source h.like,
      )))
      (λ t. rw (no_extent source t (from at B) (from at P)))

  -- both images and the merged one from the address on, by memory and marks
  bytes_from : (w : Source) (l : List ℕ) → Inside B P a
      → map some (take (extent w (image (drop at B.memory) (drop at B.marks)) (image (drop at P.memory) (drop at P.marks))) l)
      ≡ take (extent w (image (drop at B.memory) (drop at B.marks)) (image (drop at P.memory) (drop at P.marks)))
      (merged (image (drop at B.memory) (drop at B.marks)) (image (drop at P.memory) (drop at P.marks)))
      → map some (take (extent w (from at B) (from at P)) l) ≡ take (extent w (from at B) (from at P)) (drop at (merging B P))
  bytes_from w l h =
      rw (
        merged_drop at (seen_in B) (seen_in P),
        image_drop at B.memory B.marks h.like.base,
        image_drop at P.memory P.marks h.like.patch,
      ) (λ e. e)

  -- it holds the merged image's bytes
  part_bytes : (w : Source) → look_source B P a ≡ w → map some (part_of w B P at) ≡ take (extent w (from at B) (from at P)) (drop at (merging B P))
  unfolding part_of
  part_bytes Patch e =
      let h = inside B P a Patch refl e in
      bytes_from Patch (drop at P.memory) h (patch_bytes (all_aligned B P h.like at))
  part_bytes Base e =
      let h = inside B P a Base refl e in
      bytes_from Base (drop at B.memory) h (base_bytes (all_aligned B P h.like at))
  part_bytes Neither e = rw (no_extent Neither refl (from at B) (from at P))
  part_bytes (Refused f) e = rw (no_extent (Refused f) refl (from at B) (from at P))

  -- it is empty exactly where the source names no image
  part_filled : non_empty (look_part B P a) ≡ names source
  part_filled =
      by_test (names source)
      (λ t. let h = inside B P a source t refl in
      let c : comes_first source (from at B) (from at P) ≡ true = rw h.source (source_comes (from at B) (from at P) (rw h.source at t)) in
      longer (look_part B P a) (omega (arith, part_length, extent_first source (from at B) (from at P) c)) ∙ sym t)
      (λ t. ap non_empty (sym (nothing_shown B P a source t refl)) ∙ sym t)

  -- a look into an image, from the address on
  later : (j : ℕ) (W : Window) → drop j (from at W) ≡ from (at + j) W
  later j W = drop-drop j at (seen_in W)

  shows : Shows B P a
  unfolding look_part part_of
  shows = record {
    own = take_again count (drop at (memory_of source B P));
    filled = part_filled;
    bytes = rw part_length (part_bytes source refl);
    all = λ j h. rw (← (later j B), ← (later j P)) (extent_all source (from at B) (from at P) j (omega (arith, part_length)));
    longest = rw (part_length, ← (later count B), ← (later count P)) (extent_stops source (from at B) (from at P));
  }

-- every look shows the longest run from its address on, in the memory that its source names, with the merged image's bytes
pub every_look : EveryLook
every_look B P a = shows B P a

-- Examples for Req 07: a base and a patch of five cells from the address 100 on.
use Rattle.std.specs.Prelude.{◌≡◌, ℕ, List, [], ◌∷◌, replicate}
use Rattle.std.specs.Prelude.{None, Some}
use Rattle.window.specs.Windows.{Window}
use Rattle.window.specs.Plans.{refusal}
use Rattle.overlay.specs.declared.Source.TheVariants.{Patch, Base, Neither, Refused}
use Rattle.overlay.specs.Looks.{look_source, look_part, look_place}
use Rattle.overlay.specs.Merges.{Lent, lent, window_at, refusal_of, leaves}

-- cells 100, 101 and 102, with a header and an entry
abbrev pub base_image : Lent
base_image = lent (1 ∷ 2 ∷ 3 ∷ 4 ∷ 5 ∷ []) (1 ∷ 1 ∷ 1 ∷ 0 ∷ 0 ∷ []) (66 ∷ []) (Some 7)

-- the memory of the patches, and one of cells 101, 102 and 103, with a header and no entry
abbrev pub patch_memory : List ℕ
patch_memory = 6 ∷ 7 ∷ 8 ∷ 9 ∷ 10 ∷ []

abbrev pub patch_image : Lent
patch_image = lent patch_memory (0 ∷ 1 ∷ 1 ∷ 1 ∷ 0 ∷ []) (80 ∷ []) None

-- cells 100 and 104 alone, with an entry at 0 and no header
abbrev pub outer_patch : Lent
outer_patch = lent patch_memory (1 ∷ 0 ∷ 0 ∷ 0 ∷ 1 ∷ []) [] (Some 0)

-- a bad mark at cell 104 of the base, and at cell 103 of the patch
abbrev pub bad_base : Lent
bad_base = lent (1 ∷ 2 ∷ 3 ∷ 4 ∷ 5 ∷ []) (1 ∷ 1 ∷ 1 ∷ 0 ∷ 3 ∷ []) (66 ∷ []) (Some 7)

abbrev pub bad_patch : Lent
bad_patch = lent patch_memory (0 ∷ 1 ∷ 1 ∷ 2 ∷ 0 ∷ []) (80 ∷ []) None

-- a patch with that mark and a header of so many bytes
abbrev pub long_header : ℕ → Lent
long_header n = lent patch_memory (0 ∷ 1 ∷ 1 ∷ 2 ∷ 0 ∷ []) (replicate n 80) None

-- a patch with one mark too few, and with memory and marks too short
abbrev pub few_marks : Lent
few_marks = lent patch_memory (0 ∷ 1 ∷ 1 ∷ 2 ∷ []) (replicate 253 80) None

abbrev pub few_cells : Lent
few_cells = lent (6 ∷ 7 ∷ []) (0 ∷ 1 ∷ []) [] None

-- images of no cells
abbrev pub no_cells : Lent
no_cells = lent [] [] [] None

-- the window of these buffers from 100 on
abbrev pub at100 : Lent → Window
at100 L = window_at 100 L

-- what looks and merges of these answer
pub record Examples : Type 0 where
  -- a run of the base ends where the patch is marked, and at a cell without a mark
  pub base_source : look_source (at100 base_image) (at100 patch_image) 100 ≡ Base
  pub base_part : look_part (at100 base_image) (at100 patch_image) 100 ≡ 1 ∷ []
  pub base_place : look_place (at100 base_image) (at100 patch_image) 100 (1, 20) (2, 30) ≡ (1, 20)
  pub base_ends : look_part (at100 base_image) (at100 outer_patch) 101 ≡ 2 ∷ 3 ∷ []
  -- a run of the patch goes on over cells that the base holds too, and over others, up to a cell without a mark or the window's end
  pub patch_source : look_source (at100 base_image) (at100 patch_image) 101 ≡ Patch
  pub patch_part : look_part (at100 base_image) (at100 patch_image) 101 ≡ 7 ∷ 8 ∷ 9 ∷ []
  pub patch_place : look_place (at100 base_image) (at100 patch_image) 101 (1, 20) (2, 30) ≡ (2, 31)
  pub patch_alone : look_part (at100 base_image) (at100 outer_patch) 100 ≡ 6 ∷ []
  pub patch_ends : look_part (at100 base_image) (at100 outer_patch) 104 ≡ 10 ∷ []
  -- the other way round
  pub swapped_patch : look_part (at100 patch_image) (at100 base_image) 100 ≡ 1 ∷ 2 ∷ 3 ∷ []
  pub swapped_base : look_part (at100 patch_image) (at100 base_image) 103 ≡ 9 ∷ []
  -- a cell that neither holds, and the addresses before and behind the window
  pub unmarked : look_source (at100 base_image) (at100 patch_image) 104 ≡ Neither
  pub unmarked_part : look_part (at100 base_image) (at100 patch_image) 104 ≡ []
  pub below : look_source (at100 base_image) (at100 patch_image) 99 ≡ Neither
  pub below_part : look_part (at100 base_image) (at100 patch_image) 99 ≡ []
  pub behind : look_source (at100 base_image) (at100 patch_image) 105 ≡ Neither
  pub no_window : look_source (at100 no_cells) (at100 no_cells) 100 ≡ Neither
  -- the last address
  pub top : look_part (window_at 4294967291 base_image) (window_at 4294967291 outer_patch) 4294967295 ≡ 10 ∷ []
  -- refused looks: a length before marks, base marks before patch marks; headers do not matter
  pub look_1 : look_source (at100 bad_base) (at100 few_marks) 100 ≡ Refused (refusal 1 0 0)
  pub look_1_part : look_part (at100 bad_base) (at100 few_marks) 100 ≡ []
  pub look_16_base : look_source (at100 bad_base) (at100 bad_patch) 100 ≡ Refused (refusal 16 0 4)
  pub look_16_patch : look_source (at100 base_image) (at100 (long_header 253)) 100 ≡ Refused (refusal 16 0 3)
  -- refused merges: 1 before 15 before 16
  pub merge_1 : refusal_of 100 bad_base few_marks ≡ refusal 1 0 0
  pub merge_1_cells : refusal_of 100 base_image few_cells ≡ refusal 1 0 0
  pub merge_15 : refusal_of 100 bad_base (long_header 253) ≡ refusal 15 0 0
  pub merge_15_base : refusal_of 100 (long_header 253) base_image ≡ refusal 15 0 0
  pub merge_252 : refusal_of 100 bad_base (long_header 252) ≡ refusal 16 0 4
  pub merge_16 : refusal_of 100 base_image bad_patch ≡ refusal 16 0 3
  pub merge_refused : leaves 100 base_image bad_patch ≡ lent (1 ∷ 2 ∷ 3 ∷ 4 ∷ 5 ∷ []) (1 ∷ 1 ∷ 1 ∷ 0 ∷ 0 ∷ []) [] None
  -- a window may end at 2^32 and not behind it
  pub last : refusal_of 4294967291 base_image patch_image ≡ refusal 0 0 0
  pub too_far : refusal_of 4294967292 base_image patch_image ≡ refusal 1 0 0
  -- a merge: unmarked patch bytes stay out, the patch's header wins, its absent entry does not
  pub merged : leaves 100 base_image patch_image ≡ lent (1 ∷ 7 ∷ 8 ∷ 9 ∷ 5 ∷ []) (1 ∷ 1 ∷ 1 ∷ 1 ∷ 0 ∷ []) (80 ∷ []) (Some 7)
  -- an empty patch header does not win, an entry at 0 does
  pub merged_outer : leaves 100 base_image outer_patch ≡ lent (6 ∷ 2 ∷ 3 ∷ 4 ∷ 10 ∷ []) (1 ∷ 1 ∷ 1 ∷ 0 ∷ 1 ∷ []) (66 ∷ []) (Some 0)

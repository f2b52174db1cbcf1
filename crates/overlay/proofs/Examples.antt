-- The examples hold: each is computed.
use mathlib.Core.Path.{refl}
use Rattle.window.specs.Windows.{row1, row16}
use Rattle.window.specs.Headers.{row15}
use Rattle.overlay.specs.Layers.{patched}
use Rattle.overlay.specs.Refusals.{row1_both, first_row, look_refusal, merge_refusal}
use Rattle.overlay.specs.Looks.{source_at, look_source, part_of, look_part, look_place}
use Rattle.overlay.specs.Merges.{merge_answer, memory_after, marks_after}
use Rattle.overlay.specs.Examples.{Examples}

-- all of them
pub examples_hold : Examples
unfolding row1 row15 row16 row1_both first_row look_refusal merge_refusal source_at look_source part_of look_part look_place patched merge_answer memory_after marks_after
examples_hold = record {
  base_source = refl;
  base_part = refl;
  base_place = refl;
  base_ends = refl;
  patch_source = refl;
  patch_part = refl;
  patch_place = refl;
  patch_alone = refl;
  patch_ends = refl;
  swapped_patch = refl;
  swapped_base = refl;
  unmarked = refl;
  unmarked_part = refl;
  below = refl;
  below_part = refl;
  behind = refl;
  no_window = refl;
  top = refl;
  look_1 = refl;
  look_1_part = refl;
  look_16_base = refl;
  look_16_patch = refl;
  merge_1 = refl;
  merge_1_cells = refl;
  merge_15 = refl;
  merge_15_base = refl;
  merge_252 = refl;
  merge_16 = refl;
  merge_refused = refl;
  last = refl;
  too_far = refl;
  merged = refl;
  merged_outer = refl;
}

-- Each way out of `part_at`, over windows whose marks are flags.
use mathlib.Core.Path.{◌≡◌, sym, ap, ◌∙◌}
use Prim.Native.Nat.{ℕ, ◌+◌, ◌-◌, ◌≤◌}
use native.Mathlib.Nat.{add-sub_cancel_left}
use native.Mathlib.Omega.{arith}
use mathlib.Core.Bool.{false}
use mathlib.Core.List.{[]}
use lib.ListN.{length, take, drop, length-drop}
use Rattle.window.specs.Windows.{Window}
use Rattle.window.specs.Walks.{unmarked, run_on}
use Rattle.window.proofs.WalkLaws.{run_inside}
use Rattle.overlay.specs.declared.Source.{Source}
use Rattle.overlay.specs.declared.Source.TheVariants.{Patch, Base}
use Rattle.overlay.specs.Looks.{extent, from, memory_of, part_of}
use Rattle.overlay.specs.Facts.{names}
use Rattle.overlay.proofs.RefusalLaws.{Alike}
use Rattle.overlay.proofs.ExtentLaws.{patch_extent, base_extent, no_extent}
use Rattle.overlay.proofs.InsideLaws.{all_aligned, by_marks}

module _ (B P : Window) (like : Alike B P) (i : ℕ) (low : i ≤ length B.memory) where
  -- a run of the patch, which at most all cells can follow
  module _ (to : ℕ) (is : to ≡ i + run_on (length P.memory) (drop i P.marks)) where
    pub patch_within : to ≤ length P.memory
    patch_within = omega (arith, like.patch, like.both, run_inside (length P.memory) (drop i P.marks), length-drop i P.marks)

    pub patch_part : take (to - i) (drop i P.memory) ≡ part_of Patch B P i
    unfolding part_of
    patch_part =
        let few : length (drop i P.marks) ≤ length P.memory = omega (arith, like.patch, length-drop i P.marks) in
        rw (is, add-sub_cancel_left)
        (ap (λ (n : ℕ). take n (drop i P.memory)) (sym (by_marks B P like i Patch ∙ patch_extent (all_aligned B P like i) (length P.memory) few)))

  -- a run of the base, up to the next marked cell of the patch
  module _ (stop : ℕ) (next : stop ≡ i + unmarked (drop i P.marks)) where
    module _ (to : ℕ) (is : to ≡ i + run_on (stop - i) (drop i B.marks)) where
      pub base_within : to ≤ length B.memory
      base_within = omega (arith, like.base, run_inside (stop - i) (drop i B.marks), length-drop i B.marks)

      pub base_part : take (to - i) (drop i B.memory) ≡ part_of Base B P i
      unfolding part_of
      base_part =
          rw (is, next, add-sub_cancel_left, add-sub_cancel_left)
          (ap (λ (n : ℕ). take n (drop i B.memory)) (sym (by_marks B P like i Base ∙ base_extent (all_aligned B P like i))))

-- no image is named: an empty part
pub empty_part : (B P : Window) (w : Source) → names w ≡ false → (i : ℕ) → [] ≡ part_of w B P i
unfolding part_of
empty_part B P w h i = sym (ap (λ (n : ℕ). take n (drop i (memory_of w B P))) (no_extent w h (from i B) (from i P)))

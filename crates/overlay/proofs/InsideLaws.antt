-- A look whose source names an image: where its address lies, and the images from there on.
use mathlib.Core.Path.{◌≡◌, refl, sym, ap, ◌∙◌}
use Prim.Native.Nat.{ℕ, ◌-◌, ◌≤◌, ◌<◌}
use native.Mathlib.Omega.{arith}
use mathlib.Core.Bool.{true, false}
use mathlib.Core.List.{[]}
use lib.Dec.{ltb}
use lib.ListN.{length, take, drop}
use borrow.Author.Tests.{ltb-true, ltb-false}
use Rattle.lists.proofs.TestLaws.{by_test}
use Rattle.window.specs.Windows.{Window}
use Rattle.window.specs.Images.{image}
use Rattle.overlay.specs.declared.Source.{Source}
use Rattle.overlay.specs.declared.Source.TheVariants.{Neither, Refused}
use Rattle.window.specs.Plans.{passes}
use Rattle.overlay.specs.Refusals.{look_refusal}
use Rattle.overlay.specs.Looks.{source_of, extent, from, source_at, look_source, memory_of, part_of, look_part}
use Rattle.overlay.specs.Facts.{names}
use Rattle.overlay.proofs.AlignedLaws.{Aligned, aligned, aligned_drop, image_drop}
use Rattle.overlay.proofs.RefusalLaws.{Alike, look_fit}
use Rattle.overlay.proofs.ExtentLaws.{no_extent}
use Rattle.overlay.proofs.SourceLaws.{source_passed, source_behind}

-- two windows of one length, from an index on
module _ (B P : Window) (like : Alike B P) (i : ℕ) where
  -- memory and marks of both
  pub all_aligned : Aligned (drop i B.memory) (drop i B.marks) (drop i P.memory) (drop i P.marks)
  all_aligned = aligned_drop i (aligned B.memory B.marks P.memory P.marks like.base like.patch like.both)

  -- the length of a run, by memory and marks
  pub by_marks : (w : Source) → extent w (from i B) (from i P)
      ≡ extent w (image (drop i B.memory) (drop i B.marks)) (image (drop i P.memory) (drop i P.marks))
  by_marks w = rw (image_drop i B.memory B.marks like.base, image_drop i P.memory P.marks like.patch)

module _ (B P : Window) (a : ℕ) where
  -- the index of the address
  abbrev pub at : ℕ
  at = a - B.base

  -- the address lies in the window, no row applies, and the source is that of its cell
  pub record Inside : Type 0 where
    pub like : Alike B P
    pub low : B.base ≤ a
    pub high : at < length B.memory
    pub source : look_source B P a ≡ source_of (from at B) (from at P)

  unnamed : (w : Source) (v : Source) → names v ≡ true → w ≡ v → names w ≡ false → ⊥
  unnamed w v h e n = let z : ◌≡◌ {A = ℕ} 0 1 = cc in omega arith

  -- so it is where the source names an image
  pub inside : (w : Source) → names w ≡ true → look_source B P a ≡ w → Inside
  unfolding look_source source_at
  inside w h e =
      by_test (passes (look_refusal B P))
      (λ t. by_test (ltb a B.base) (λ u. absurd (unnamed Neither w h (rw (t, u) at e) refl))
      (λ u. by_test (ltb at (length B.memory))
      (λ v. record { like = look_fit B P t; low = ltb-false a B.base u; high = ltb-true at (length B.memory) v; source = rw (t, u) })
      (λ v. absurd (unnamed Neither w h (sym (source_behind B P (look_fit B P t) a (ltb-false a B.base u) (ltb-false at (length B.memory) v)) ∙ sym (source_passed B P t a) ∙ e) refl))))
      (λ t. absurd (unnamed (Refused (look_refusal B P)) w h (rw t at e) refl))

  -- where no image is named the part is empty
  pub nothing_shown : (w : Source) → names w ≡ false → look_source B P a ≡ w → [] ≡ look_part B P a
  unfolding look_part part_of
  nothing_shown w h e = rw e (sym (ap (λ (n : ℕ). take n (drop at (memory_of w B P))) (no_extent w h (from at B) (from at P))))

-- The statements of specs/Agreement hold: packed looks and merges are those of the byte form.
use mathlib.Core.Path.{◌≡◌, refl, ◌∙◌}
use Prim.Native.Nat.{ℕ}
use native.Mathlib.Omega.{arith}
use mathlib.Core.Bool.{true, ◌||◌}
use lib.ListN.{length}
use Rattle.lists.proofs.TestLaws.{by_test}
use Rattle.window.specs.Images.{image}
use Rattle.window.specs.Headers.{row15}
use Rattle.marks.specs.declared.Form.TheVariants.{Packed}
use Rattle.marks.specs.Forms.{flags, plain}
use Rattle.marks.proofs.FormLaws.{flags_are, image_clean}
use Rattle.overlay.specs.Layers.{patched}
use Rattle.window.specs.Plans.{passes}
use Rattle.overlay.specs.Refusals.{row1_both_in, bad_of, merge_refusal, merge_refusal_in}
use Rattle.overlay.specs.Looks.{look_part, look_place}
use Rattle.overlay.specs.Merges.{Lent, window_at, content_of, refusal_of, merge_answer, memory_after, marks_after}
use Rattle.overlay.specs.Forms.{look_part_in, look_place_in, plain_lent, merged_in, refusal_in, merge_answer_in, memory_after_in, marks_after_in}
use Rattle.overlay.specs.Agreement.{LookAgrees, MergeAgrees}
use Rattle.overlay.proofs.AlignedLaws.{length_image}
use Rattle.overlay.proofs.RefusalLaws.{Alike, alike_in, plain_alike, passed}
use Rattle.overlay.proofs.Facts.{as_long}
use Rattle.overlay.proofs.FormLaws.{same_refusal_lem, plain_source}

-- ---- looks

pub look_agrees : LookAgrees
unfolding look_part_in look_part look_place_in look_place
look_agrees B P a ok = let s = plain_source Packed B P a ok in record { source = s; part = rw s; place = λ base patch. rw s }

-- ---- merges

module _ (base : ℕ) (B P : Lent) (x : (refusal_in Packed base B P).reason ≡ 1 → ⊥) (y : (refusal_in Packed base B P).reason ≡ 16 → ⊥) where
  merge_refusal_lem : refusal_in Packed base B P ≡ refusal_of base (plain_lent Packed B) (plain_lent Packed P)
  unfolding merge_refusal_in merge_refusal
  merge_refusal_lem = same_refusal_lem Packed (window_at base B) (window_at base P) (row15 B.header || row15 P.header) x y

  merge_answer_lem : merge_answer_in Packed base B P ≡ merge_answer base (plain_lent Packed B) (plain_lent Packed P)
  unfolding merge_answer_in merge_answer
  merge_answer_lem = rw merge_refusal_lem

  merge_memory : memory_after_in Packed base B P ≡ memory_after base (plain_lent Packed B) (plain_lent Packed P)
  unfolding memory_after_in memory_after
  merge_memory = rw merge_refusal_lem

-- the merged image has as many cells as the base
module _ (base : ℕ) (B P : Lent) (ok : passes (refusal_in Packed base B P) ≡ true) where
  merged_long : length (merged_in Packed B P).cells ≡ length B.memory
  unfolding patched merge_refusal_in
  merged_long =
      let own = alike_in Packed (window_at base B) (window_at base P)
      (passed (row1_both_in Packed (window_at base B) (window_at base P)) (row15 B.header || row15 P.header) (bad_of Packed (window_at base B))
      (bad_of Packed (window_at base P)) ok).fit in
      let l : Alike (plain Packed (window_at base B)) (plain Packed (window_at base P))
      = plain_alike Packed (window_at base B) (window_at base P) own.base own.patch own.both in
      let b = length_image B.memory (flags Packed (length B.memory) B.marks) l.base in
      let p = length_image P.memory (flags Packed (length P.memory) P.marks) l.patch in
      as_long (content_of (plain_lent Packed B)).cells (content_of (plain_lent Packed P)).cells (omega (arith, b, p, l.both)) ∙ b

pub merge_agrees : MergeAgrees
unfolding marks_after_in marks_after
merge_agrees base B P x y =
    let e = merge_refusal_lem base B P x y in
    record {
      answer = merge_answer_lem base B P x y;
      memory_same = merge_memory base B P x y;
      unpacked = by_test (passes (refusal_in Packed base B P))
          (λ t. rw (← e, t) (flags_are Packed (merged_in Packed B P).cells (length B.memory) (merged_long base B P t) _ refl))
          (λ t. rw (← e, t));
      no_spare = λ t. rw t (image_clean (merged_in Packed B P).cells (length B.memory) (merged_long base B P t));
    }

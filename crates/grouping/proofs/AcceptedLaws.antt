-- A merge is accepted exactly when each image passes its rows, in windows of one length; and what it leaves passes them, too.
use mathlib.Core.Path.{◌≡◌, refl, sym, ap, ◌∙◌, subst}
use Prim.Native.Nat.{ℕ}
use native.Mathlib.Omega.{arith}
use mathlib.Core.Bool.{true, false, not, ◌||◌}
use mathlib.Core.List.{List, [], ◌∷◌}
use lib.Dec.{eqb}
use lib.ListN.{length, length-map}
use borrow.Author.Tests.{eq-eqb, eqb-true, le-ltb, not-false}
use Rattle.lists.proofs.TestLaws.{or_neither}
use Rattle.window.specs.Windows.{window_of, row1, row16, first_bad_mark}
use Rattle.window.specs.Images.{Image, mark, marks_of, overlaid}
use Rattle.window.specs.Headers.{row15}
use Rattle.window.proofs.RowLaws.{allowed_inv, allowed_is}
use Rattle.window.proofs.ViewLaws.{length_overlaid, no_odd}
use Rattle.marks.specs.declared.Form.TheVariants.{Bytes}
use Rattle.marks.proofs.FormLaws.{no_bad}
use Rattle.overlay.specs.Layers.{laid, non_empty, merged, patched}
use Rattle.overlay.specs.Refusals.{row1_both, bad_in, first_row, merge_refusal}
use Rattle.overlay.specs.Merges.{Lent, window_at, content_of, leaves}
use Rattle.overlay.proofs.AlignedLaws.{length_image}
use Rattle.overlay.proofs.RefusalLaws.{passed}
use Rattle.overlay.proofs.Facts.{as_long}
use Rattle.overlay.proofs.LeaveLaws.{left}
use Rattle.grouping.specs.Grouping.{Accepted}

-- an image that passes its rows, in a window of so many cells
pub record Good (base n : ℕ) (L : Lent) : Type 0 where
  pub fit : row1 (window_at base L) ≡ false
  pub long : length L.memory ≡ n
  pub short : row15 L.header ≡ false
  pub clean : row16 L.marks ≡ false

module _ (base : ℕ) where
  -- both images of an accepted merge do
  pub good_both : (B P : Lent) → Accepted base B P → Good base (length B.memory) B × Good base (length B.memory) P
  unfolding merge_refusal row1_both
  good_both B P ok =
      let U = window_at base B in
      let W = window_at base P in
      let p = passed (row1_both U W) (row15 B.header || row15 P.header) (bad_in U) (bad_in W) ok in
      let s = or_neither (row1 U) (row1 W || not (eqb (length B.memory) (length P.memory))) p.fit in
      let t = or_neither (row1 W) (not (eqb (length B.memory) (length P.memory))) s.1 in
      let h = or_neither (row15 B.header) (row15 P.header) p.short in
      let e = eqb-true (length B.memory) (length P.memory) (not-false (eqb (length B.memory) (length P.memory)) t.1) in (
        record { fit = s.0; long = refl; short = h.0; clean = no_bad Bytes (length B.memory) B.marks p.clean.0 },
        record { fit = t.0; long = sym e; short = h.1; clean = no_bad Bytes (length P.memory) P.marks p.clean.1 },
      )

  module _ (n : ℕ) (B P : Lent) (b : Good base n B) (p : Good base n P) where
    -- the merge of two that do is accepted
    pub good_accepted : Accepted base B P
    unfolding merge_refusal row1_both first_row
    good_accepted =
        rw (b.fit, p.fit, eq-eqb (length B.memory) (length P.memory) (b.long ∙ sym p.long), b.short, p.short, b.clean, p.clean) refl

    -- the buffers that it leaves
    abbrev memory : List ℕ
    memory = overlaid B.memory (content_of P).cells

    abbrev img : Image
    img = merged (content_of B).cells (content_of P).cells

    memory_long : length memory ≡ n
    memory_long = length_overlaid B.memory (content_of P).cells ∙ b.long

    marks_long : length (marks_of img) ≡ n
    marks_long =
        let v = allowed_inv (window_at base B) b.fit in
        let w = allowed_inv (window_at base P) p.fit in
        let k = length_image B.memory B.marks v.0 in
        let j = length_image P.memory P.marks w.0 in
        length-map img mark ∙ as_long (content_of B).cells (content_of P).cells (j ∙ p.long ∙ sym (k ∙ b.long)) ∙ k ∙ b.long

    -- and what it leaves passes them
    pub good_left : Good base n (leaves base B P)
    unfolding patched row16
    good_left = subst (Good base n) (sym (left base B P good_accepted)) (record {
      fit = allowed_is (window_of base memory (marks_of img)) (marks_long ∙ sym memory_long)
          (omega (arith, (allowed_inv (window_at base B) b.fit).1, b.long, memory_long));
      long = memory_long;
      short = header_short B.header P.header b.short p.short;
      clean = le-ltb (first_bad_mark (marks_of img)) (length (marks_of img)) (omega (arith, no_odd img));
    })
      where
        header_short : (h k : List ℕ) → row15 h ≡ false → row15 k ≡ false → row15 (laid non_empty h k) ≡ false
        header_short h [] e f = e
        header_short h (x ∷ k) e f = f

-- Req 10 over what merges leave, from the algebra of LayLaws.
use mathlib.Core.Path.{◌≡◌, refl, sym, ap, ◌∙◌, subst}
use Prim.Native.Nat.{ℕ, ◌+◌}
use mathlib.Core.List.{[]}
use mathlib.Core.Logic.{⊎_elim, inl, inr}
use lib.ListN.{length, get_or}
use Rattle.std.specs.Prelude.{None}
use Rattle.window.specs.Images.{marks_of, overlaid}
use Rattle.window.specs.Plans.{is_present}
use Rattle.window.specs.Cells.{cells}
use Rattle.overlay.specs.Layers.{non_empty, Content, patched}
use Rattle.overlay.specs.Merges.{Lent, content_of, leaves}
use Rattle.grouping.specs.Grouping.{Accepted, Agree, Empty, NoSharedCell, OneHeader, OneEntry, AnyGrouping, AnyGroupingBack, EmptyPatch, EmptyBase, IntoItself, EitherOrder}
use Rattle.grouping.proofs.LayLaws.{Void, Separate, grouped, nothing_over, over_void, over_itself, exchanged}
use Rattle.overlay.proofs.AlignedLaws.{length_image}
use Rattle.grouping.proofs.AcceptedLaws.{Good, good_both, good_accepted, good_left}
use Rattle.grouping.proofs.ImageLaws.{marks_again, overlaid_self, overlaid_bare, no_cells, same_image, disjoint}
use Rattle.overlay.proofs.LeaveLaws.{fits, left, left_content}

-- buffers that say the same agree in addressed cells, header and entry
agree : (base : ℕ) (X Y : Lent) → content_of X ≡ content_of Y → Agree base X Y
agree base X Y e = record {
  cells = ap (λ (c : Content). cells base c.cells) e;
  header = ap (λ (c : Content). c.header) e;
  entry = ap (λ (c : Content). c.entry) e;
}

-- two merges one after the other
left_twice : (base : ℕ) (A B C : Lent) → Accepted base A B → Accepted base (leaves base A B) C
    → content_of (leaves base (leaves base A B) C) ≡ patched (patched (content_of A) (content_of B)) (content_of C)
left_twice base A B C p q =
    left_content base (leaves base A B) C q ∙ ap (λ (c : Content). patched c (content_of C)) (left_content base A B p)

-- the other grouping of three that one grouping accepts
module _ (base : ℕ) (A B C : Lent) (p : Accepted base A B) (q : Accepted base (leaves base A B) C) where
  abbrev n : ℕ
  n = length A.memory

  one : Good base n A × Good base n B
  one = good_both base A B p

  three : Good base n C
  three =
      let l = good_left base n A B one.0 one.1 in
      subst (λ (k : ℕ). Good base k C) l.long (good_both base (leaves base A B) C q).1

  last_two : Accepted base B C
  last_two = good_accepted base n B C one.1 three

  last_two_first : Accepted base A (leaves base B C)
  last_two_first = good_accepted base n A (leaves base B C) one.0 (good_left base n B C one.1 three)

-- Req 10: both groupings agree
pub any_grouping : AnyGrouping
any_grouping base A B C p q =
    let r = last_two base A B C p q in
    let s = last_two_first base A B C p q in (
      r,
      s,
      agree base (leaves base (leaves base A B) C) (leaves base A (leaves base B C))
          (left_twice base A B C p q ∙ grouped (content_of A) (content_of B) (content_of C)
          ∙ sym (left_content base A (leaves base B C) s ∙ ap (patched (content_of A)) (left_content base B C r))),
    )

-- and one is accepted where the other is
pub any_grouping_back : AnyGroupingBack
any_grouping_back base A B C r s =
    let n = length A.memory in
    let g = good_both base A (leaves base B C) s in
    let h = good_both base B C r in
    let m : length B.memory ≡ n = sym (good_left base (length B.memory) B C h.0 h.1).long ∙ g.1.long in
    let b = subst (λ (k : ℕ). Good base k B) m h.0 in
    let c = subst (λ (k : ℕ). Good base k C) m h.1 in
    (good_accepted base n A B g.0 b, good_accepted base n (leaves base A B) C (good_left base n A B g.0 b) c)

-- an image of nothing, in a window of as many cells as another's
void : (base : ℕ) (A E : Lent) → length E.marks ≡ length E.memory → length A.marks ≡ length A.memory
    → length E.memory ≡ length A.memory → Empty base E → Void (length (content_of A).cells) (content_of E)
void base A E e a l h = record {
  bare = no_cells base (content_of E).cells h.cells;
  long = length_image E.memory E.marks e ∙ l ∙ sym (length_image A.memory A.marks a);
  header = ap non_empty h.header;
  entry = ap is_present h.entry;
}

-- a merge that leaves memory as it is, and what the base says, leaves the very buffers
same_buffers : (base : ℕ) (A P : Lent) (ok : Accepted base A P) → overlaid A.memory (content_of P).cells ≡ A.memory
    → patched (content_of A) (content_of P) ≡ content_of A → leaves base A P ≡ A
same_buffers base A P ok m c =
    let f = fits base A P ok in
    left base A P ok ∙ (λ i. record {
      memory = m i;
      marks = (ap (λ (x : Content). marks_of x.cells) c ∙ marks_again A.memory A.marks f.like.base f.clean.0) i;
      header = (c i).header;
      entry = (c i).entry;
    })

-- Req 10: an image with no cells, empty header and absent entry changes nothing that it is merged into
pub empty_patch : EmptyPatch
empty_patch base A E ok h =
    let f = fits base A E ok in
    same_buffers base A E ok (overlaid_bare A.memory (content_of E).cells (no_cells base (content_of E).cells h.cells))
    (nothing_over (content_of A) (content_of E) (void base A E f.like.patch f.like.base f.like.both h))

-- Req 10: nor what is merged into it
pub empty_base : EmptyBase
empty_base base E A ok h =
    let f = fits base E A ok in
    agree base (leaves base E A) A
    (left_content base E A ok ∙ over_void (content_of E) (content_of A) (void base A E f.like.base f.like.patch (sym f.like.both) h))

-- Req 10: nor does an image merged into itself
pub into_itself : IntoItself
into_itself base A C ok h =
    let f = fits base A C ok in
    let l : length (content_of C).cells ≡ length (content_of A).cells
    = length_image C.memory C.marks f.like.patch ∙ f.like.both ∙ sym (length_image A.memory A.marks f.like.base) in
    let c : (content_of C).cells ≡ (content_of A).cells = same_image base (content_of C).cells (content_of A).cells l (sym h.cells) in
    same_buffers base A C ok (ap (overlaid A.memory) c ∙ overlaid_self A.memory A.marks)
    (ap (patched (content_of A)) (λ i. record { cells = c i; header = sym h.header i; entry = sym h.entry i }) ∙ over_itself (content_of A))

-- patches of which no part is in both
separate : (base : ℕ) (A P Q : Lent) → Accepted base A P → Accepted base A Q → NoSharedCell base P Q → OneHeader P Q → OneEntry P Q
    → Separate (content_of P) (content_of Q)
separate base A P Q p q c h n = record {
  cells = disjoint P.memory P.marks Q.memory Q.marks (fits base A P p).clean.1 (fits base A Q q).clean.1
      (λ i k l x y. c (base + i) (get_or P.memory i 0) (get_or Q.memory i 0) (i, k, x, refl, refl) (i, l, y, refl, refl));
  header = ⊎_elim (λ (e : P.header ≡ []). inl (ap non_empty e)) (λ (e : Q.header ≡ []). inr (ap non_empty e)) h;
  entry = ⊎_elim (λ (e : P.entry ≡ None). inl (ap is_present e)) (λ (e : Q.entry ≡ None). inr (ap is_present e)) n;
}

-- Req 10: two patches may change places
pub either_order : EitherOrder
either_order base A P Q p q c h n =
    let k = length A.memory in
    let a = (good_both base A P p).0 in
    let g = (good_both base A P p).1 in
    let f = three base A P Q p q in
    let r = good_accepted base k A Q a f in
    let s = good_accepted base k (leaves base A Q) P (good_left base k A Q a f) g in (
      r,
      s,
      agree base (leaves base (leaves base A P) Q) (leaves base (leaves base A Q) P)
          (left_twice base A P Q p q ∙ exchanged (content_of A) (content_of P) (content_of Q) (separate base A P Q p r c h n)
          ∙ sym (left_twice base A Q P r s)),
    )

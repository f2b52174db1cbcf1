-- What an accepted merge leaves in the base's buffers says what the two images, merged, say.
use mathlib.Core.Path.{◌≡◌, refl, sym, ap, ◌∙◌}
use Prim.Native.Nat.{ℕ, zero, suc, ◌-◌}
use native.Mathlib.Omega.{arith}
use mathlib.Core.Bool.{true}
use mathlib.Core.List.{List}
use lib.Bits.{or_zero_r}
use lib.ListN.{length, get_or, replicate}
use lib.Seq.{take-append_seam}
use Rattle.window.specs.Images.{Image, image, marks_of, overlaid}
use Rattle.layers.specs.Layers.{joined}
use Rattle.overlay.specs.Layers.{merged, Content, patched}
use Rattle.window.specs.Plans.{passes}
use Rattle.overlay.specs.Merges.{Lent, window_at, content_of, refusal_of, merge_answer, memory_after, marks_after, leaves}
use Rattle.overlay.specs.Facts.{MergeShows, MergeLeaves}
use Rattle.overlay.proofs.AlignedLaws.{length_image, merge_shown, Aligned, ends, next, aligned, merge_marks}
use Rattle.overlay.proofs.RefusalLaws.{Fit, fit}

module _ (base : ℕ) (B P : Lent) (ok : passes (refusal_of base B P) ≡ true) where
  -- the merge's windows, marks and headers pass every row
  pub fits : Fit (window_at base B) B.header (window_at base P) P.header
  fits = fit (window_at base B) B.header (window_at base P) P.header ok

  -- what the two images say, merged
  abbrev pub both : Content
  both = patched (content_of B) (content_of P)

  -- the buffers, header and entry that an accepted merge leaves
  pub left : leaves base B P ≡ record { memory = overlaid B.memory (content_of P).cells; marks = marks_of both.cells; header = both.header; entry = both.entry }
  unfolding merge_answer memory_after marks_after
  left = rw (ok, take-append_seam both.header (replicate (252 - length both.header) 0))

  -- they say what the two images say, merged
  pub left_content : content_of (leaves base B P) ≡ both
  unfolding patched
  left_content =
      let f = fits in
      ap content_of left ∙ ap (λ (x : Image). record { cells = x; header = both.header; entry = both.entry })
      (merge_shown B.memory B.marks (content_of P).cells f.like.base (length_image P.memory P.marks f.like.patch ∙ f.like.both))

-- for every accepted merge
pub merge_shows : MergeShows
merge_shows base B P ok = left_content base B P ok

-- ---- cell by cell

-- an image over memory, at an index
byte_stays : {m k n j : List ℕ} → Aligned m k n j → (i : ℕ) → get_or j i 0 ≡ 0 → get_or (overlaid m (image n j)) i 0 ≡ get_or m i 0
byte_stays ends i e = refl
byte_stays (next b x d zero s) zero e = refl
byte_stays (next b x d (suc y) s) zero e = absurd (omega arith)
byte_stays (next b x d zero s) (suc i) e = byte_stays s i e
byte_stays (next b x d (suc y) s) (suc i) e = byte_stays s i e

byte_wins : {m k n j : List ℕ} → Aligned m k n j → (i : ℕ) → get_or j i 0 ≡ 1 → get_or (overlaid m (image n j)) i 0 ≡ get_or n i 0
byte_wins ends i e = refl
byte_wins (next b x d zero s) zero e = absurd (omega arith)
byte_wins (next b x d (suc y) s) zero e = refl
byte_wins (next b x d zero s) (suc i) e = byte_wins s i e
byte_wins (next b x d (suc y) s) (suc i) e = byte_wins s i e

-- joined marks, at an index
mark_stays : {m k n j : List ℕ} → Aligned m k n j → (i : ℕ) → get_or j i 0 ≡ 0 → get_or (joined k j) i 0 ≡ get_or k i 0
mark_stays ends i e = refl
mark_stays (next b x d zero s) zero e = or_zero_r x
mark_stays (next b x d (suc y) s) zero e = absurd (omega arith)
mark_stays (next b x d y s) (suc i) e = mark_stays s i e

mark_wins : {m k n j : List ℕ} → Aligned m k n j → (i : ℕ) → get_or j i 0 ≡ 1 → get_or (marks_of (merged (image m k) (image n j))) i 0 ≡ 1
mark_wins ends i e = absurd (omega arith)
mark_wins (next b x d zero s) zero e = absurd (omega arith)
mark_wins (next b x d (suc y) s) zero e = refl
mark_wins (next b x d y s) (suc i) e = mark_wins s i e

-- what an accepted merge leaves of a cell
pub merge_leaves : MergeLeaves
unfolding patched
merge_leaves base B P ok i h =
    let f = fits base B P ok in
    let s = aligned B.memory B.marks P.memory P.marks f.like.base f.like.patch f.like.both in
    let memory = ap (λ (L : Lent). get_or L.memory i 0) (left base B P ok) in
    let marks = ap (λ (L : Lent). get_or L.marks i 0) (left base B P ok) in
    record {
      stays = λ e. (memory ∙ byte_stays s i e, marks ∙ ap (λ (l : List ℕ). get_or l i 0) (sym (merge_marks s f.clean.0 f.clean.1)) ∙ mark_stays s i e);
      wins = λ e. (memory ∙ byte_wins s i e, marks ∙ mark_wins s i e);
    }

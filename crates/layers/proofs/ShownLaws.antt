-- The marked cells of an image laid over memory, one run after the other.
use mathlib.Core.Path.{◌≡◌, refl, sym, ap, ◌∙◌}
use Prim.Native.Nat.{ℕ, zero, suc, ◌+◌, ◌-◌, ◌≤◌, ◌<◌}
use native.Mathlib.Nat.{le_of_suc-le-suc, not-suc-le-zero}
use native.Mathlib.Omega.{arith}
use mathlib.Core.List.{List, [], ◌∷◌}
use lib.Dec.{ltb}
use lib.ListN.{length, get_or, take, drop, length-drop}
use lib.Seq.{ext_get_or, get_or-take, get_or-drop, length-take-le, drop-drop}
use borrow.Author.Tests.{lt-ltb, ltb-true, ltb-false}
use Rattle.lists.specs.Lists.{over}
use Rattle.lists.proofs.TestLaws.{by_test}
use Rattle.lists.proofs.OverLaws.{over_length}
use Rattle.lists.proofs.OverIndexLaws.{over_below, over_inside, over_above}
use Rattle.window.specs.Images.{image, overlaid}
use Rattle.window.specs.Walks.{unmarked, run_on}
use Rattle.window.proofs.WalkLaws.{gap_inside, run_inside}
use Rattle.window.proofs.ViewLaws.{length_overlaid}

-- ---- the flags of a run, and before it

-- the first cells without a mark have none
gap_clear : (fs : List ℕ) (j : ℕ) → j < unmarked fs → get_or fs j 0 ≡ 0
gap_clear [] j h = refl
gap_clear (zero ∷ fs) zero h = refl
gap_clear (zero ∷ fs) (suc j) h = gap_clear fs j (omega arith)
gap_clear (suc m ∷ fs) j h = absurd (omega arith)

-- the cells of a run are marked
run_set : (most : ℕ) (fs : List ℕ) (j : ℕ) → j < run_on most fs → (get_or fs j 0 ≡ 0 → ⊥)
run_set most [] j h z = absurd (omega arith)
run_set most (zero ∷ fs) j h z = absurd (omega arith)
run_set zero (suc m ∷ fs) j h z = absurd (omega arith)
run_set (suc most) (suc m ∷ fs) zero h z = omega arith
run_set (suc most) (suc m ∷ fs) (suc j) h z =
    let e : suc most - 1 ≡ most = omega arith in
    let k : suc j < suc (run_on most fs) = rw (lt-ltb 0 (suc most) (omega arith), e) at h in run_set most fs j (omega arith) z

-- a next cell, and the run behind it, are one cell at least
some_cell : (most : ℕ) (fs : List ℕ) → 0 < length fs → 0 < most → 0 < unmarked fs + run_on most (drop (unmarked fs) fs)
some_cell most [] h k = absurd (omega arith)
some_cell most (zero ∷ fs) h k = omega arith
some_cell most (suc m ∷ fs) h k = rw (lt-ltb 0 most k) (omega arith)

-- ---- one cell

-- where it is marked, the byte of the image; else the byte below
laid_marked : (memory bytes fs : List ℕ) (i : ℕ) → length bytes ≡ length memory → length fs ≡ length memory → i < length memory
    → (get_or fs i 0 ≡ 0 → ⊥) → get_or (overlaid memory (image bytes fs)) i 0 ≡ get_or bytes i 0
laid_marked [] bytes fs i p q h z = absurd (not-suc-le-zero h)
laid_marked (x ∷ memory) [] fs i p q h z = absurd (omega arith)
laid_marked (x ∷ memory) (b ∷ bytes) [] i p q h z = absurd (omega arith)
laid_marked (x ∷ memory) (b ∷ bytes) (zero ∷ fs) zero p q h z = absurd (z refl)
laid_marked (x ∷ memory) (b ∷ bytes) (suc m ∷ fs) zero p q h z = refl
laid_marked (x ∷ memory) (b ∷ bytes) (zero ∷ fs) (suc i) p q h z =
    laid_marked memory bytes fs i (omega arith) (omega arith) (le_of_suc-le-suc h) z
laid_marked (x ∷ memory) (b ∷ bytes) (suc m ∷ fs) (suc i) p q h z =
    laid_marked memory bytes fs i (omega arith) (omega arith) (le_of_suc-le-suc h) z

laid_unmarked : (memory bytes fs : List ℕ) (i : ℕ) → get_or fs i 0 ≡ 0 → get_or (overlaid memory (image bytes fs)) i 0 ≡ get_or memory i 0
laid_unmarked [] bytes fs i z = refl
laid_unmarked (x ∷ memory) [] fs i z = refl
laid_unmarked (x ∷ memory) (b ∷ bytes) [] i z = refl
laid_unmarked (x ∷ memory) (b ∷ bytes) (zero ∷ fs) zero z = refl
laid_unmarked (x ∷ memory) (b ∷ bytes) (suc m ∷ fs) zero z = absurd (omega arith)
laid_unmarked (x ∷ memory) (b ∷ bytes) (zero ∷ fs) (suc i) z = laid_unmarked memory bytes fs i z
laid_unmarked (x ∷ memory) (b ∷ bytes) (suc m ∷ fs) (suc i) z = laid_unmarked memory bytes fs i z

-- ---- one run after the other

-- memory with the marked cells below `at` laid over it
pub record Laid (memory bytes fs : List ℕ) (at : ℕ) (now : List ℕ) : Type 0 where
  pub long : length now ≡ length memory
  pub done : (j : ℕ) → j < at → get_or now j 0 ≡ get_or (overlaid memory (image bytes fs)) j 0
  pub left : (j : ℕ) → at ≤ j → get_or now j 0 ≡ get_or memory j 0

module _ (memory bytes fs : List ℕ) where
  -- nothing is laid yet
  pub lay_none : Laid memory bytes fs 0 memory
  lay_none = record { long = refl; done = λ j h. absurd (omega arith); left = λ j h. refl }

  -- all is
  pub lay_all : (at : ℕ) (now : List ℕ) → at ≡ length memory → Laid memory bytes fs at now → now ≡ overlaid memory (image bytes fs)
  lay_all at now e l =
      ext_get_or 0 now (overlaid memory (image bytes fs)) (l.long ∙ sym (length_overlaid memory (image bytes fs)))
      (λ j h. l.done j (omega (arith, l.long)))

module _ (memory bytes fs : List ℕ) (p : length bytes ≡ length memory) (q : length fs ≡ length memory) where
  -- the next run is laid
  module _ (at from to most : ℕ) (now : List ℕ) (l : Laid memory bytes fs at now) (h : at < length memory) (k : 0 < most)
      (f : from ≡ at + unmarked (drop at fs)) (t : to ≡ from + run_on most (drop from fs)) where
    rest_long : length (drop at fs) ≡ length memory - at
    rest_long = length-drop at fs ∙ ap (λ (x : ℕ). x - at) q

    -- where it stands
    pub inside : (from ≤ to) × (to ≤ length memory)
    inside =
        let a = gap_inside (drop at fs) in
        let b = run_inside most (drop from fs) in
        (omega arith, omega (arith, rest_long, length-drop from fs, q))

    -- the loop comes to an end
    pub further : at < to
    further =
        let e : drop from fs ≡ drop (unmarked (drop at fs)) (drop at fs) = rw (drop-drop, f) in
        let s = some_cell most (drop at fs) (omega (arith, rest_long)) k in
        omega (arith, ap (run_on most) e)

    abbrev piece : List ℕ
    piece = take (to - from) (drop from bytes)

    piece_long : length piece ≡ to - from
    piece_long = length-take-le (to - from) (drop from bytes) (omega (arith, length-drop from bytes, inside.0, inside.1))

    fits : from + length piece ≤ length now
    fits = omega (arith, piece_long, inside.0, inside.1, l.long)

    -- the flags before it, and in it
    before : (j : ℕ) → at ≤ j → j < from → get_or fs j 0 ≡ 0
    before j a b =
        let e : at + (j - at) ≡ j = omega arith in
        ap (λ (x : ℕ). get_or fs x 0) (sym e) ∙ sym (get_or-drop at fs (j - at) 0) ∙ gap_clear (drop at fs) (j - at) (omega arith)

    within : (j : ℕ) → from ≤ j → j < to → (get_or fs j 0 ≡ 0 → ⊥)
    within j a b z =
        let e : from + (j - from) ≡ j = omega arith in
        run_set most (drop from fs) (j - from) (omega arith) (get_or-drop from fs (j - from) 0 ∙ ap (λ (x : ℕ). get_or fs x 0) e ∙ z)

    piece_at : (j : ℕ) → from ≤ j → j < to → get_or piece (j - from) 0 ≡ get_or bytes j 0
    piece_at j a b =
        let e : from + (j - from) ≡ j = omega arith in
        get_or-take (to - from) (drop from bytes) (j - from) 0 (omega arith) ∙ get_or-drop from bytes (j - from) 0 ∙ ap (λ (x : ℕ). get_or bytes x 0) e

    pub lay_turn : Laid memory bytes fs to (over now from piece)
    lay_turn =
        record {
          long = over_length now from piece fits ∙ l.long;
          done = λ j a. by_test (ltb j from)
              (λ b. over_below now piece from fits j (ltb-true j from b) ∙ below j (ltb-true j from b))
              (λ b. let c = ltb-false j from b in
              over_inside now piece from fits j c (omega (arith, piece_long)) ∙ piece_at j c a
              ∙ sym (laid_marked memory bytes fs j p q (omega (arith, inside.1)) (within j c a)));
          left = λ j a. over_above now piece from fits j (omega (arith, piece_long, inside.0)) ∙ l.left j (omega (arith, further));
        }
      where
        below : (j : ℕ) → j < from → get_or now j 0 ≡ get_or (overlaid memory (image bytes fs)) j 0
        below j b =
            by_test (ltb j at) (λ c. l.done j (ltb-true j at c))
            (λ c. let d = ltb-false j at c in l.left j d ∙ sym (laid_unmarked memory bytes fs j (before j d b)))

-- Headers, and each way out of `merge`.
use mathlib.Core.Path.{◌≡◌, refl, sym, ap, ◌∙◌, subst}
use Prim.Native.Nat.{ℕ, ◌≤◌, ◌<◌}
use native.Mathlib.Omega.{arith}
use mathlib.Core.Bool.{true, false, ◌||◌}
use mathlib.Core.List.{List, [], ◌∷◌}
use lib.Dec.{ltb}
use lib.ListN.{length, get_or}
use borrow.Author.Tests.{eq-eqb, ne_eqb, lt-ltb, le-ltb, ltb-false}
use Rattle.window.specs.declared.Refusal.{Refusal}
use Rattle.window.specs.declared.Header.{Header}
use Rattle.window.specs.Entries.{Entry}
use Rattle.window.specs.Windows.{first_bad_mark, row16}
use Rattle.window.specs.Images.{image, marks_of, overlaid}
use Rattle.window.specs.Headers.{header_of, row15}
use Rattle.window.specs.Plans.{is_present}
use Rattle.marks.specs.declared.Form.{Form}
use Rattle.marks.specs.Forms.{flags, stored, Tidy, row16_in}
use Rattle.layers.specs.Layers.{joined}
use Rattle.marks.proofs.FormLaws.{no_bad, flags_good, clean_tidy}
use Rattle.layers.proofs.LayerLaws.{joined_stored}
use Rattle.overlay.specs.declared.Merged.{Merged}
use Rattle.overlay.specs.Layers.{laid, non_empty, patched}
use Rattle.overlay.specs.Refusals.{row1_both_in, bad_of, first_row, merge_refusal_in}
use Rattle.overlay.specs.Merges.{Lent, window_at, refused_merge}
use Rattle.overlay.specs.Forms.{merged_in, refusal_in, merge_answer_in, memory_after_in, marks_after_in}
use Rattle.overlay.proofs.AlignedLaws.{Clean, aligned, merge_marks}
use Rattle.overlay.proofs.RefusalLaws.{FitIn, fit_in, plain_alike}

-- ---- headers

-- row 15 for the base's
pub long_base : (h k : List ℕ) → 252 < length h → true ≡ row15 h || row15 k
unfolding row15
long_base h k l = rw (lt-ltb 252 (length h) l)

-- and, where that is short, for the patch's
pub long_patch : (h k : List ℕ) → length h ≤ 252 → ltb 252 (length k) ≡ row15 h || row15 k
unfolding row15
long_patch h k l = rw (le-ltb 252 (length h) l)

-- an empty patch header leaves the base's
pub header_of_base : (h k : List ℕ) → length k ≡ 0 → laid non_empty h k ≡ h
header_of_base h [] e = refl
header_of_base h (b ∷ k) e = absurd (omega arith)

-- any other wins
pub header_of_patch : (h k : List ℕ) → (length k ≡ 0 → ⊥) → laid non_empty h k ≡ k
header_of_patch h [] e = absurd (e refl)
header_of_patch h (b ∷ k) e = refl

-- ---- the whole

-- answer, memory and marks are those of the definitions
abbrev pub Meets : Form → ℕ → Lent → Lent → Merged → List ℕ → List ℕ → Type 0
Meets form base B P r memory marks =
    (r ≡ merge_answer_in form base B P) × ((memory ≡ memory_after_in form base B P) × (marks ≡ marks_after_in form base B P))

-- joined marks that row 16 lets pass are those of the merged image
module _ (form : Form) (base : ℕ) (B P : Lent) (f : FitIn form (window_at base B) B.header (window_at base P) P.header)
    (b : (k : ℕ) → get_or B.marks k 0 < 256) (p : (k : ℕ) → get_or P.marks k 0 < 256) where
  -- as many cells as the base has
  abbrev n : ℕ
  n = length B.memory

  clean_base : row16_in form n B.marks ≡ false
  clean_base = no_bad form n B.marks f.clean.0

  clean_patch : row16_in form (length P.memory) P.marks ≡ false
  clean_patch = no_bad form (length P.memory) P.marks f.clean.1

  tidy_patch : Tidy form n P.marks
  tidy_patch =
      subst (λ (k : ℕ). Tidy form k P.marks) f.like.both (clean_tidy form (length P.memory) P.marks p f.like.patch clean_patch)

  -- marks that are 0 or 1
  good : (ms : List ℕ) → row16 ms ≡ false → Clean ms
  unfolding row16
  good ms e = ltb-false (first_bad_mark ms) (length ms) e

  pub joined_marks : joined B.marks P.marks ≡ stored form (marks_of (merged_in form B P).cells)
  unfolding patched
  joined_marks =
      let l = plain_alike form (window_at base B) (window_at base P) f.like.base f.like.patch f.like.both in
      let s = aligned B.memory (flags form n B.marks) P.memory (flags form (length P.memory) P.marks) l.base l.patch l.both in
      joined_stored form n B.marks P.marks (clean_tidy form n B.marks b f.like.base clean_base) tidy_patch
      ∙ ap (λ (k : ℕ). stored form (joined (flags form n B.marks) (flags form k P.marks))) (sym f.like.both)
      ∙ ap (stored form) (merge_marks s (good (flags form n B.marks) (flags_good form n B.marks clean_base))
      (good (flags form (length P.memory) P.marks) (flags_good form (length P.memory) P.marks clean_patch)))

module _ (form : Form) (base : ℕ) (B P : Lent) (f : Refusal)
    (e : f ≡ first_row (row1_both_in form (window_at base B) (window_at base P)) (row15 B.header || row15 P.header) (bad_of form (window_at base B)) (bad_of form (window_at base P))) where
  is : f ≡ refusal_in form base B P
  unfolding merge_refusal_in
  is = e

  -- a refused merge changes nothing
  pub merge_refused : (r : Merged) → (f.reason ≡ 0 → ⊥) → r ≡ refused_merge f → Meets form base B P r B.memory B.marks
  unfolding merge_answer_in memory_after_in marks_after_in
  merge_refused r h q = let t = ne_eqb f.reason 0 h in rw (← is, t) (q, (refl, refl))

  module _ (none : f.reason ≡ 0) where
    -- no row applies
    pub accepted : FitIn form (window_at base B) B.header (window_at base P) P.header
    accepted = fit_in form (window_at base B) B.header (window_at base P) P.header (rw is at (eq-eqb f.reason 0 none))

    -- what an accepted merge leaves
    pub merge_accepted : (h : Header) (n : Entry) (memory marks : List ℕ) → h ≡ header_of (laid non_empty B.header P.header)
        → n ≡ laid is_present B.entry P.entry → memory ≡ overlaid B.memory (image P.memory (flags form (length B.memory) P.marks))
        → marks ≡ stored form (marks_of (merged_in form B P).cells) → Meets form base B P (record { refusal = f; header = h; entry = n }) memory marks
    unfolding merge_answer_in memory_after_in marks_after_in patched
    merge_accepted h n memory marks p q m k =
        let t = eq-eqb f.reason 0 none in
        let same = ap (λ (c : ℕ). overlaid B.memory (image P.memory (flags form c P.marks))) (sym accepted.like.both) in
        rw (← is, t) (λ i. record { refusal = f; header = p i; entry = q i }, (m ∙ same, k))

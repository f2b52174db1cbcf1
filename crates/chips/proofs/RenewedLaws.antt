-- Cells received in one stretch after the other, and what has then been received.
use mathlib.Core.Path.{◌≡◌, refl, sym, ap, ap₂, ◌∙◌}
use Prim.Native.Nat.{ℕ, zero, suc, ◌≤◌, ◌<◌}
use native.Mathlib.Nat.{not-suc-le-zero, le_of_suc-le-suc}
use native.Mathlib.Omega.{arith}
use mathlib.Core.List.{List, [], ◌∷◌}
use mathlib.Core.Logic.{◌⊎◌, inl, inr}
use mathlib.Core.Option.{Option, none, some}
use lib.Dec.{ltb}
use lib.ListN.{length, get_or, length-map}
use lib.Seq.{ext_get_or}
use borrow.Author.Tests.{ltb-true, ltb-false, ne_eqb}
use Rattle.lists.proofs.TestLaws.{by_test}
use Rattle.window.specs.Images.{Image, mark, marks_of, overlaid, seen}
use Rattle.window.proofs.ViewLaws.{length_overlaid}
use Rattle.chips.specs.Boards.{Buffers, buffers_of, received}
use Rattle.chips.specs.Promises.{chosen, Renewed}

module _ (byte flag : ℕ → ℕ) where
  -- nothing yet
  pub renewed_none : (at : ℕ) (c : Buffers) → Renewed byte flag at at c c
  renewed_none at c = record {
    memory_long = refl;
    marks_long = refl;
    memory_in = λ j l h i. absurd (omega arith);
    marks_in = λ j l h i. absurd (omega arith);
    memory_out = λ j h. refl;
    marks_out = λ j h. refl;
  }

  -- one stretch behind the other
  module _ (from mid to : ℕ) (p : from ≤ mid) (q : mid ≤ to) (old now new : Buffers) (r : Renewed byte flag from mid old now) (s : Renewed byte flag mid to now new) where
    abbrev before : (j : ℕ) → j < mid → (j < mid) ⊎ (to ≤ j)
    before j h = inl h

    abbrev behind : (j : ℕ) → mid ≤ j → (j < from) ⊎ (mid ≤ j)
    behind j h = inr h

    joined_memory : (j : ℕ) → from ≤ j → j < to → j < length old.memory → get_or new.memory j 0 ≡ chosen (flag j) (byte j) (get_or old.memory j 0)
    joined_memory j l h i =
        by_test (ltb j mid)
        (λ t. s.memory_out j (before j (ltb-true j mid t)) ∙ r.memory_in j l (ltb-true j mid t) i)
        (λ t. s.memory_in j (ltb-false j mid t) h (omega (arith, r.memory_long)) ∙ ap (chosen (flag j) (byte j)) (r.memory_out j (behind j (ltb-false j mid t))))

    joined_marks : (j : ℕ) → from ≤ j → j < to → j < length old.marks → get_or new.marks j 0 ≡ flag j
    joined_marks j l h i =
        by_test (ltb j mid)
        (λ t. s.marks_out j (before j (ltb-true j mid t)) ∙ r.marks_in j l (ltb-true j mid t) i)
        (λ t. s.marks_in j (ltb-false j mid t) h (omega (arith, r.marks_long)))

    outside : (j : ℕ) → (j < from) ⊎ (to ≤ j) → ((j < mid) ⊎ (to ≤ j)) × ((j < from) ⊎ (mid ≤ j))
    outside j (inl h) = (inl (omega arith), inl h)
    outside j (inr h) = (inr h, inr (omega arith))

    pub renewed_more : Renewed byte flag from to old new
    renewed_more = record {
      memory_long = s.memory_long ∙ r.memory_long;
      marks_long = s.marks_long ∙ r.marks_long;
      memory_in = joined_memory;
      marks_in = joined_marks;
      memory_out = λ j h. s.memory_out j (outside j h).0 ∙ r.memory_out j (outside j h).1;
      marks_out = λ j h. s.marks_out j (outside j h).0 ∙ r.marks_out j (outside j h).1;
    }

-- the same cells by other functions
pub renewed_same : (byte flag byte' flag' : ℕ → ℕ) (from to : ℕ) (old new : Buffers) → length old.marks ≡ length old.memory
    → ((j : ℕ) → from ≤ j → j < to → j < length old.memory → (byte j ≡ byte' j) × (flag j ≡ flag' j))
    → Renewed byte flag from to old new → Renewed byte' flag' from to old new
renewed_same byte flag byte' flag' from to old new long e r = record {
  memory_long = r.memory_long;
  marks_long = r.marks_long;
  memory_in = λ j l h i. r.memory_in j l h i ∙ (λ t. chosen ((e j l h i).1 t) ((e j l h i).0 t) (get_or old.memory j 0));
  marks_in = λ j l h i. r.marks_in j l h i ∙ (e j l h (rw long at i)).1;
  memory_out = r.memory_out;
  marks_out = r.marks_out;
}

-- ---- what has been received in the end

-- the byte of a cell that receives
abbrev pub kept : Option ℕ → ℕ → ℕ
kept none m = m
kept (some b) m = b

kept_seen : (f b m : ℕ) → chosen f b m ≡ kept (seen f b) m
unfolding chosen
kept_seen zero b m = refl
kept_seen (suc f) b m = rw (ne_eqb (suc f) 0 (λ z. omega arith))

pub mark_seen : (f b : ℕ) → f ≤ 1 → f ≡ mark (seen f b)
mark_seen zero b h = refl
mark_seen (suc zero) b h = refl
mark_seen (suc (suc f)) b h = absurd (omega arith)

pub overlaid_at : (memory : List ℕ) (img : Image) (i : ℕ) → length img ≡ length memory → i < length memory
    → get_or (overlaid memory img) i 0 ≡ kept (get_or img i none) (get_or memory i 0)
overlaid_at [] img i l h = absurd (not-suc-le-zero h)
overlaid_at (m ∷ memory) [] i l h = absurd (omega arith)
overlaid_at (m ∷ memory) (none ∷ img) zero l h = refl
overlaid_at (m ∷ memory) (some b ∷ img) zero l h = refl
overlaid_at (m ∷ memory) (none ∷ img) (suc i) l h = overlaid_at memory img i (omega arith) (le_of_suc-le-suc h)
overlaid_at (m ∷ memory) (some b ∷ img) (suc i) l h = overlaid_at memory img i (omega arith) (le_of_suc-le-suc h)

pub marks_at : (img : Image) (i : ℕ) → i < length img → get_or (marks_of img) i 0 ≡ mark (get_or img i none)
marks_at [] i h = absurd (not-suc-le-zero h)
marks_at (o ∷ img) zero h = refl
marks_at (o ∷ img) (suc i) h = marks_at img i (le_of_suc-le-suc h)

-- an image whose cells these functions give, received from the first cell to the last
pub renewed_all : (byte flag : ℕ → ℕ) (n to : ℕ) (old new : Buffers) (img : Image) → n ≤ to → Renewed byte flag 0 to old new
    → length old.memory ≡ n → length old.marks ≡ n → length img ≡ n
    → ((i : ℕ) → i < n → get_or img i none ≡ seen (flag i) (byte i)) → ((i : ℕ) → i < n → flag i ≤ 1)
    → new ≡ received old img
renewed_all byte flag n to old new img reach r m s l e small =
    ap₂ buffers_of
    (ext_get_or 0 new.memory (overlaid old.memory img) (r.memory_long ∙ sym (length_overlaid old.memory img))
    (λ i h.
    let u : i < length old.memory = rw r.memory_long at h in
    let v : i < n = rw m at u in
    r.memory_in i (omega arith) (omega arith) u ∙ kept_seen (flag i) (byte i) (get_or old.memory i 0)
    ∙ ap (λ (o : Option ℕ). kept o (get_or old.memory i 0)) (sym (e i v)) ∙ sym (overlaid_at old.memory img i (l ∙ sym m) u)))
    (ext_get_or 0 new.marks (marks_of img) (r.marks_long ∙ s ∙ sym l ∙ sym (length-map img mark))
    (λ i h.
    let u : i < length old.marks = rw r.marks_long at h in
    let v : i < n = rw s at u in
    r.marks_in i (omega arith) (omega arith) u ∙ mark_seen (flag i) (byte i) (small i v) ∙ ap mark (sym (e i v)) ∙ sym (marks_at img i (rw l v))))

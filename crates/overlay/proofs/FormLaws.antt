-- Looks and merges in a form: the rows against those of the flags, and calls with a mark byte a cell.
use mathlib.Core.Path.{◌≡◌, refl}
use Prim.Native.Nat.{ℕ}
use native.Mathlib.Omega.{arith}
use mathlib.Core.Bool.{Bool, true, false, not, ◌||◌}
use mathlib.Core.List.{List}
use lib.Dec.{eqb}
use lib.ListN.{length}
use borrow.Author.Tests.{eqb-true}
use Rattle.lists.proofs.TestLaws.{or_neither}
use Rattle.window.specs.Entries.{Entry}
use Rattle.window.specs.Windows.{Window, window_of}
use Rattle.marks.specs.declared.Form.{Form}
use Rattle.marks.specs.declared.Form.TheVariants.{Bytes}
use Rattle.std.specs.Prelude.{Option}
use Rattle.std.specs.Prelude.{Some, None}
use Rattle.marks.specs.Forms.{flags, plain, row1_in}
use Rattle.marks.proofs.FormLaws.{no_bad, flags_good}
use Rattle.marks.proofs.RowLaws.{plain_allowed}
use Rattle.window.specs.Plans.{passes}
use Rattle.overlay.specs.Refusals.{row1_both, row1_both_in, bad_in, bad_of, first_row, look_refusal, merge_refusal, look_refusal_in, merge_refusal_in}
use Rattle.overlay.specs.Looks.{look_source, look_part, look_place}
use Rattle.overlay.specs.Merges.{Lent, lent, window_at, merge_answer, memory_after, marks_after}
use Rattle.overlay.specs.Forms.{look_source_in, look_part_in, look_place_in, merge_answer_in, memory_after_in, marks_after_in}
use Rattle.overlay.proofs.RefusalLaws.{row_1_both}

-- ---- the rows

-- the first row that applies, where that is neither 1 nor 16, is that of other tests that pass where these do
pub same_row : (unfit unfit' long : Bool) (b b' p p' : Option ℕ) → (unfit ≡ false → unfit' ≡ false) → (None ≡ b → None ≡ b') → (None ≡ p → None ≡ p')
    → ((first_row unfit long b p).reason ≡ 1 → ⊥) → ((first_row unfit long b p).reason ≡ 16 → ⊥) → first_row unfit long b p ≡ first_row unfit' long b' p'
unfolding first_row
same_row true u long b b' p p' f g h x y = absurd (x refl)
same_row false u true b b' p p' f g h x y = rw (f refl)
same_row false u false (Some place) b' p p' f g h x y = absurd (y refl)
same_row false u false None b' (Some place) p' f g h x y = absurd (y refl)
same_row false u false None b' None p' f g h x y = rw (f refl, ← (g refl), ← (h refl))

module _ (form : Form) (B P : Window) where
  -- row 1 does not apply to the flags either
  plain_fit : row1_both_in form B P ≡ false → row1_both (plain form B) (plain form P) ≡ false
  unfolding row1_both_in row1_both
  plain_fit h =
      let s = or_neither (row1_in form B) (row1_in form P || not (eqb (length B.memory) (length P.memory))) h in
      let t = or_neither (row1_in form P) (not (eqb (length B.memory) (length P.memory))) s.1 in
      rw (plain_allowed form B s.0, plain_allowed form P t.0, t.1)

-- nor does row 16
plain_clean : (form : Form) (W : Window) → None ≡ bad_of form W → None ≡ bad_in (plain form W)
plain_clean form W e =
    rw (flags_good form (length W.memory) W.marks (no_bad form (length W.memory) W.marks e))

module _ (form : Form) (B P : Window) (long : Bool) where
  -- what rows 1 and 16 do not refuse is refused as the flags are
  pub same_refusal_lem : ((first_row (row1_both_in form B P) long (bad_of form B) (bad_of form P)).reason ≡ 1 → ⊥)
      → ((first_row (row1_both_in form B P) long (bad_of form B) (bad_of form P)).reason ≡ 16 → ⊥)
      → first_row (row1_both_in form B P) long (bad_of form B) (bad_of form P)
      ≡ first_row (row1_both (plain form B) (plain form P)) long (bad_in (plain form B)) (bad_in (plain form P))
  same_refusal_lem =
      same_row (row1_both_in form B P) (row1_both (plain form B) (plain form P)) long (bad_of form B) (bad_in (plain form B)) (bad_of form P)
      (bad_in (plain form P)) (plain_fit form B P) (plain_clean form B) (plain_clean form P)

-- ---- looks

module _ (form : Form) (B P : Window) (a : ℕ) (ok : passes (look_refusal_in form B P) ≡ true) where
  no_reason : (look_refusal_in form B P).reason ≡ 0
  no_reason = eqb-true (look_refusal_in form B P).reason 0 ok

  same_look : look_refusal_in form B P ≡ look_refusal (plain form B) (plain form P)
  unfolding look_refusal_in look_refusal
  same_look = same_refusal_lem form B P false (λ x. omega (arith, no_reason)) (λ x. omega (arith, no_reason))

  -- a look that no row refuses is that of the flags
  pub plain_source : look_source_in form B P a ≡ look_source (plain form B) (plain form P) a
  unfolding look_source_in look_source
  plain_source = rw same_look

-- ---- a mark byte a cell

module _ (base : ℕ) (m k n j : List ℕ) where
  abbrev B : Window
  B = window_of base m k

  abbrev P : Window
  P = window_of base n j

  pub source_bytes : (a : ℕ) → look_source_in Bytes B P a ≡ look_source B P a
  unfolding look_source_in look_source look_refusal_in look_refusal
  source_bytes a = rw (row_1_both B P)

  pub part_bytes : (a : ℕ) → look_part_in Bytes B P a ≡ look_part B P a
  unfolding look_part_in look_part
  part_bytes a = rw (source_bytes a)

  pub place_bytes : (a : ℕ) (base patch : ℕ × ℕ) → look_place_in Bytes B P a base patch ≡ look_place B P a base patch
  unfolding look_place_in look_place
  place_bytes a base patch = rw (source_bytes a)

module _ (base : ℕ) (m k h n j g : List ℕ) (e d : Entry) where
  abbrev L : Lent
  L = lent m k h e

  abbrev Q : Lent
  Q = lent n j g d

  pub answer_bytes : merge_answer_in Bytes base L Q ≡ merge_answer base L Q
  unfolding merge_answer_in merge_answer merge_refusal_in merge_refusal
  answer_bytes = rw (row_1_both (window_at base L) (window_at base Q))

  pub memory_bytes : memory_after_in Bytes base L Q ≡ memory_after base L Q
  unfolding memory_after_in memory_after merge_refusal_in merge_refusal
  memory_bytes = rw (row_1_both (window_at base L) (window_at base Q))

  pub marks_bytes : marks_after_in Bytes base L Q ≡ marks_after base L Q
  unfolding marks_after_in marks_after merge_refusal_in merge_refusal
  marks_bytes = rw (row_1_both (window_at base L) (window_at base Q))

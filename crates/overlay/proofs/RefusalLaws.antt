-- The rows of a look and of a merge in their order, and what holds where none applies.
use mathlib.Core.Path.{◌≡◌, refl, sym, ◌∙◌}
use Prim.Native.Nat.{ℕ, suc, ◌+◌, ◌^◌, ◌≤◌}
use native.Mathlib.Omega.{arith}
use mathlib.Core.Bool.{Bool, true, false, not, ◌||◌}
use mathlib.Core.List.{List}
use lib.Dec.{eqb}
use lib.ListN.{length}
use borrow.Author.Tests.{eqb-true, ltb-false, not-false}
use Rattle.lists.proofs.TestLaws.{or_neither}
use Rattle.window.specs.Windows.{Window, first_bad_mark, row16}
use Rattle.window.specs.Headers.{row15}
use Rattle.window.specs.Plans.{refusal, passes}
use Rattle.marks.specs.declared.Form.{Form}
use Rattle.marks.specs.declared.Form.TheVariants.{Bytes}
use Rattle.std.specs.Prelude.{Option}
use Rattle.std.specs.Prelude.{Some, None}
use Rattle.marks.specs.Forms.{plain, mark_bytes, row1_in}
use Rattle.marks.proofs.FormLaws.{flags_length, no_bad}
use Rattle.marks.proofs.RowLaws.{row_1_bytes, allowed_in}
use Rattle.overlay.specs.Refusals.{row1_both, row1_both_in, bad_in, bad_of, first_row, look_refusal, look_refusal_in, merge_refusal, merge_refusal_in}
use Rattle.overlay.proofs.AlignedLaws.{Clean}

-- ---- row 1

-- two windows of one length, each with as many marks as memory bytes
pub record Alike (B P : Window) : Type 0 where
  pub base : length B.marks ≡ length B.memory
  pub patch : length P.marks ≡ length P.memory
  pub both : length P.memory ≡ length B.memory

-- the same with marks in a form, and where the windows end
pub record AlikeIn (form : Form) (B P : Window) : Type 0 where
  pub base : length B.marks ≡ mark_bytes form (length B.memory)
  pub patch : length P.marks ≡ mark_bytes form (length P.memory)
  pub both : length P.memory ≡ length B.memory
  pub reach : (B.base + length B.memory ≤ 2 ^ 32) × (P.base + length P.memory ≤ 2 ^ 32)

-- the flags of two of one length, whose marks have the length that row 1 asks for, are alike
pub plain_alike : (form : Form) (B P : Window) → length B.marks ≡ mark_bytes form (length B.memory)
    → length P.marks ≡ mark_bytes form (length P.memory) → length P.memory ≡ length B.memory → Alike (plain form B) (plain form P)
plain_alike form B P e f h = record {
  base = flags_length form (length B.memory) B.marks e;
  patch = flags_length form (length P.memory) P.marks f;
  both = h;
}

-- row 1 of mark bytes
pub row_1_both : (B P : Window) → row1_both_in Bytes B P ≡ row1_both B P
unfolding row1_both_in row1_both
row_1_both B P = rw (row_1_bytes B, row_1_bytes P)

module _ (form : Form) (B P : Window) where
  -- it does not apply
  pub alike_in : row1_both_in form B P ≡ false → AlikeIn form B P
  unfolding row1_both_in
  alike_in h =
      let s = or_neither (row1_in form B) (row1_in form P || not (eqb (length B.memory) (length P.memory))) h in
      let t = or_neither (row1_in form P) (not (eqb (length B.memory) (length P.memory))) s.1 in
      let b = allowed_in form B s.0 in
      let p = allowed_in form P t.0 in
      record {
        base = b.0;
        patch = p.0;
        both = sym (eqb-true (length B.memory) (length P.memory) (not-false (eqb (length B.memory) (length P.memory)) t.1));
        reach = (b.1, p.1);
      }

  -- in the order of the code
  pub row_1_base : row1_in form B ≡ true → false ≡ not (row1_both_in form B P)
  unfolding row1_both_in
  row_1_base e = rw e

  pub row_1_patch : row1_in form B ≡ false → row1_in form P ≡ true → false ≡ not (row1_both_in form B P)
  unfolding row1_both_in
  row_1_patch e f = rw (e, f)

  pub row_1_lengths : row1_in form B ≡ false → row1_in form P ≡ false → eqb (length B.memory) (length P.memory) ≡ not (row1_both_in form B P)
  unfolding row1_both_in
  row_1_lengths e f = rw (e, f) (twice (eqb (length B.memory) (length P.memory)))
    where
      twice : (b : Bool) → b ≡ not (not b)
      twice true = refl
      twice false = refl

-- of mark bytes
pub alike : (B P : Window) → row1_both B P ≡ false → Alike B P
alike B P h = let l = alike_in Bytes B P (row_1_both B P ∙ h) in record { base = l.base; patch = l.patch; both = l.both }

-- ---- all rows, in the order of the code

module _ (unfit long : Bool) (base patch : Option ℕ) where
  pub row_1 : unfit ≡ true → refusal 1 0 0 ≡ first_row unfit long base patch
  unfolding first_row
  row_1 e = rw e

  module _ (fit : unfit ≡ false) where
    pub row_15 : long ≡ true → refusal 15 0 0 ≡ first_row unfit long base patch
    unfolding first_row
    row_15 e = rw (fit, e)

    module _ (short : long ≡ false) where
      pub row_16_base : (place : ℕ) → Some place ≡ base → refusal 16 0 place ≡ first_row unfit long base patch
      unfolding first_row
      row_16_base place e = rw (fit, short, ← e)

      module _ (clean : None ≡ base) where
        pub row_16_patch : (place : ℕ) → Some place ≡ patch → refusal 16 0 place ≡ first_row unfit long base patch
        unfolding first_row
        row_16_patch place e = rw (fit, short, ← clean, ← e)

        pub no_row : None ≡ patch → refusal 0 0 0 ≡ first_row unfit long base patch
        unfolding first_row
        no_row e = rw (fit, short, ← clean, ← e)

-- ---- no row applies

-- what is known then
pub record Passed (unfit long : Bool) (base patch : Option ℕ) : Type 0 where
  pub fit : unfit ≡ false
  pub short : long ≡ false
  pub clean : (None ≡ base) × (None ≡ patch)

-- a row that applies does not pass
never : {A : Type 0} (n : ℕ) → eqb (suc n) 0 ≡ true → A
never n e = absurd (omega (arith, eqb-true (suc n) 0 e))

pub passed : (unfit long : Bool) (base patch : Option ℕ) → passes (first_row unfit long base patch) ≡ true → Passed unfit long base patch
unfolding first_row
passed true long base patch h = never 0 h
passed false true base patch h = never 14 h
passed false false (Some place) patch h = never 15 h
passed false false None (Some place) h = never 15 h
passed false false None None h = record { fit = refl; short = refl; clean = (refl, refl) }

-- marks without a bad one are clean
bad_free : (W : Window) → None ≡ bad_in W → Clean W.marks
unfolding row16
bad_free W e = ltb-false (first_bad_mark W.marks) (length W.marks) (no_bad Bytes (length W.memory) W.marks e)

-- a look
pub look_fit : (B P : Window) → passes (look_refusal B P) ≡ true → Alike B P
unfolding look_refusal
look_fit B P e = alike B P (passed (row1_both B P) false (bad_in B) (bad_in P) e).fit

-- the same with marks in a form
pub look_fit_in : (form : Form) (B P : Window) → passes (look_refusal_in form B P) ≡ true → AlikeIn form B P
unfolding look_refusal_in
look_fit_in form B P e = alike_in form B P (passed (row1_both_in form B P) false (bad_of form B) (bad_of form P) e).fit

-- a merge with marks in a form
pub record FitIn (form : Form) (B : Window) (h : List ℕ) (P : Window) (k : List ℕ) : Type 0 where
  pub like : AlikeIn form B P
  pub short : (length h ≤ 252) × (length k ≤ 252)
  pub clean : (None ≡ bad_of form B) × (None ≡ bad_of form P)

pub fit_in : (form : Form) (B : Window) (h : List ℕ) (P : Window) (k : List ℕ) → passes (merge_refusal_in form B h P k) ≡ true → FitIn form B h P k
unfolding merge_refusal_in row15
fit_in form B h P k e =
    let p = passed (row1_both_in form B P) (row15 h || row15 k) (bad_of form B) (bad_of form P) e in
    let s = or_neither (row15 h) (row15 k) p.short in
    record {
      like = alike_in form B P p.fit;
      short = (ltb-false 252 (length h) s.0, ltb-false 252 (length k) s.1);
      clean = p.clean;
    }

-- with a mark byte a cell
pub record Fit (B : Window) (h : List ℕ) (P : Window) (k : List ℕ) : Type 0 where
  pub like : Alike B P
  pub short : (length h ≤ 252) × (length k ≤ 252)
  pub clean : Clean B.marks × Clean P.marks

pub fit : (B : Window) (h : List ℕ) (P : Window) (k : List ℕ) → passes (merge_refusal B h P k) ≡ true → Fit B h P k
unfolding merge_refusal merge_refusal_in
fit B h P k e =
    let f = fit_in Bytes B h P k (rw (row_1_both B P) e) in
    record {
      like = record { base = f.like.base; patch = f.like.patch; both = f.like.both };
      short = f.short;
      clean = (bad_free B f.clean.0, bad_free P f.clean.1);
    }

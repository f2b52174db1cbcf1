-- Each way out of `source_at`, over windows whose marks are flags, and of the rows.
use mathlib.Core.Path.{◌≡◌, sym, ap, ◌∙◌}
use Prim.Native.Nat.{ℕ, ◌-◌, ◌≤◌}
use native.Mathlib.Omega.{arith}
use mathlib.Core.Bool.{Bool, true, false, not}
use lib.Dec.{eqb}
use lib.ListN.{get_or}
use borrow.Author.Tests.{eq-eqb, ne_eqb, not-true, not-false}
use Rattle.lists.proofs.TestLaws.{by_test}
use Rattle.window.specs.declared.Refusal.{Refusal}
use Rattle.window.specs.Windows.{Window}
use Rattle.marks.specs.declared.Form.{Form}
use Rattle.marks.specs.Forms.{plain}
use Rattle.overlay.specs.declared.Source.{Source}
use Rattle.overlay.specs.declared.Source.TheVariants.{Patch, Base, Neither, Refused}
use Rattle.window.specs.Plans.{passes}
use Rattle.overlay.specs.Refusals.{row1_both_in, bad_of, first_row, look_refusal_in}
use Rattle.overlay.specs.Looks.{source_at}
use Rattle.overlay.specs.Forms.{look_source_in}
use Rattle.overlay.specs.Facts.{names}
use Rattle.overlay.proofs.RefusalLaws.{Alike}
use Rattle.overlay.proofs.SourceLaws.{source_above}

-- ---- the rows of a look

module _ (form : Form) (B P : Window) (f : Refusal) (e : f ≡ first_row (row1_both_in form B P) false (bad_of form B) (bad_of form P)) where
  is_refusal : f ≡ look_refusal_in form B P
  unfolding look_refusal_in
  is_refusal = e

  -- one applies
  not_passed : (f.reason ≡ 0 → ⊥) → passes (look_refusal_in form B P) ≡ false
  not_passed h = rw is_refusal at (ne_eqb f.reason 0 h)

  -- none does
  pub passed : f.reason ≡ 0 → passes (look_refusal_in form B P) ≡ true
  passed h = rw is_refusal at (eq-eqb f.reason 0 h)

  -- a refusal is the source
  pub is_refused : (f.reason ≡ 0 → ⊥) → (a : ℕ) → Refused f ≡ look_source_in form B P a
  unfolding look_source_in
  is_refused h a = rw (not_passed h, is_refusal)

-- where none applies, the source of the flags is the source
pub is_source : (form : Form) (B P : Window) → passes (look_refusal_in form B P) ≡ true → (a : ℕ) → source_at (plain form B) (plain form P) a ≡ look_source_in form B P a
unfolding look_source_in
is_source form B P ok a = rw ok

-- a source that names an image was not refused
pub not_refused : (form : Form) (B P : Window) (a : ℕ) (w : Source) → names w ≡ true → w ≡ look_source_in form B P a → passes (look_refusal_in form B P) ≡ true
unfolding look_source_in
not_refused form B P a w n e =
    by_test (passes (look_refusal_in form B P)) (λ t. t)
    (λ t. let q : w ≡ Refused (look_refusal_in form B P) = rw t at e in absurd (true_false (sym n ∙ ap names q)))
  where
    true_false : true ≡ false → ⊥
    true_false z = let y : ◌≡◌ {A = ℕ} 0 1 = cc in omega arith

-- ---- an address that is not below the window

module _ (B P : Window) (like : Alike B P) (a : ℕ) (low : B.base ≤ a) (p : Bool) (patch : p ≡ not (eqb (get_or P.marks (a - B.base) 0) 0)) where
  -- the patch is marked
  pub is_patch : p ≡ true → Patch ≡ source_at B P a
  is_patch e = rw (source_above B P like a low, not-true (eqb (get_or P.marks (a - B.base) 0) 0) (sym patch ∙ e))

  module _ (free : p ≡ false) (q : Bool) (base : q ≡ not (eqb (get_or B.marks (a - B.base) 0) 0)) where
    -- the base alone is marked
    pub is_base : q ≡ true → Base ≡ source_at B P a
    is_base e =
        rw (source_above B P like a low, not-false (eqb (get_or P.marks (a - B.base) 0) 0) (sym patch ∙ free), not-true (eqb (get_or B.marks (a - B.base) 0) 0) (sym base ∙ e))

    -- neither is marked
    pub is_neither : q ≡ false → Neither ≡ source_at B P a
    is_neither e =
        rw (source_above B P like a low, not-false (eqb (get_or P.marks (a - B.base) 0) 0) (sym patch ∙ free), not-false (eqb (get_or B.marks (a - B.base) 0) 0) (sym base ∙ e))

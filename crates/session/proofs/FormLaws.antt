-- Row 1 of a later call with marks in a form, and what it leaves.
use mathlib.Core.Path.{◌≡◌, ap}
use Prim.Native.Nat.{ℕ}
use mathlib.Core.Bool.{false}
use mathlib.Core.List.{List}
use lib.ListN.{length}
use Rattle.lists.proofs.TestLaws.{or_neither}
use Rattle.window.specs.declared.Refusal.{Refusal}
use Rattle.window.specs.Windows.{Window}
use Rattle.window.specs.Plans.{refusal}
use Rattle.marks.specs.declared.Form.{Form}
use Rattle.marks.specs.Forms.{flags, mark_bytes, plain, row1_in}
use Rattle.marks.proofs.RowLaws.{allowed_in}
use Rattle.parts.specs.Parts.{Going, stage, stopped, row1_later}
use Rattle.parts.specs.Parts.Status.{halted}
use Rattle.parts.specs.Forms.{in_form, row1_later_in}
use Rattle.session.proofs.SessionLaws.{clear_marks}

module _ (form : Form) (W : Window) (g : Going) where
  -- it does not apply
  pub record Allows : Type 0 where
    pub own : row1_in form W ≡ false
    pub later : row1_later (plain form W) g ≡ false
    pub long : length W.marks ≡ mark_bytes form (length W.memory)

  pub allows : row1_later_in form W g ≡ false → Allows
  unfolding row1_later_in
  allows h = let k = or_neither (row1_in form W) (row1_later (plain form W) g) h in record { own = k.0; later = k.1; long = (allowed_in form W k.0).0 }

-- flags that a refusal clears are stored as cleared marks
pub stopped_in : (form : Form) (n : ℕ) (memory marks : List ℕ) → length marks ≡ mark_bytes form n → (f : Refusal)
    → in_form form (stopped f memory (flags form n marks)) ≡ stopped f memory marks
stopped_in form n memory marks l f = ap (λ (k : List ℕ). stage (halted f) memory k) (clear_marks form n marks l)

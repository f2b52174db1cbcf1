-- What a state shows of a load that goes on, and how a load begins.
use mathlib.Core.Path.{◌≡◌, sym, ap, ◌∙◌}
use Prim.Native.Nat.{ℕ}
use mathlib.Core.Bool.{Bool, true, false, not}
use mathlib.Core.List.{List}
use mathlib.Core.Option.{none}
use lib.ListN.{length, replicate}
use borrow.Author.Tests.{eq-eqb, not-false, not-true}
use Rattle.window.specs.Windows.{Window}
use Rattle.window.specs.Plans.{refusal}
use Rattle.marks.specs.declared.Form.{Form}
use Rattle.marks.specs.Forms.{flags, stored, mark_bytes, row1_in}
use Rattle.marks.proofs.FormLaws.{flags_length, stored_clear}
use Rattle.marks.proofs.RowLaws.{allowed_in, plain_allowed}
use Rattle.text.specs.Scan.{start}
use Rattle.parts.specs.Parts.{stage, stopped, begun}
use Rattle.parts.specs.Forms.{begun_in}
use Rattle.parts.specs.Parts.Status.{going}
use Rattle.parts.specs.Stretches.{fresh}
use Rattle.session.specs.declared.Session.{Session}
use Rattle.session.specs.Sessions.{going_of, status_of}

-- a state without a refusal shows its load
pub shows_going : (r : Session) → r.refusal.reason ≡ 0 → status_of r ≡ going (going_of r)
shows_going r e = rw (eq-eqb r.refusal.reason 0 e)

-- ---- marks that are cleared

-- the flags of marks of the length that row 1 asks for, cleared, are the marks, cleared
pub clear_marks : (form : Form) (n : ℕ) (marks : List ℕ) → length marks ≡ mark_bytes form n
    → stored form (replicate (length (flags form n marks)) 0) ≡ replicate (length marks) 0
clear_marks form n marks l =
    ap (λ (k : ℕ). stored form (replicate k 0)) (flags_length form n marks l) ∙ sym (stored_clear form n) ∙ ap (λ (k : ℕ). replicate k 0) (sym l)

-- ---- begin

module _ (form : Form) (W : Window) (allowed : Bool) (e : allowed ≡ not (row1_in form W)) where
  -- row 1
  pub begin_refused : allowed ≡ false → begun_in form W ≡ stopped (refusal 1 0 0) W.memory W.marks
  unfolding begun_in
  begin_refused z = rw (not-false (row1_in form W) (sym e ∙ z))

  -- an allowed window: the load has begun
  pub begin_allowed : allowed ≡ true
      → begun_in form W ≡ stage (going (fresh (length W.memory) 0 (record { state = start; entry = none }))) W.memory (replicate (length W.marks) 0)
  unfolding begun_in begun
  begin_allowed z =
      let a = not-true (row1_in form W) (sym e ∙ z) in
      rw (a, plain_allowed form W a)
      (ap (λ (k : List ℕ). stage (going (fresh (length W.memory) 0 (record { state = start; entry = none }))) W.memory k) (clear_marks form (length W.memory) W.marks (allowed_in form W a).0))

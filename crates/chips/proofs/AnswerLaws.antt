-- The answers of calls: the refusals that checks tell, and what a refused call leaves.
use mathlib.Core.Path.{◌≡◌}
use Prim.Native.Nat.{ℕ}
use mathlib.Core.Bool.{or-false}
use mathlib.Core.List.{List, [], ◌∷◌}
use native.Mathlib.Omega.{arith}
use Rattle.std.specs.Prelude.{Result}
use lib.ListN.{length}
use borrow.Author.Tests.{eq-eqb, ne_eqb}
use Rattle.lists.proofs.TestLaws.{by_test}
use Rattle.window.specs.declared.Refusal.{Refusal}
use Rattle.window.specs.Windows.{window_of, row1, row16}
use Rattle.window.specs.Images.{Image}
use Rattle.chips.specs.declared.Fault.{Fault}
use Rattle.chips.specs.declared.Fault.TheVariants.{Uneven, Mark}
use Rattle.chips.specs.Shares.{share}
use Rattle.chips.specs.Boards.{Buffers, Board, received}
use Rattle.chips.specs.Refusals.{row21, lengths_differ, row1_chips, rows21_and1_or, row16_or}
use Rattle.chips.specs.Calls.{buffers_after}
use Rattle.chips.specs.Promises.{refusal_of, told, lengths_of, unfit, lengths_checked, marks_checked}

module _ (k base : ℕ) (memory marks : List ℕ) (b : Board) where
  -- the check of the lengths
  abbrev pub checked : Result (Unit {0}) Fault
  checked =
      lengths_checked k base (lengths_of memory marks)
      (lengths_of b.first.memory b.first.marks ∷ lengths_of b.second.memory b.second.marks ∷ lengths_of b.third.memory b.third.marks ∷ lengths_of b.fourth.memory b.fourth.marks ∷ [])

  pub lengths_told : (next : Refusal) → rows21_and1_or k (window_of base memory marks) b next ≡ told next checked
  unfolding rows21_and1_or lengths_checked row1_chips unfit row1
  lengths_told next =
      rw (or-false (lengths_differ (share k 3 (length memory)) (length b.fourth.memory) (length b.fourth.marks)))
      (by_test (row21 k base (length memory)) (λ t. rw t)
      (λ t. by_test (row1_chips k (window_of base memory marks) b) (λ u. rw (t, u)) (λ u. rw (t, u))))

-- the check of marks
pub marks_told : (marks : List ℕ) (next : Refusal) → row16_or marks next ≡ told next (marks_checked marks)
unfolding row16_or marks_checked
marks_told marks next = by_test (row16 marks) (λ t. rw t) (λ t. rw t)

-- a fault has a reason
pub fault_refuses : (fault : Fault) → (refusal_of fault).reason ≡ 0 → ⊥
fault_refuses Uneven h = omega arith
fault_refuses Fault.Lengths h = omega arith
fault_refuses (Mark place) h = omega arith

-- a refused call changes nothing
pub leaves_old : (f r : Refusal) (c : Buffers) (img : Image) → r ≡ f → (r.reason ≡ 0 → ⊥) → c ≡ buffers_after f c img
unfolding buffers_after
leaves_old f r c img e h = rw (← e, ne_eqb r.reason 0 h)

-- an accepted one lets the buffers receive the image
pub leaves_image : (f r : Refusal) (c : Buffers) (img : Image) → r ≡ f → r.reason ≡ 0 → received c img ≡ buffers_after f c img
unfolding buffers_after
leaves_image f r c img e h = rw (← e, eq-eqb r.reason 0 h)

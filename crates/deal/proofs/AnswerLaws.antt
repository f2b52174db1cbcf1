-- The answer of a deal, and the chips afterwards: one law for each way out.
use mathlib.Core.Path.{◌≡◌, refl, sym, ap, ◌∙◌}
use Rattle.std.specs.Prelude.{Ok, Err}
use Prim.Native.Nat.{ℕ, ◌+◌, ◌*◌, ◌/◌, ◌<◌}
use native.Mathlib.Omega.{arith}
use mathlib.Core.Bool.{true}
use mathlib.Core.List.{List}
use lib.ListN.{length, get_or}
use Rattle.window.specs.declared.Refusal.{Refusal}
use Rattle.window.specs.Windows.{Window, window_of}
use Rattle.window.specs.Images.{image}
use Rattle.window.specs.Plans.{refusal, passes}
use Rattle.window.proofs.RowLaws.{allowed_inv}
use Rattle.chips.specs.declared.Fault.{Fault}
use Rattle.chips.specs.Promises.{refusal_of, told, marks_checked}
use Rattle.chips.specs.Shares.{share}
use Rattle.chips.specs.Boards.{Board, chip_at, received}
use Rattle.chips.specs.Refusals.{row16_or, deal_refusal}
use Rattle.chips.specs.Calls.{dealt_image, dealt_chip}
use Rattle.chips.proofs.ShareLaws.{Even, share_least, used, length_chip, chip_cell}
use Rattle.chips.proofs.ImageLaws.{length_image, image_at}
use Rattle.chips.proofs.ReceiveLaws.{flag_small}
use Rattle.chips.proofs.RenewedLaws.{renewed_all}
use Rattle.chips.proofs.FitLaws.{deal_inv}
use Rattle.chips.proofs.AnswerLaws.{checked, lengths_told, marks_told, fault_refuses, leaves_old, leaves_image}
use Rattle.deal_row.specs.Dealing.{Ready, Dealt}
use Rattle.deal_row.proofs.DealLaws.{ready_even}

module _ (k base : ℕ) (memory marks : List ℕ) (b : Board) where
  abbrev W : Window
  W = window_of base memory marks

  -- an answer, and what it leaves of each chip
  pub record Says (r : Refusal) (d : Board) : Type 0 where
    pub answer : r ≡ deal_refusal k W b
    pub chips : (c : ℕ) → c < 4 → chip_at d c ≡ dealt_chip k W b c

  stays : (r : Refusal) → r ≡ deal_refusal k W b → (r.reason ≡ 0 → ⊥) → Says r b
  unfolding dealt_chip
  stays r e h = record { answer = e; chips = λ c u. leaves_old (deal_refusal k W b) r (chip_at b c) (dealt_image k W c) e h }

  -- refused by rows 21 and 1
  pub refused_by_lengths : (r : Refusal) (fault : Fault) → r ≡ refusal_of fault → Err fault ≡ checked k base memory marks b → Says r b
  unfolding deal_refusal
  refused_by_lengths r fault p q =
      let e : refusal_of fault ≡ deal_refusal k W b = ap (told (row16_or marks (refusal 0 0 0))) q ∙ sym (lengths_told k base memory marks b (row16_or marks (refusal 0 0 0))) in
      stays r (p ∙ e) (λ z. fault_refuses fault (sym (ap (λ (x : Refusal). x.reason) p) ∙ z))

  -- behind them the marks decide
  module _ (q : Ok tt ≡ checked k base memory marks b) where
    by_marks : told (refusal 0 0 0) (marks_checked marks) ≡ deal_refusal k W b
    unfolding deal_refusal
    by_marks =
        sym (marks_told marks (refusal 0 0 0)) ∙ ap (told (row16_or marks (refusal 0 0 0))) q
        ∙ sym (lengths_told k base memory marks b (row16_or marks (refusal 0 0 0)))

    -- refused by row 16
    pub refused_by_marks : (r : Refusal) (fault : Fault) → r ≡ refusal_of fault → Err fault ≡ marks_checked marks → Says r b
    refused_by_marks r fault p m =
        stays r (p ∙ ap (told (refusal 0 0 0)) m ∙ by_marks) (λ z. fault_refuses fault (sym (ap (λ (x : Refusal). x.reason) p) ∙ z))

  module _ (q : Ok tt ≡ checked k base memory marks b) (m : Ok tt ≡ marks_checked marks) where
    answers : refusal 0 0 0 ≡ deal_refusal k W b
    answers = ap (told (refusal 0 0 0)) m ∙ by_marks q

    passed : passes (deal_refusal k W b) ≡ true
    passed = rw (← answers) refl

    -- what the functions over rows ask for
    pub ready : Ready k memory marks b
    ready =
        let t = deal_inv k W b passed in
        let a = allowed_inv W t.0.allowed in
        record { count = t.0.count; even = t.0.even; long = a.0; reach = omega (arith, a.1); clean = t.1; shares = t.0.shares }

    -- a chip that has received all rows has received its image
    dealt_all : (d : Board) → Dealt k memory marks 0 (length memory / k) b d → (c : ℕ) → c < 4 → chip_at d c ≡ received (chip_at b c) (dealt_image k W c)
    unfolding dealt_image
    dealt_all d x c u =
        let e : Even k (length memory) = ready_even k memory marks b ready in
        let n : ℕ = share k c (length memory) in
        let l : length (image memory marks) ≡ length memory = length_image memory marks ready.long in
        renewed_all (λ j. get_or memory (k * j + c) 0) (λ j. get_or marks (k * j + c) 0) n (length memory / k) (chip_at b c) (chip_at d c) (dealt_image k W c)
        (share_least k c (length memory)) (x c u) (ready.shares c u).0 (ready.shares c u).1 (length_chip k c (image memory marks) ∙ ap (share k c) l)
        (λ i h.
        let v = used k c (length memory) i h in
        chip_cell k c i (image memory marks) (rw l h) ∙ image_at memory marks (k * i + c) ready.long (e.within c i v.0 v.1))
        (λ i h. flag_small marks (k * i + c) ready.clean)

    -- dealt
    pub accepted : (r : Refusal) → r ≡ refusal 0 0 0 → (d : Board) → Dealt k memory marks 0 (length memory / k) b d → Says r d
    unfolding dealt_chip
    accepted r p d x =
        let e = p ∙ answers in
        record { answer = e; chips = λ c u. dealt_all d x c u ∙ leaves_image (deal_refusal k W b) r (chip_at b c) (dealt_image k W c) e (ap (λ (f : Refusal). f.reason) p) }

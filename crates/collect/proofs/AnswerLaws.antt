-- The answer of a collect, and the whole afterwards: one law for each way out.
use mathlib.Core.Path.{◌≡◌, refl, sym, ap, ◌∙◌}
use Rattle.std.specs.Prelude.{Result, Ok, Err}
use Prim.Native.Nat.{ℕ, ◌/◌, ◌%◌, ◌<◌}
use native.Mathlib.Omega.{arith}
use mathlib.Core.Bool.{true}
use mathlib.Core.List.{List}
use lib.ListN.{length, get_or}
use borrow.Author.Tests.{eq-eqb}
use Rattle.window.specs.declared.Refusal.{Refusal}
use Rattle.window.specs.Windows.{Window, window_of}
use Rattle.window.specs.Images.{Image}
use Rattle.window.specs.Plans.{refusal, passes}
use Rattle.window.proofs.RowLaws.{allowed_inv}
use Rattle.chips.specs.declared.Fault.{Fault}
use Rattle.chips.specs.Promises.{refusal_of, told, marks_checked}
use Rattle.chips.specs.Boards.{Buffers, Board, buffers_of, chip_at, image_of, received}
use Rattle.chips.specs.Refusals.{row16_or, collect_refusal}
use Rattle.chips.specs.Calls.{collected_image, collected_whole}
use Rattle.chips.proofs.TestLaws.{at_most_four}
use Rattle.chips.proofs.ShareLaws.{Even, share_in, length_whole, whole_cell}
use Rattle.chips.proofs.ImageLaws.{image_at}
use Rattle.chips.proofs.ReceiveLaws.{flag_small}
use Rattle.chips.proofs.RenewedLaws.{renewed_all}
use Rattle.chips.proofs.FitLaws.{collect_inv}
use Rattle.chips.proofs.AnswerLaws.{checked, lengths_told, marks_told, fault_refuses, leaves_old, leaves_image}
use Rattle.collect_row.specs.Collecting.{Ready, Collects}
use Rattle.collect_row.proofs.CollectLaws.{ready_even}

-- marks that pass their check leave the answer to what comes behind them
pub behind : (marks : List ℕ) (r : Result (Unit {0}) Fault) (u : Unit {0}) → r ≡ marks_checked marks → r ≡ Ok u → (next : Refusal) → row16_or marks next ≡ next
behind marks r u p q next = marks_told marks next ∙ ap (told next) (sym p ∙ q)

-- others decide it
pub decided : (marks : List ℕ) (r : Result (Unit {0}) Fault) (fault : Fault) → r ≡ marks_checked marks → r ≡ Err fault → (inner next : Refusal) → row16_or marks inner ≡ told next (Err fault)
decided marks r fault p q inner next = marks_told marks inner ∙ ap (told inner) (sym p ∙ q)

module _ (k base : ℕ) (memory marks : List ℕ) (b : Board) where
  abbrev W : Window
  W = window_of base memory marks

  abbrev own : Buffers
  own = buffers_of memory marks

  -- row 16 of the chips' marks, lowest chip first, and behind them `next`
  abbrev pub chips_or : Refusal → Refusal
  chips_or next = row16_or b.first.marks (row16_or b.second.marks (row16_or b.third.marks (row16_or b.fourth.marks next)))

  -- a refusal, and what it leaves of the whole
  pub record Says (r : Refusal) (new : Buffers) : Type 0 where
    pub refuses : r ≡ collect_refusal k W b
    pub whole : new ≡ collected_whole k W b

  stays : (r : Refusal) → r ≡ collect_refusal k W b → (r.reason ≡ 0 → ⊥) → Says r own
  unfolding collected_whole
  stays r e h = record { refuses = e; whole = leaves_old (collect_refusal k W b) r own (collected_image k (length memory) b) e h }

  -- refused by rows 21 and 1
  pub refused_by_lengths : (r : Refusal) (fault : Fault) → r ≡ refusal_of fault → Err fault ≡ checked k base memory marks b → Says r own
  unfolding collect_refusal
  refused_by_lengths r fault p q =
      let e : refusal_of fault ≡ collect_refusal k W b = ap (told (chips_or (refusal 0 0 0))) q ∙ sym (lengths_told k base memory marks b (chips_or (refusal 0 0 0))) in
      stays r (p ∙ e) (λ z. fault_refuses fault (sym (ap (λ (x : Refusal). x.reason) p) ∙ z))

  -- row 16 of the chips' marks, and behind them zeros
  abbrev pub bad_rows : Refusal
  bad_rows = chips_or (refusal 0 0 0)

  -- behind rows 21 and 1 the chips' marks decide
  by_marks : (r : Refusal) → Ok tt ≡ checked k base memory marks b → r ≡ bad_rows → r ≡ collect_refusal k W b
  unfolding collect_refusal
  by_marks r q p = p ∙ ap (told bad_rows) q ∙ sym (lengths_told k base memory marks b bad_rows)

  -- refused by row 16
  pub refused_by_marks : (r : Refusal) → Ok tt ≡ checked k base memory marks b → r ≡ bad_rows → (r.reason ≡ 0 → ⊥) → Says r own
  refused_by_marks r q p h = stays r (by_marks r q p) h

  -- the same, by what the check of the chips' marks answers
  pub refused_by_check : Ok tt ≡ checked k base memory marks b → (all : Result (Unit {0}) Fault) → ((next : Refusal) → chips_or next ≡ told next all)
      → (r : Refusal) (fault : Fault) → r ≡ refusal_of fault → all ≡ Err fault → Says r own
  refused_by_check q all m r fault p e =
      refused_by_marks r q (p ∙ ap (told (refusal 0 0 0)) (sym e) ∙ sym (m (refusal 0 0 0)))
      (λ z. fault_refuses fault (sym (ap (λ (x : Refusal). x.reason) p) ∙ z))

  module _ (r : Refusal) (q : Ok tt ≡ checked k base memory marks b) (p : r ≡ bad_rows) (h : r.reason ≡ 0) where
    passed : passes (collect_refusal k W b) ≡ true
    passed = rw (← by_marks r q p) (eq-eqb r.reason 0 h)

    -- what the functions over rows ask for
    pub ready : Ready k own b
    ready =
        let t = collect_inv k W b passed in
        let a = allowed_inv W t.0.allowed in
        record { count = t.0.count; even = t.0.even; long = a.0; reach = omega (arith, a.1); clean = t.1; shares = t.0.shares }

    -- a whole that has received all rows has received the chips' image
    collected_all : (new : Buffers) → Collects k b 0 (length memory) own new → new ≡ received own (collected_image k (length memory) b)
    unfolding collected_image
    collected_all new x =
        let n : ℕ = length memory in
        let e : Even k n = ready_even k own b ready in
        let chips : ℕ → Image = λ c. image_of (chip_at b c) in
        renewed_all (λ j. get_or (chip_at b (j % k)).memory (j / k) 0) (λ j. get_or (chip_at b (j % k)).marks (j / k) 0) n n own new (collected_image k n b)
        (omega arith) x refl ready.long (length_whole k n chips)
        (λ i l.
        let c : ℕ = i % k in
        let u : c < 4 = omega (arith, e.chip i, at_most_four k ready.count) in
        let s = ready.shares c u in
        whole_cell k n i chips l
        ∙ image_at (chip_at b c).memory (chip_at b c).marks (i / k) (s.1 ∙ sym s.0) (omega (arith, s.0, share_in k c n (e.chip i), e.inside i l)))
        (λ i l. flag_small (chip_at b (i % k)).marks (i / k) (ready.clean (i % k) (omega (arith, e.chip i, at_most_four k ready.count))))

    -- collected
    pub accepted : (new : Buffers) → Collects k b 0 (length memory) own new → Says r new
    unfolding collected_whole
    accepted new x =
        let e = by_marks r q p in
        record { refuses = e; whole = collected_all new x ∙ leaves_image (collect_refusal k W b) r own (collected_image k (length memory) b) e h }

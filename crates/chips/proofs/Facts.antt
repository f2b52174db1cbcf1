-- The statements of specs/Facts.antt hold.
use mathlib.Core.Path.{◌≡◌, refl, sym, ap, ◌∙◌, subst}
use Prim.Native.Nat.{ℕ, ◌+◌, ◌*◌, ◌/◌, ◌%◌, ◌≤◌, ◌<◌}
use native.Mathlib.Omega.{arith}
use mathlib.Core.Bool.{true, false}
use mathlib.Core.Option.{Option, none}
use mathlib.Core.Logic.{◌↔◌}
use lib.ListN.{length, get_or, length-map}
use borrow.Author.Tests.{eqb-true, eqb-false}
use Rattle.window.specs.declared.Refusal.{Refusal}
use Rattle.window.specs.Windows.{Window, Marked, row16}
use Rattle.window.specs.Images.{Image, mark, overlaid, seen}
use Rattle.window.specs.Plans.{passes}
use Rattle.window.proofs.ViewLaws.{length_overlaid}
use Rattle.window.proofs.RowLaws.{allowed_inv, allowed_is}
use Rattle.chips.specs.Shares.{share, chip_cells, whole_cells}
use Rattle.chips.specs.Boards.{Buffers, Board, buffers_of, chip_at, chip_window, image_of, received}
use Rattle.chips.specs.Refusals.{deal_refusal, collect_refusal}
use Rattle.chips.specs.Calls.{buffers_after, dealt_image, dealt_chip, collected_image, collected_whole}
use Rattle.chips.specs.Facts.{Fits, DealAccepts, CollectAccepts, RefusedChangesNothing, ReceivedAt, DealCells, CollectCells, dealt_board, collected_window, DealByAddress, CollectByAddress, SameWindow, DealtThenCollected, SameLengths, CollectedThenDealt}
use Rattle.chips.proofs.TestLaws.{some_chips, at_most_four}
use Rattle.chips.proofs.AnswerLaws.{leaves_old, leaves_image}
use Rattle.chips.proofs.ShareLaws.{Even, even, Aligned, aligned, share_in, length_chip, length_whole, chip_cell, whole_cell, whole_of_chips, chip_of_whole, whole_same}
use Rattle.chips.proofs.FitLaws.{by_four, Has, deal_inv, deal_is, AllClean, collect_inv, collect_is}
use Rattle.chips.proofs.ReceiveLaws.{flag_small}
use Rattle.chips.proofs.RenewedLaws.{kept, mark_seen, overlaid_at, marks_at}
use Rattle.chips.proofs.ImageLaws.{length_image, image_at, Given, marked_iff, Sound, shows, same_marked, received_shows, image_clean, given_inside}

-- a call that passes lets the buffers receive the image
leaves_passing : (f : Refusal) (c : Buffers) (img : Image) → passes f ≡ true → buffers_after f c img ≡ received c img
leaves_passing f c img h = sym (leaves_image f f c img refl (eqb-true f.reason 0 h))

fits_even : (k : ℕ) (W : Window) (b : Board) → Fits k W b → Even k (length W.memory)
fits_even k W b t = even k (length W.memory) (some_chips k t.count) t.even

fits_aligned : (k : ℕ) (W : Window) (b : Board) → Fits k W b → Aligned k W.base
fits_aligned k W b t = aligned k W.base (some_chips k t.count) t.base

-- the chip of an address is one of four
chip_of_four : (k : ℕ) (W : Window) (b : Board) → Fits k W b → (A : ℕ) → A % k < 4
chip_of_four k W b t A = omega (arith, (fits_even k W b t).chip A, at_most_four k t.count)

-- ---- which calls are accepted

pub deal_accepts : DealAccepts
deal_accepts k W b = (deal_inv k W b, λ t. rw (deal_is k W b t.0 t.1))

pub collect_accepts : CollectAccepts
collect_accepts k W b = (collect_inv k W b, λ t. rw (collect_is k W b t.0 t.1))

-- a refused call changes nothing
leaves_refused : (f : Refusal) (c : Buffers) (img : Image) → passes f ≡ false → buffers_after f c img ≡ c
leaves_refused f c img h = sym (leaves_old f f c img refl (eqb-false f.reason 0 h))

pub refused_changes_nothing : RefusedChangesNothing
unfolding dealt_chip collected_whole
refused_changes_nothing = record {
  deal = λ k W b h c. leaves_refused (deal_refusal k W b) (chip_at b c) (dealt_image k W c) h;
  collect = λ k W b h. leaves_refused (collect_refusal k W b) (buffers_of W.memory W.marks) (collected_image k (length W.memory) b) h;
}

-- ---- cell by cell

-- buffers that received an image, at a cell that it gives
received_at : (c : Buffers) (img : Image) (i m y : ℕ) → length img ≡ length c.memory → i < length img → get_or img i none ≡ seen m y → m ≤ 1
    → ReceivedAt i m y c (received c img)
received_at c img i m y l h e small =
    let o : get_or (overlaid c.memory img) i 0 ≡ kept (seen m y) (get_or c.memory i 0)
    = overlaid_at c.memory img i l (rw l at h) ∙ ap (λ (x : Option ℕ). kept x (get_or c.memory i 0)) e in
    record {
      marked = marks_at img i h ∙ ap mark e ∙ sym (mark_seen m y small);
      stored = λ q. o ∙ ap (λ (x : ℕ). kept (seen x y) (get_or c.memory i 0)) q;
      stays = λ q. o ∙ ap (λ (x : ℕ). kept (seen x y) (get_or c.memory i 0)) q;
    }

-- ---- cells of a whole and of chips, by address

-- U is a whole of n cells, and its image's cell k j + c is cell j of chip c
module _ (k base n : ℕ) (U : Window) (sound : Sound U) (at_base : U.base ≡ base) (long : length (shows U) ≡ n) (e : Even k n) (a : Aligned k base) (A B : ℕ)
    (C : Window) (clean : Sound C) (its-base : C.base ≡ base / k) (short : length (shows C) ≡ n / k)
    (same : (j : ℕ) → j < n / k → get_or (shows C) j none ≡ get_or (shows U) (k * j + A % k) none) where
  pub by_address : Marked U A B ↔ Marked C (A / k) B
  by_address =
      let w = marked_iff U sound A B in
      let v = marked_iff C clean (A / k) B in
      let c : ℕ = A % k in (
        λ m.
            let g : (i : ℕ) × (A ≡ U.base + i) × Given (shows U) i B = w.0 m in
            let i : ℕ = g.0 in
            let l : i < n = rw long at (given_inside (shows U) i B g.2) in
            let q : A ≡ base + i = g.1 ∙ ap (λ (x : ℕ). x + i) at_base in
            let r : c ≡ i % k = ap (λ (x : ℕ). x % k) q ∙ a.chip_of i in
            let p : A / k ≡ C.base + i / k = ap (λ (x : ℕ). x / k) q ∙ a.place_of i ∙ ap (λ (x : ℕ). x + i / k) (sym its-base) in
            let j : k * (i / k) + c ≡ i = ap (λ (x : ℕ). k * (i / k) + x) r ∙ e.joined i in
            v.1 (i / k, p, same (i / k) (e.inside i l) ∙ ap (λ (x : ℕ). get_or (shows U) x none) j ∙ g.2),
        λ m.
            let g : (j : ℕ) × (A / k ≡ C.base + j) × Given (shows C) j B = v.0 m in
            let j : ℕ = g.0 in
            let l : j < n / k = rw short at (given_inside (shows C) j B g.2) in
            let q : A / k ≡ base / k + j = g.1 ∙ ap (λ (x : ℕ). x + j) its-base in
            w.1 (k * j + c, a.back A j q ∙ ap (λ (x : ℕ). x + (k * j + c)) (sym at_base), sym (same j l) ∙ g.2),
      )

-- ---- a deal that is not refused

module _ (k : ℕ) (W : Window) (b : Board) (h : passes (deal_refusal k W b) ≡ true) where
  abbrev n : ℕ
  n = length W.memory

  abbrev fit : Fits k W b
  fit = (deal_inv k W b h).0

  pub deal_sound : Sound W
  deal_sound = record { long = (allowed_inv W fit.allowed).0; clean = (deal_inv k W b h).1 }

  pub long_image : length (shows W) ≡ n
  long_image = length_image W.memory W.marks deal_sound.long

  length_dealt : (c : ℕ) → length (dealt_image k W c) ≡ share k c n
  unfolding dealt_image
  length_dealt c = length_chip k c (shows W) ∙ ap (share k c) long_image

  dealt_is : (c : ℕ) → dealt_chip k W b c ≡ received (chip_at b c) (dealt_image k W c)
  unfolding dealt_chip
  dealt_is c = leaves_passing (deal_refusal k W b) (chip_at b c) (dealt_image k W c) h

  -- a chip that was dealt to has its share, and shows what it was dealt
  pub dealt_has : (c : ℕ) → c < 4 → Has (share k c n) (dealt_chip k W b c)
  dealt_has c l = rw (dealt_is c) (
    length_overlaid (chip_at b c).memory (dealt_image k W c) ∙ (fit.shares c l).0,
    length-map (dealt_image k W c) mark ∙ length_dealt c,
  )

  pub dealt_shows : (c : ℕ) → c < 4
      → Sound (chip_window k W.base (dealt_chip k W b c)) × (shows (chip_window k W.base (dealt_chip k W b c)) ≡ dealt_image k W c)
  dealt_shows c l = rw (dealt_is c) (received_shows (W.base / k) (chip_at b c) (dealt_image k W c) ((fit.shares c l).0 ∙ sym (length_dealt c)))

  -- cell j of a chip's image is cell k j + chip of the whole image
  dealt_cell : (c j : ℕ) → j < share k c n → get_or (dealt_image k W c) j none ≡ get_or (shows W) (k * j + c) none
  unfolding dealt_image
  dealt_cell c j l = chip_cell k c j (shows W) (rw long_image l)

  goes : (A B : ℕ) → Marked W A B ↔ Marked (chip_window k W.base (dealt_chip k W b (A % k))) (A / k) B
  goes A B =
      let e = fits_even k W b fit in
      let c : ℕ = A % k in
      let s = dealt_shows c (chip_of_four k W b fit A) in
      let mine : share k c n ≡ n / k = share_in k c n (e.chip A) in
      by_address k W.base n W deal_sound refl long_image e (fits_aligned k W b fit) A B (chip_window k W.base (dealt_chip k W b c)) s.0 refl
      (ap (length {A = Option ℕ}) s.1 ∙ length_dealt c ∙ mine)
      (λ j l. ap (λ (x : Image). get_or x j none) s.1 ∙ dealt_cell c j (rw mine l))

-- cell by cell
pub deal_cells : DealCells
deal_cells k W b h c i u l =
    let t = (deal_inv k W b h).0 in
    let e = fits_even k W b t in
    let n : ℕ = length W.memory in
    let v : c < 4 = omega (arith, at_most_four k t.count) in
    let s : i < share k c n = rw (share_in k c n u) l in
    rw (dealt_is k W b h c)
    (received_at (chip_at b c) (dealt_image k W c) i (get_or W.marks (k * i + c) 0) (get_or W.memory (k * i + c) 0)
    (length_dealt k W b h c ∙ sym (t.shares c v).0) (rw (length_dealt k W b h c) s)
    (dealt_cell k W b h c i s ∙ image_at W.memory W.marks (k * i + c) (deal_sound k W b h).long (e.within c i u l))
    (flag_small W.marks (k * i + c) (deal_sound k W b h).clean))

-- cell A is marked with B exactly when chip A modulo k has A / k marked with B
pub deal_by_address : DealByAddress
deal_by_address = goes

-- ---- a collect that is not refused

module _ (k : ℕ) (W : Window) (b : Board) (h : passes (collect_refusal k W b) ≡ true) where
  abbrev m : ℕ
  m = length W.memory

  abbrev fitting : Fits k W b
  fitting = (collect_inv k W b h).0

  abbrev own : Buffers
  own = buffers_of W.memory W.marks

  length_collected : length (collected_image k m b) ≡ m
  unfolding collected_image
  length_collected = length_whole k m (λ c. image_of (chip_at b c))

  collected_is : collected_whole k W b ≡ received own (collected_image k m b)
  unfolding collected_whole
  collected_is = leaves_passing (collect_refusal k W b) own (collected_image k m b) h

  -- the whole that was collected shows the cells of the chips
  pub collected_shows : Sound (collected_window k W b) × (shows (collected_window k W b) ≡ collected_image k m b)
  collected_shows = rw collected_is (received_shows W.base own (collected_image k m b) (sym length_collected))

  length_collected_window : length (collected_window k W b).memory ≡ m
  length_collected_window = rw collected_is (length_overlaid W.memory (collected_image k m b))

  -- a chip that sends shows as many cells as it has
  chip_sound : (c : ℕ) → c < 4 → Sound (chip_window k W.base (chip_at b c))
  chip_sound c u = record { long = (fitting.shares c u).1 ∙ sym (fitting.shares c u).0; clean = (collect_inv k W b h).1 c u }

  chip_long : (c : ℕ) → c < 4 → length (image_of (chip_at b c)) ≡ share k c m
  chip_long c u = length_image (chip_at b c).memory (chip_at b c).marks (chip_sound c u).long ∙ (fitting.shares c u).0

  collected_cell : (A j : ℕ) → j < m / k → get_or (image_of (chip_at b (A % k))) j none ≡ get_or (collected_image k m b) (k * j + A % k) none
  unfolding collected_image
  collected_cell A j l =
      let e = fits_even k W b fitting in
      let c : ℕ = A % k in
      sym (whole_cell k m (k * j + c) (λ c. image_of (chip_at b c)) (e.within c j (e.chip A) l)
      ∙ (λ t. get_or (image_of (chip_at b (e.its_chip c j (e.chip A) t))) (e.its_place c j (e.chip A) t) none))

  comes : (A B : ℕ) → Marked (collected_window k W b) A B ↔ Marked (chip_window k W.base (chip_at b (A % k))) (A / k) B
  comes A B =
      let e = fits_even k W b fitting in
      let c : ℕ = A % k in
      let u : c < 4 = chip_of_four k W b fitting A in
      let s = collected_shows in
      by_address k W.base m (collected_window k W b) s.0 refl (ap (length {A = Option ℕ}) s.1 ∙ length_collected) e (fits_aligned k W b fitting) A B
      (chip_window k W.base (chip_at b c)) (chip_sound c u) refl (chip_long c u ∙ share_in k c m (e.chip A))
      (λ j l. collected_cell A j l ∙ ap (λ (x : Image). get_or x (k * j + c) none) (sym s.1))

pub collect_cells : CollectCells
unfolding collected_image
collect_cells k W b h i l =
    let t = (collect_inv k W b h).0 in
    let e = fits_even k W b t in
    let n : ℕ = length W.memory in
    let c : ℕ = i % k in
    let v : c < 4 = chip_of_four k W b t i in
    let s = chip_sound k W b h c v in
    rw (collected_is k W b h)
    (received_at (buffers_of W.memory W.marks) (collected_image k n b) i (get_or (chip_at b c).marks (i / k) 0) (get_or (chip_at b c).memory (i / k) 0)
    (length_collected k W b h) (rw (length_collected k W b h) l)
    (whole_cell k n i (λ c. image_of (chip_at b c)) l
    ∙ image_at (chip_at b c).memory (chip_at b c).marks (i / k) s.long (omega (arith, (t.shares c v).0, share_in k c n (e.chip i), e.inside i l)))
    (flag_small (chip_at b c).marks (i / k) s.clean))

-- the same of collecting
pub collect_by_address : CollectByAddress
collect_by_address = comes

-- ---- collecting what was dealt

module _ (k : ℕ) (R W : Window) (b : Board) (h : passes (deal_refusal k W b) ≡ true) (z : SameWindow R W) where
  abbrev dealt : Board
  dealt = dealt_board k W b

  -- what holds of each chip dealt to holds of those of the board
  of_dealt : (P : ℕ → Buffers → Type 0) → ((c : ℕ) → c < 4 → P c (dealt_chip k W b c)) → (c : ℕ) → c < 4 → P c (chip_at dealt c)
  of_dealt P p = by_four (λ c. P c (chip_at dealt c)) (p 0 (omega arith)) (p 1 (omega arith)) (p 2 (omega arith)) (p 3 (omega arith))

  back_fits : Fits k R dealt
  back_fits =
      let t : Fits k W b = (deal_inv k W b h).0 in
      let a = allowed_inv W t.allowed in
      record {
        count = t.count;
        base = rw z.base t.base;
        even = rw z.memory t.even;
        allowed = allowed_is R (z.marks ∙ a.0 ∙ sym z.memory) (omega (arith, z.base, z.memory, a.1));
        shares = rw z.memory (of_dealt (λ c x. Has (share k c (length W.memory)) x) (dealt_has k W b h));
      }

  back_clean : AllClean k R dealt
  back_clean = of_dealt (λ c x. row16 x.marks ≡ false) (λ c u. rw (dealt_is k W b h c) (image_clean (dealt_image k W c)))

  pub back_accepted : passes (collect_refusal k R dealt) ≡ true
  back_accepted = rw (collect_is k R dealt back_fits back_clean)

  back_chip : (c : ℕ) → c < 4 → image_of (chip_at dealt c) ≡ dealt_image k W c
  back_chip = of_dealt (λ c x. image_of x ≡ dealt_image k W c) (λ c u. (dealt_shows k W b h c u).1)

  pub back_image : collected_image k (length R.memory) dealt ≡ shows W
  unfolding collected_image dealt_image
  back_image =
      let n : ℕ = length W.memory in
      let t : Fits k W b = (deal_inv k W b h).0 in
      let l : length (shows W) ≡ n = long_image k W b h in
      rw z.memory
      (whole_same k n (λ c. image_of (chip_at dealt c)) (λ c. chip_cells k c (shows W)) (some_chips k t.count)
      (λ c u. back_chip c (omega (arith, at_most_four k t.count)))
      ∙ ap (λ (x : ℕ). whole_cells k x (λ c. chip_cells k c (shows W))) (sym l)
      ∙ whole_of_chips k (shows W) (subst (Even k) (sym l) (fits_even k W b t)))

-- collecting what was dealt restores every addressed cell
pub dealt_then_collected : DealtThenCollected
dealt_then_collected k R W b h z =
    let a = back_accepted k R W b h z in
    let s = collected_shows k R (dealt_board k W b) a in
    (a, same_marked (collected_window k R (dealt_board k W b)) W z.base s.0 (deal_sound k W b h) (s.1 ∙ back_image k R W b h z))

-- ---- dealing what was collected

module _ (k : ℕ) (W : Window) (b d : Board) (h : passes (collect_refusal k W d) ≡ true) (z : SameLengths b d) where
  abbrev all : Window
  all = collected_window k W d

  again_fits : Fits k all b
  again_fits =
      let t : Fits k W d = (collect_inv k W d h).0 in
      let s = collected_shows k W d h in
      let l : length all.memory ≡ length W.memory = length_collected_window k W d h in
      record {
        count = t.count;
        base = t.base;
        even = rw l t.even;
        allowed = allowed_is all s.0.long (rw l (allowed_inv W t.allowed).1);
        shares = λ c u. ((z c).0 ∙ (t.shares c u).0 ∙ ap (share k c) (sym l), (z c).1 ∙ (t.shares c u).1 ∙ ap (share k c) (sym l));
      }

  again_accepted : passes (deal_refusal k all b) ≡ true
  again_accepted = rw (deal_is k all b again_fits (collected_shows k W d h).0.clean)

  again_image : (c : ℕ) → c < 4 → dealt_image k all c ≡ image_of (chip_at d c)
  unfolding dealt_image collected_image
  again_image c u =
      ap (chip_cells k c) (collected_shows k W d h).1
      ∙ chip_of_whole k (length W.memory) c (λ c. image_of (chip_at d c)) (fits_even k W d (collect_inv k W d h).0) (chip_long k W d h c u)

-- dealing what was collected restores every addressed cell of every chip
pub collected_then_dealt : CollectedThenDealt
collected_then_dealt k W b d h z =
    let a = again_accepted k W b d h z in (
      a,
      λ c A B u.
          let s = dealt_shows k (collected_window k W d) b a c u in
          same_marked (chip_window k W.base (dealt_chip k (collected_window k W d) b c)) (chip_window k W.base (chip_at d c)) refl s.0
          (chip_sound k W d h c u) (s.1 ∙ again_image k W b d h z c u) A B,
    )

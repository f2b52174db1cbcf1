-- What the rows 21, 1 and 16 let pass, and that they let that pass.
use mathlib.Core.Path.{◌≡◌, sym, ◌∙◌}
use Prim.Native.Nat.{ℕ, zero, suc, ◌<◌}
use native.Mathlib.Omega.{arith}
use mathlib.Core.Bool.{Bool, true, false, not, ◌||◌}
use lib.Dec.{eqb}
use lib.ListN.{length}
use borrow.Author.Tests.{eq-eqb, eqb-true}
use Rattle.lists.proofs.TestLaws.{by_test, or_neither}
use Rattle.window.specs.declared.Refusal.{Refusal}
use Rattle.window.specs.Windows.{Window, row1, Allowed, row16}
use Rattle.window.specs.Plans.{refusal, passes}
use Rattle.chips.specs.Shares.{share}
use Rattle.chips.specs.Boards.{Buffers, Board, chip_at}
use Rattle.chips.specs.Refusals.{row21, lengths_differ, chip_lengths_differ, row1_chips, rows21_and1_or, row16_or, deal_refusal, collect_refusal}
use Rattle.chips.specs.Facts.{Fits}
use Rattle.chips.proofs.TestLaws.{same_number}
use Rattle.chips.proofs.LengthLaws.{even_inv, even_is}
use Rattle.chips.proofs.BadLaws.{bad_none, bad_inv}

-- what holds of each of four numbers
pub by_four : (P : ℕ → Type 0) → P 0 → P 1 → P 2 → P 3 → (c : ℕ) → c < 4 → P c
by_four P a b c d zero h = a
by_four P a b c d (suc zero) h = b
by_four P a b c d (suc (suc zero)) h = c
by_four P a b c d (suc (suc (suc zero))) h = d
by_four P a b c d (suc (suc (suc (suc n)))) h = absurd (omega arith)

-- ---- one chip

-- a chip has so many cells
abbrev pub Has : ℕ → Buffers → Type 0
Has size c = (length c.memory ≡ size) × (length c.marks ≡ size)

has_inv : (size : ℕ) (c : Buffers) → lengths_differ size (length c.memory) (length c.marks) ≡ false → Has size c
unfolding lengths_differ
has_inv size c h =
    let k = or_neither (not (eqb (length c.memory) size)) (not (eqb (length c.marks) size)) h in
    (same_number (length c.memory) size k.0, same_number (length c.marks) size k.1)

has_is : (size : ℕ) (c : Buffers) → Has size c → lengths_differ size (length c.memory) (length c.marks) ≡ false
unfolding lengths_differ
has_is size c h = rw (eq-eqb (length c.memory) size h.0, eq-eqb (length c.marks) size h.1)

-- ---- rows 21 and 1

module _ (k : ℕ) (W : Window) (b : Board) where
  abbrev n : ℕ
  n = length W.memory

  lengths_inv : row1_chips k W b ≡ false → Allowed W × ((c : ℕ) → c < 4 → Has (share k c n) (chip_at b c))
  unfolding row1_chips
  lengths_inv h =
      let m : ℕ → Buffers → Bool = λ c x. chip_lengths_differ k n c x in
      let s = or_neither (row1 W) (m 0 b.first || (m 1 b.second || (m 2 b.third || m 3 b.fourth))) h in
      let t = or_neither (m 0 b.first) (m 1 b.second || (m 2 b.third || m 3 b.fourth)) s.1 in
      let u = or_neither (m 1 b.second) (m 2 b.third || m 3 b.fourth) t.1 in
      let v = or_neither (m 2 b.third) (m 3 b.fourth) u.1 in (
        s.0,
        by_four (λ c. Has (share k c n) (chip_at b c)) (has_inv (share k 0 n) b.first t.0) (has_inv (share k 1 n) b.second u.0)
            (has_inv (share k 2 n) b.third v.0) (has_inv (share k 3 n) b.fourth v.1),
      )

  -- what is not refused fits
  pub fits_inv : (next : Refusal) → passes (rows21_and1_or k W b next) ≡ true → Fits k W b × (passes next ≡ true)
  unfolding rows21_and1_or
  fits_inv next h =
      by_test (row21 k W.base n) (λ t. absurd (let z : eqb 21 0 ≡ true = rw t at h in omega (arith, eqb-true 21 0 z)))
      (λ t. by_test (row1_chips k W b) (λ u. absurd (let z : eqb 1 0 ≡ true = rw (t, u) at h in omega (arith, eqb-true 1 0 z)))
      (λ u.
      let a = even_inv k W.base n t in
      let l = lengths_inv u in
      (record { count = a.0; base = a.1; even = a.2; allowed = l.0; shares = l.1 }, rw (t, u) at h)))

  -- and what fits is not refused
  pub fits_is : (next : Refusal) → Fits k W b → rows21_and1_or k W b next ≡ next
  unfolding rows21_and1_or row1_chips
  fits_is next h =
      rw (
        even_is k W.base n h.count h.base h.even,
        h.allowed,
        has_is (share k 0 n) b.first (h.shares 0 (omega arith)),
        has_is (share k 1 n) b.second (h.shares 1 (omega arith)),
        has_is (share k 2 n) b.third (h.shares 2 (omega arith)),
        has_is (share k 3 n) b.fourth (h.shares 3 (omega arith)),
      )

  -- ---- all rows

  -- a deal that passes
  pub deal_inv : passes (deal_refusal k W b) ≡ true → Fits k W b × (row16 W.marks ≡ false)
  unfolding deal_refusal
  deal_inv h = let a = fits_inv (row16_or W.marks (refusal 0 0 0)) h in (a.0, (bad_inv W.marks (refusal 0 0 0) a.1).0)

  pub deal_is : Fits k W b → row16 W.marks ≡ false → deal_refusal k W b ≡ refusal 0 0 0
  unfolding deal_refusal
  deal_is t e = fits_is (row16_or W.marks (refusal 0 0 0)) t ∙ sym (bad_none W.marks (refusal 0 0 0) e)

  -- the marks of every chip are 0 or 1
  abbrev pub AllClean : Type 0
  AllClean = (c : ℕ) → c < 4 → row16 (chip_at b c).marks ≡ false

  -- a collect that passes
  pub collect_inv : passes (collect_refusal k W b) ≡ true → Fits k W b × AllClean
  unfolding collect_refusal
  collect_inv h =
      let z : Refusal = row16_or b.fourth.marks (refusal 0 0 0) in
      let y : Refusal = row16_or b.third.marks z in
      let x : Refusal = row16_or b.second.marks y in
      let t = fits_inv (row16_or b.first.marks x) h in
      let p = bad_inv b.first.marks x t.1 in
      let q = bad_inv b.second.marks y p.1 in
      let r = bad_inv b.third.marks z q.1 in
      let s = bad_inv b.fourth.marks (refusal 0 0 0) r.1 in
      (t.0, by_four (λ c. row16 (chip_at b c).marks ≡ false) p.0 q.0 r.0 s.0)

  pub collect_is : Fits k W b → AllClean → collect_refusal k W b ≡ refusal 0 0 0
  unfolding collect_refusal
  collect_is t p =
      let z : Refusal = refusal 0 0 0 in
      rw (
        ← bad_none b.fourth.marks z (p 3 (omega arith)),
        ← bad_none b.third.marks z (p 2 (omega arith)),
        ← bad_none b.second.marks z (p 1 (omega arith)),
        ← bad_none b.first.marks z (p 0 (omega arith)),
        fits_is z t,
      )

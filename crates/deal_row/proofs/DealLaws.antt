-- One row dealt to each chip.
use mathlib.Core.Path.{◌≡◌, refl, sym, ap, ◌∙◌}
use Prim.Native.Nat.{ℕ, ◌+◌, ◌*◌, ◌-◌, ◌/◌, ◌≤◌, ◌<◌}
use native.Mathlib.Omega.{arith}
use mathlib.Core.Bool.{false}
use mathlib.Core.List.{List, []}
use lib.ListN.{length, get_or, take, drop, length-take}
use lib.Seq.{get_or-take, get_or-drop}
use Rattle.lists.proofs.PartLaws.{part_long}
use Rattle.window.specs.Windows.{row16}
use Rattle.chips.specs.Boards.{Buffers, Board, chip_at}
use Rattle.chips.specs.Promises.{Renewed}
use Rattle.chips.proofs.TestLaws.{some_chips}
use Rattle.chips.proofs.ShareLaws.{Even, even, row_inside, row_end, share_in, used}
use Rattle.chips.proofs.ReceiveLaws.{flag_small, small_clean}
use Rattle.chips.proofs.FitLaws.{by_four}
use Rattle.chips.proofs.RenewedLaws.{renewed_none, renewed_more, renewed_same}
use Rattle.rows.specs.Rows.{RowsOf}
use Rattle.deal_row.specs.Dealing.{Ready, Dealt}

-- the whole is dealt evenly
pub ready_even : (k : ℕ) (memory marks : List ℕ) (b : Board) → Ready k memory marks b → Even k (length memory)
ready_even k memory marks b r = even k (length memory) (some_chips k r.count) r.even

-- a row of `size` cells a chip from `at` on, of n cells in all
module _ (k n at size : ℕ) (e : Even k n) (room : at + size ≤ n / k) where
  ends : k * (at + size) ≤ n
  ends = row_end k n at size e room

  module _ (whole : List ℕ) (long : length whole ≡ n) where
    abbrev cut : List ℕ
    cut = take (k * (at + size) - k * at) (drop (k * at) whole)

    pub cut_length : length cut ≡ k * size
    cut_length = part_long whole (k * at) (k * (at + size)) (omega arith) (rw long ends) ∙ omega arith

    -- cell i of a chip's row is cell at + i of the chip
    cut_cell : (c i : ℕ) → c < k → i < size → get_or cut (k * i + c) 0 ≡ get_or whole (k * (at + i) + c) 0
    cut_cell c i u h =
        let l : k * i + c < k * size = row_inside k c i size u h in
        let q : k * at + (k * i + c) ≡ k * (at + i) + c = omega arith in
        get_or-take (k * (at + size) - k * at) (drop (k * at) whole) (k * i + c) 0 (omega arith)
        ∙ get_or-drop (k * at) whole (k * i + c) 0 ∙ ap (λ (x : ℕ). get_or whole x 0) q

    row_cell : (rows : List (List ℕ)) → RowsOf k size cut rows → (c j : ℕ) → c < k → at ≤ j → j < at + size
        → get_or (get_or rows c []) (j - at) 0 ≡ get_or whole (k * j + c) 0
    row_cell rows r c j u l h =
        let q : at + (j - at) ≡ j = omega arith in
        r c u (j - at) (omega arith) ∙ cut_cell c (j - at) u (omega arith) ∙ ap (λ (x : ℕ). get_or whole (k * x + c) 0) q

module _ (k : ℕ) (memory marks : List ℕ) (b : Board) (r : Ready k memory marks b) (at size : ℕ) (room : at + size ≤ length memory / k) where
  abbrev n : ℕ
  n = length memory

  abbrev e : Even k n
  e = ready_even k memory marks b r

  -- the cells of the row, of memory or of marks
  abbrev pub row_in : List ℕ → List ℕ
  row_in whole = take (k * (at + size) - k * at) (drop (k * at) whole)

  -- a chip with a cell is one of the k, and has the row
  in_use : (c : ℕ) → c < 4 → 0 < length (chip_at b c).memory → (c < k) × (at + size ≤ length (chip_at b c).memory)
  in_use c u h =
      let s = used k c n 0 (rw (r.shares c u).0 at h) in
      (s.0, rw ((r.shares c u).0 ∙ share_in k c n s.0) room)

  module _ (flags : List (List ℕ)) (q : RowsOf k size (row_in marks) flags) where
    module _ (c : ℕ) (u : c < 4) where
      -- what `put_row` asks for, of a chip that is used
      pub put_asks : 0 < length (chip_at b c).memory → (at + size ≤ length (chip_at b c).memory) × (row16 (take size (get_or flags c [])) ≡ false)
      put_asks h =
          let s = in_use c u h in (
            s.1,
            small_clean (take size (get_or flags c []))
                (λ i l.
                let v : i < size = omega (arith, length-take size (get_or flags c [])) in
                rw (get_or-take size (get_or flags c []) i 0 v, q c s.0 i v, cut_cell k n at size e room marks r.long c i s.0 v)
                (flag_small marks (k * (at + i) + c) r.clean)),
          )

      -- what it leaves
      pub put_dealt : (cells : List (List ℕ)) → RowsOf k size (row_in memory) cells → (new : Buffers)
          → Renewed (λ j. get_or (get_or cells c []) (j - at) 0) (λ j. get_or (get_or flags c []) (j - at) 0) at (at + size) (chip_at b c) new
          → Renewed (λ j. get_or memory (k * j + c) 0) (λ j. get_or marks (k * j + c) 0) at (at + size) (chip_at b c) new
      put_dealt cells p new =
          renewed_same (λ j. get_or (get_or cells c []) (j - at) 0) (λ j. get_or (get_or flags c []) (j - at) 0) (λ j. get_or memory (k * j + c) 0) (λ j. get_or marks (k * j + c) 0)
          at (at + size) (chip_at b c) new ((r.shares c u).1 ∙ sym (r.shares c u).0)
          (λ j l h i.
          let s = in_use c u (omega arith) in
          (row_cell k n at size e room memory refl cells p c j s.0 l h, row_cell k n at size e room marks r.long flags q c j s.0 l h))

    -- all that `put_row` asks for, where a row has at most 16 cells
    pub put_asks_by_size : size ≤ 16 → (c : ℕ) → c < 4
        → (size ≤ 16) × (length (chip_at b c).marks ≡ length (chip_at b c).memory)
        × (0 < length (chip_at b c).memory → (at + size ≤ length (chip_at b c).memory) × (row16 (take size (get_or flags c [])) ≡ false))
    put_asks_by_size few c u = (few, (r.shares c u).1 ∙ sym (r.shares c u).0, put_asks c u)

    module _ (cells : List (List ℕ)) (p : RowsOf k size (row_in memory) cells) (d : Board) where
      -- a chip that has received its row
      abbrev pub Put : ℕ → Type 0
      Put c = Renewed (λ j. get_or (get_or cells c []) (j - at) 0) (λ j. get_or (get_or flags c []) (j - at) 0) at (at + size) (chip_at b c) (chip_at d c)

      -- all four have
      pub row_dealt : Put 0 → Put 1 → Put 2 → Put 3 → Dealt k memory marks at (at + size) b d
      row_dealt h₀ h₁ h₂ h₃ =
          by_four
          (λ c. Renewed (λ j. get_or memory (k * j + c) 0) (λ j. get_or marks (k * j + c) 0) at (at + size) (chip_at b c) (chip_at d c))
          (put_dealt 0 (omega arith) cells p (chip_at d 0) h₀) (put_dealt 1 (omega arith) cells p (chip_at d 1) h₁)
          (put_dealt 2 (omega arith) cells p (chip_at d 2) h₂) (put_dealt 3 (omega arith) cells p (chip_at d 3) h₃)

-- ---- one row behind the other

module _ (k : ℕ) (memory marks : List ℕ) where
  -- the lengths stay
  pub ready_after : (from to : ℕ) (b d : Board) → Ready k memory marks b → Dealt k memory marks from to b d → Ready k memory marks d
  ready_after from to b d r x = record {
    count = r.count;
    even = r.even;
    long = r.long;
    reach = r.reach;
    clean = r.clean;
    shares = λ c u. ((x c u).memory_long ∙ (r.shares c u).0, (x c u).marks_long ∙ (r.shares c u).1);
  }

  pub dealt_none : (at : ℕ) (b : Board) → Dealt k memory marks at at b b
  dealt_none at b c u = renewed_none (λ j. get_or memory (k * j + c) 0) (λ j. get_or marks (k * j + c) 0) at (chip_at b c)

  pub dealt_more : (from mid to : ℕ) (b d g : Board) → from ≤ mid → mid ≤ to → Dealt k memory marks from mid b d → Dealt k memory marks mid to d g
      → Dealt k memory marks from to b g
  dealt_more from mid to b d g p q x y c u =
      renewed_more (λ j. get_or memory (k * j + c) 0) (λ j. get_or marks (k * j + c) 0) from mid to p q (chip_at b c) (chip_at d c) (chip_at g c) (x c u) (y c u)

-- One row collected from each chip.
use mathlib.Core.Path.{◌≡◌, refl, sym, ap, ◌∙◌}
use Prim.Native.Nat.{ℕ, ◌+◌, ◌*◌, ◌-◌, ◌/◌, ◌%◌, ◌≤◌, ◌<◌}
use native.Mathlib.Nat.{mul-le-mul_left}
use native.Mathlib.Omega.{arith}
use mathlib.Core.Bool.{false}
use mathlib.Core.List.{List, [], ◌∷◌}
use lib.ListN.{length, get_or, take, drop, length-take}
use lib.Seq.{get_or-take}
use borrow.Rule.Slice.PartMut.{put_mid}
use Rattle.lists.proofs.PartLaws.{part_long}
use Rattle.window.specs.Windows.{row16}
use Rattle.chips.specs.Shares.{share}
use Rattle.chips.specs.Boards.{Buffers, Board, buffers_of, chip_at}
use Rattle.chips.specs.Promises.{Count, Renewed, Receivable, Received}
use Rattle.chips.proofs.PutLaws.{part_received}
use Rattle.chips.proofs.TestLaws.{some_chips, at_most_four}
use Rattle.chips.proofs.ShareLaws.{Even, even, row_end, row_low, row_high, share_in}
use Rattle.chips.proofs.ReceiveLaws.{flag_small, small_clean}
use Rattle.chips.proofs.RenewedLaws.{renewed_none, renewed_more, renewed_same}
use Rattle.chips.proofs.FitLaws.{by_four}
use Rattle.blocks.specs.Blocks.{RowsAt, Reach, BlockOf}
use Rattle.collect_row.specs.Collecting.{Ready, Collects}

-- the whole is collected evenly
pub ready_even : (k : ℕ) (whole : Buffers) (b : Board) → Ready k whole b → Even k (length whole.memory)
ready_even k whole b r = even k (length whole.memory) (some_chips k r.count) r.even

module _ (k : ℕ) (whole : Buffers) (b : Board) (r : Ready k whole b) (at size : ℕ) (few : size ≤ 16) (room : at + size ≤ length whole.memory / k) where
  abbrev n : ℕ
  n = length whole.memory

  e : Even k n
  e = ready_even k whole b r

  pub ends : k * (at + size) ≤ n
  ends = row_end k n at size e room

  -- a row has at most 64 cells
  pub small : k * (at + size) - k * at ≤ 64
  small = omega (arith, mul-le-mul_left k few, at_most_four k r.count)

  -- one list of each chip: its memory, or its marks
  module _ (lists : ℕ → List ℕ) (long : (c : ℕ) → c < 4 → length (lists c) ≡ share k c n) where
    abbrev chips : List (List ℕ)
    chips = lists 0 ∷ lists 1 ∷ lists 2 ∷ lists 3 ∷ []

    own : (c : ℕ) → c < 4 → get_or chips c [] ≡ lists c
    own = by_four (λ c. get_or chips c [] ≡ lists c) refl refl refl refl

    -- each of the k chips has the row
    pub has_row : Reach k (at + size) chips
    has_row c u =
        let v : c < 4 = omega (arith, at_most_four k r.count) in
        rw (own c v, long c v, share_in k c n u) room

    -- what `rows_at` asks for
    pub row_asks : (size ≤ 16) × Count k × Reach k (at + size) chips
    row_asks = (few, r.count, has_row)

    module _ (rows : List (List ℕ)) (block : List ℕ) (p : RowsAt k at size chips rows) (q : BlockOf k size rows block) where
      -- a cell of the block is that of its chip
      block_cell : (j : ℕ) → k * at ≤ j → j < k * (at + size) → get_or block (j - k * at) 0 ≡ get_or (lists (j % k)) (j / k) 0
      block_cell j l h =
          let c : ℕ = j % k in
          let u : c < k = e.chip j in
          let v : c < 4 = omega (arith, at_most_four k r.count) in
          let o : k * (j / k) + c ≡ j = e.joined j in
          let low : at ≤ j / k = row_low k at j e.some l in
          let high : j / k < at + size = row_high k (at + size) j e.some h in
          let i : ℕ = j / k - at in
          let s : at + i ≡ j / k = omega arith in
          let t : j - k * at ≡ k * i + c = omega (arith, ap (λ (x : ℕ). k * x) s) in
          ap (λ (x : ℕ). get_or block x 0) t ∙ q c i u (omega arith)
          ∙ p c u i (omega arith) ∙ (λ x. get_or (own c v x) (s x) 0)

  -- what `receive_row` asks of the flags, and what it leaves
  module _ (cells flags : List ℕ) (rows marked : List (List ℕ)) (b₀ : BlockOf k size rows cells) (b₁ : BlockOf k size marked flags)
      (r₀ : RowsAt k at size ((chip_at b 0).memory ∷ (chip_at b 1).memory ∷ (chip_at b 2).memory ∷ (chip_at b 3).memory ∷ []) rows)
      (r₁ : RowsAt k at size ((chip_at b 0).marks ∷ (chip_at b 1).marks ∷ (chip_at b 2).marks ∷ (chip_at b 3).marks ∷ []) marked) where
    flag_cell : (j : ℕ) → k * at ≤ j → j < k * (at + size) → get_or flags (j - k * at) 0 ≡ get_or (chip_at b (j % k)).marks (j / k) 0
    flag_cell = block_cell (λ c. (chip_at b c).marks) (λ c u. (r.shares c u).1) marked flags r₁ b₁

    byte_cell : (j : ℕ) → k * at ≤ j → j < k * (at + size) → get_or cells (j - k * at) 0 ≡ get_or (chip_at b (j % k)).memory (j / k) 0
    byte_cell = block_cell (λ c. (chip_at b c).memory) (λ c u. (r.shares c u).0) rows cells r₀ b₀

    abbrev width : ℕ
    width = k * (at + size) - k * at

    pub flags_clean : row16 (take width flags) ≡ false
    flags_clean =
        small_clean (take width flags)
        (λ i l.
        let v : i < width = omega (arith, length-take width flags) in
        let j : ℕ = k * at + i in
        let q : j - k * at ≡ i = omega arith in
        let c = flag_cell j (omega arith) (omega arith) in
        let d : get_or flags i 0 ≡ get_or (chip_at b (j % k)).marks (j / k) 0 = ap (λ (x : ℕ). get_or flags x 0) (sym q) ∙ c in
        rw (get_or-take width flags i 0 v, d)
        (flag_small (chip_at b (j % k)).marks (j / k) (r.clean (j % k) (omega (arith, e.chip j, at_most_four k r.count)))))

    pub row_collected : (new : Buffers)
        → Renewed (λ j. get_or cells (j - k * at) 0) (λ j. get_or flags (j - k * at) 0) (k * at) (k * (at + size)) whole new
        → Collects k b (k * at) (k * (at + size)) whole new
    row_collected new =
        renewed_same (λ j. get_or cells (j - k * at) 0) (λ j. get_or flags (j - k * at) 0) (λ j. get_or (chip_at b (j % k)).memory (j / k) 0)
        (λ j. get_or (chip_at b (j % k)).marks (j / k) 0) (k * at) (k * (at + size)) whole new r.long (λ j l h i. (byte_cell j l h, flag_cell j l h))

    -- blocks of 64 cells: all that `receive_row` asks for, and what it leaves in its part
    module _ (long₀ : length cells ≡ 64) (long₁ : length flags ≡ 64) where
      pub receivable : Receivable (take width (drop (k * at) whole.memory)) (take width (drop (k * at) whole.marks)) cells flags
      receivable =
          let p : length (take width (drop (k * at) whole.memory)) ≡ width = part_long whole.memory (k * at) (k * (at + size)) (omega arith) ends in
          let q : length (take width (drop (k * at) whole.marks)) ≡ width = part_long whole.marks (k * at) (k * (at + size)) (omega arith) (rw r.long ends) in
          record {
            few = omega (arith, p, small);
            cells_long = omega (arith, p, small);
            flags_long = omega (arith, p, small);
            same = q ∙ sym p;
            clean = rw p flags_clean;
          }

      pub part_collected : (m s : List ℕ)
          → Received (take width (drop (k * at) whole.memory)) cells flags m s
          → Collects k b (k * at) (k * (at + size)) whole (buffers_of (put_mid (k * at) width whole.memory m) (put_mid (k * at) width whole.marks s))
      part_collected m s x =
          row_collected _
          (part_received whole.memory whole.marks cells flags (k * at) (k * (at + size)) (omega arith) ends r.long (omega (arith, small)) (omega (arith, small)) m s x.0 x.1)

-- ---- one row behind the other

module _ (k : ℕ) (b : Board) where
  -- the lengths stay
  pub ready_after : (from to : ℕ) (old new : Buffers) → Ready k old b → Collects k b from to old new → Ready k new b
  ready_after from to old new r x = record {
    count = r.count;
    even = rw x.memory_long r.even;
    long = x.marks_long ∙ r.long ∙ sym x.memory_long;
    reach = omega (arith, x.memory_long, r.reach);
    clean = r.clean;
    shares = rw x.memory_long r.shares;
  }

  pub collects_none : (at : ℕ) (c : Buffers) → Collects k b at at c c
  collects_none at c = renewed_none (λ j. get_or (chip_at b (j % k)).memory (j / k) 0) (λ j. get_or (chip_at b (j % k)).marks (j / k) 0) at c

  pub collects_more : (from mid to : ℕ) (old now new : Buffers) → from ≤ mid → mid ≤ to → Collects k b from mid old now → Collects k b mid to now new
      → Collects k b from to old new
  collects_more from mid to old now new p q x y =
      renewed_more (λ j. get_or (chip_at b (j % k)).memory (j / k) 0) (λ j. get_or (chip_at b (j % k)).marks (j / k) 0) from mid to p q old now new x y

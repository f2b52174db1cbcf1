-- What holds of dealing and collecting: statements over the definitions that the calls' promises use. The proofs are in proofs/Facts.antt.
use Rattle.std.specs.Prelude.{◌≡◌, ℕ, ◌+◌, ◌*◌, ◌/◌, ◌%◌, ◌<◌, true, false, ◌⊎◌, ◌↔◌, length, get_or}
use Rattle.window.specs.Windows.{Window, window_of, Allowed, Marked, row16}
use Rattle.window.specs.Plans.{passes}
use Rattle.chips.specs.Shares.{share}
use Rattle.chips.specs.Boards.{Buffers, Board, buffers_of, chip_at, chip_window}
use Rattle.chips.specs.Refusals.{deal_refusal, collect_refusal}
use Rattle.chips.specs.Calls.{dealt_chip, collected_whole}

-- ---- which calls are accepted

-- two or four chips, base and length multiples of that, an allowed window, and every chip with its share of memory and marks
pub record Fits (k : ℕ) (W : Window) (b : Board) : Type 0 where
  pub count : (k ≡ 2) ⊎ (k ≡ 4)
  pub base : W.base % k ≡ 0
  pub even : length W.memory % k ≡ 0
  pub allowed : Allowed W
  pub shares : (chip : ℕ) → chip < 4
      → (length (chip_at b chip).memory ≡ share k chip (length W.memory)) × (length (chip_at b chip).marks ≡ share k chip (length W.memory))

-- exactly such calls with sending marks of 0 and 1
abbrev pub DealAccepts : Type 0
DealAccepts = (k : ℕ) (W : Window) (b : Board) → (passes (deal_refusal k W b) ≡ true) ↔ (Fits k W b × (row16 W.marks ≡ false))

abbrev pub CollectAccepts : Type 0
CollectAccepts =
    (k : ℕ) (W : Window) (b : Board)
    → (passes (collect_refusal k W b) ≡ true) ↔ (Fits k W b × ((chip : ℕ) → chip < 4 → row16 (chip_at b chip).marks ≡ false))

-- "nothing is changed then"
pub record RefusedChangesNothing : Type 0 where
  pub deal : (k : ℕ) (W : Window) (b : Board) → passes (deal_refusal k W b) ≡ false → (chip : ℕ) → dealt_chip k W b chip ≡ chip_at b chip
  pub collect : (k : ℕ) (W : Window) (b : Board) → passes (collect_refusal k W b) ≡ false → collected_whole k W b ≡ buffers_of W.memory W.marks

-- ---- cell by cell

-- a cell of receiving buffers, with the mark and the byte that were sent for it: "all marks are written and unmarked memory bytes stay"
pub record ReceivedAt (i mark byte : ℕ) (old new : Buffers) : Type 0 where
  pub marked : get_or new.marks i 0 ≡ mark
  pub stored : mark ≡ 1 → get_or new.memory i 0 ≡ byte
  pub stays : mark ≡ 0 → get_or new.memory i 0 ≡ get_or old.memory i 0

abbrev pub DealCells : Type 0
DealCells =
    (k : ℕ) (W : Window) (b : Board) → passes (deal_refusal k W b) ≡ true
    → (chip i : ℕ) → chip < k → i < length W.memory / k
    → ReceivedAt i (get_or W.marks (k * i + chip) 0) (get_or W.memory (k * i + chip) 0) (chip_at b chip) (dealt_chip k W b chip)

abbrev pub CollectCells : Type 0
CollectCells =
    (k : ℕ) (W : Window) (b : Board) → passes (collect_refusal k W b) ≡ true
    → (i : ℕ) → i < length W.memory
    → ReceivedAt i (get_or (chip_at b (i % k)).marks (i / k) 0) (get_or (chip_at b (i % k)).memory (i / k) 0) (buffers_of W.memory W.marks) (collected_whole k W b)

-- ---- cells by address

-- the board after dealing
abbrev pub dealt_board : ℕ → Window → Board → Board
dealt_board k W b = record { first = dealt_chip k W b 0; second = dealt_chip k W b 1; third = dealt_chip k W b 2; fourth = dealt_chip k W b 3 }

-- the whole after collecting
abbrev pub collected_window : ℕ → Window → Board → Window
collected_window k W b = window_of W.base (collected_whole k W b).memory (collected_whole k W b).marks

-- "the cell at address A goes to chip A modulo k, at A / k": after an accepted deal the cell at address A of the whole is marked with byte B
-- exactly when the cell at address A / k of chip A modulo k is
abbrev pub DealByAddress : Type 0
DealByAddress =
    (k : ℕ) (W : Window) (b : Board) → passes (deal_refusal k W b) ≡ true
    → (A B : ℕ) → Marked W A B ↔ Marked (chip_window k W.base (dealt_chip k W b (A % k))) (A / k) B

-- the same after an accepted collect
abbrev pub CollectByAddress : Type 0
CollectByAddress =
    (k : ℕ) (W : Window) (b : Board) → passes (collect_refusal k W b) ≡ true
    → (A B : ℕ) → Marked (collected_window k W b) A B ↔ Marked (chip_window k W.base (chip_at b (A % k))) (A / k) B

-- ---- there and back

-- two windows of one base and length
pub record SameWindow (R W : Window) : Type 0 where
  pub base : R.base ≡ W.base
  pub memory : length R.memory ≡ length W.memory
  pub marks : length R.marks ≡ length W.marks

-- "bring k chips back together; that restores every addressed cell", in any window R of the same base and length, whatever it held
abbrev pub DealtThenCollected : Type 0
DealtThenCollected =
    (k : ℕ) (R W : Window) (b : Board) → passes (deal_refusal k W b) ≡ true → SameWindow R W
    → (passes (collect_refusal k R (dealt_board k W b)) ≡ true)
    × ((A B : ℕ) → Marked (collected_window k R (dealt_board k W b)) A B ↔ Marked W A B)

-- two boards with buffers of the same lengths
abbrev pub SameLengths : Board → Board → Type 0
SameLengths b d = (chip : ℕ) → (length (chip_at b chip).memory ≡ length (chip_at d chip).memory) × (length (chip_at b chip).marks ≡ length (chip_at d chip).marks)

-- and the other way round: dealing what was collected restores every addressed cell of every chip, whatever the board b held
abbrev pub CollectedThenDealt : Type 0
CollectedThenDealt =
    (k : ℕ) (W : Window) (b d : Board) → passes (collect_refusal k W d) ≡ true → SameLengths b d
    → (passes (deal_refusal k (collected_window k W d) b) ≡ true)
    × ((chip A B : ℕ) → chip < 4
    → Marked (chip_window k W.base (dealt_chip k (collected_window k W d) b chip)) A B ↔ Marked (chip_window k W.base (chip_at d chip)) A B)

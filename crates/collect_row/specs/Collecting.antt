-- What the functions over rows and blocks promise to each other.
use Rattle.std.specs.Prelude.{◌≡◌, ℕ, ◌/◌, ◌%◌, ◌^◌, ◌≤◌, ◌<◌, false, length, get_or}
use Rattle.window.specs.Windows.{row16}
use Rattle.chips.specs.Shares.{share}
use Rattle.chips.specs.Boards.{Buffers, Board, chip_at}
use Rattle.chips.specs.Promises.{Count, Renewed}

-- what rows 21, 1 and 16 let pass, for the functions over rows
pub record Ready (k : ℕ) (whole : Buffers) (b : Board) : Type 0 where
  pub count : Count k
  pub even : length whole.memory % k ≡ 0
  pub long : length whole.marks ≡ length whole.memory
  pub reach : length whole.memory ≤ 2 ^ 32
  pub clean : (c : ℕ) → c < 4 → row16 (chip_at b c).marks ≡ false
  pub shares : (c : ℕ) → c < 4
      → (length (chip_at b c).memory ≡ share k c (length whole.memory)) × (length (chip_at b c).marks ≡ share k c (length whole.memory))

-- the whole has received its cells `from` to below `to` of the chips
abbrev pub Collects : ℕ → Board → ℕ → ℕ → Buffers → Buffers → Type 0
Collects k b from to old new =
    Renewed (λ j. get_or (chip_at b (j % k)).memory (j / k) 0) (λ j. get_or (chip_at b (j % k)).marks (j / k) 0) from to old new

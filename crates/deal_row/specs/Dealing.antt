-- What the functions over rows promise to each other.
use Rattle.std.specs.Prelude.{◌≡◌, ℕ, ◌+◌, ◌*◌, ◌%◌, ◌^◌, ◌≤◌, ◌<◌, false, List, length, get_or}
use Rattle.window.specs.Windows.{row16}
use Rattle.chips.specs.Shares.{share}
use Rattle.chips.specs.Boards.{Board, chip_at}
use Rattle.chips.specs.Promises.{Count, Renewed}

-- what rows 21, 1 and 16 let pass, for the functions over rows
pub record Ready (k : ℕ) (memory marks : List ℕ) (b : Board) : Type 0 where
  pub count : Count k
  pub even : length memory % k ≡ 0
  pub long : length marks ≡ length memory
  pub reach : length memory ≤ 2 ^ 32
  pub clean : row16 marks ≡ false
  pub shares : (c : ℕ) → c < 4 → (length (chip_at b c).memory ≡ share k c (length memory)) × (length (chip_at b c).marks ≡ share k c (length memory))

-- every chip has received its cells `from` to below `to` of a whole
abbrev pub Dealt : ℕ → List ℕ → List ℕ → ℕ → ℕ → Board → Board → Type 0
Dealt k memory marks from to b d =
    (c : ℕ) → c < 4 → Renewed (λ j. get_or memory (k * j + c) 0) (λ j. get_or marks (k * j + c) 0) from to (chip_at b c) (chip_at d c)

-- Rows of chips, and blocks of them.
use Rattle.std.specs.Prelude.{◌≡◌, ℕ, ◌+◌, ◌*◌, ◌≤◌, ◌<◌, List, [], length, get_or}
use Rattle.chips.specs.Promises.{Filled}

-- a chip's cells from `at` on, in a row of so many
abbrev pub RowAt : ℕ → ℕ → List ℕ → List ℕ → Type 0
RowAt at size cells row = Filled (λ i. get_or cells (at + i) 0) size row

-- one row a chip, of k chips
abbrev pub RowsAt : ℕ → ℕ → ℕ → List (List ℕ) → List (List ℕ) → Type 0
RowsAt k at size chips rows = (c : ℕ) → c < k → RowAt at size (get_or chips c []) (get_or rows c [])

-- each of k chips has so many cells
abbrev pub Reach : ℕ → ℕ → List (List ℕ) → Type 0
Reach k end chips = (c : ℕ) → c < k → end ≤ length (get_or chips c [])

-- the rows of k chips, cell by cell
abbrev pub BlockOf : ℕ → ℕ → List (List ℕ) → List ℕ → Type 0
BlockOf k size rows block = (c i : ℕ) → c < k → i < size → get_or block (k * i + c) 0 ≡ get_or (get_or rows c []) i 0

-- cell i of each row
abbrev pub ColumnOf : ℕ → List (List ℕ) → List ℕ → Type 0
ColumnOf i rows column = (c : ℕ) → c < 4 → get_or column c 0 ≡ get_or (get_or rows c []) i 0

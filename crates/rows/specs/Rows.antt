-- Rows of cells, one a chip.
use Rattle.std.specs.Prelude.{◌≡◌, ℕ, ◌+◌, ◌*◌, ◌/◌, ◌%◌, ◌^◌, ◌<◌, List, [], get_or}
use Rattle.chips.specs.Promises.{Filled}

-- a chip's cells among those of k chips, in a row of so many
abbrev pub RowOf : ℕ → ℕ → ℕ → List ℕ → List ℕ → Type 0
RowOf k chip size cells row = Filled (λ i. get_or cells (k * i + chip) 0) size row

-- one dealt row a chip
abbrev pub RowsOf : ℕ → ℕ → List ℕ → List (List ℕ) → Type 0
RowsOf k size cells rows = (c : ℕ) → c < k → RowOf k c size cells (get_or rows c [])

-- byte c of a number, the low one first
abbrev pub byte_of : ℕ → ℕ → ℕ
byte_of c word = word / 256 ^ c % 256

-- a number of k cells, low byte first
abbrev pub WordOf : ℕ → List ℕ → ℕ → Type 0
WordOf k cells word = (c : ℕ) → c < k → byte_of c word ≡ get_or cells c 0

-- so many numbers of k cells, low byte first
abbrev pub WordsOf : ℕ → ℕ → List ℕ → List ℕ → Type 0
WordsOf k size cells words = (c : ℕ) → c < k → (i : ℕ) → i < size → byte_of c (get_or words i 0) ≡ get_or cells (k * i + c) 0

-- one byte of each of sixteen numbers
abbrev pub Lane : ℕ → List ℕ → List ℕ → Type 0
Lane c words row = Filled (λ i. byte_of c (get_or words i 0)) 16 row

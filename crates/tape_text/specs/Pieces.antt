-- What the length of a canonical tape is made of, and which cells it can hold.
use Rattle.std.specs.Prelude.{ℕ, ◌+◌, ◌*◌, ◌-◌, ◌^◌, min}

-- the data lines and the last line; each has ;, length, address, check, CR and LF, 13 characters
unfoldable pub length_for : ℕ → ℕ → ℕ
length_for lines cells = lines * 13 + 2 * cells + 13

-- how many of so many cells, from a base on, have addresses up to FFFF
unfoldable pub low_cells : ℕ → ℕ → ℕ
low_cells base cells = min (2 ^ 16 - base) cells

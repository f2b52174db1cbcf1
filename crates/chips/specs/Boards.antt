-- The buffers of a whole and of its chips.
use Rattle.std.specs.Prelude.{ℕ, zero, suc, ◌/◌, List}
use Rattle.window.specs.Windows.{Window, window_of}
use Rattle.window.specs.Images.{Image, marks_of, overlaid, image}

-- "its own memory and marks", of a chip or of the whole
pub record Buffers : Type 0 where
  pub memory : List ℕ
  pub marks : List ℕ

abbrev pub buffers_of : List ℕ → List ℕ → Buffers
buffers_of memory marks = record { memory = memory; marks = marks }

-- "up to four chips"
pub record Board : Type 0 where
  pub first : Buffers
  pub second : Buffers
  pub third : Buffers
  pub fourth : Buffers

-- a board by its buffers, memory and marks of each chip in turn
abbrev pub board_of : List ℕ → List ℕ → List ℕ → List ℕ → List ℕ → List ℕ → List ℕ → List ℕ → Board
board_of memory₀ marks₀ memory₁ marks₁ memory₂ marks₂ memory₃ marks₃ =
    record { first = buffers_of memory₀ marks₀; second = buffers_of memory₁ marks₁; third = buffers_of memory₂ marks₂; fourth = buffers_of memory₃ marks₃ }

-- the chips by number, 0 to 3; no other number is used
abbrev pub chip_at : Board → ℕ → Buffers
chip_at b zero = b.first
chip_at b (suc zero) = b.second
chip_at b (suc (suc zero)) = b.third
chip_at b (suc (suc (suc n))) = b.fourth

-- the window of a chip of a whole at this base: "each chip has base / k"
abbrev pub chip_window : ℕ → ℕ → Buffers → Window
chip_window k base c = window_of (base / k) c.memory c.marks

-- the image that buffers show
abbrev pub image_of : Buffers → Image
image_of c = image c.memory c.marks

-- buffers after they received an image: "on the receiving side all marks are written and unmarked memory bytes stay"
abbrev pub received : Buffers → Image → Buffers
received c img = buffers_of (overlaid c.memory img) (marks_of img)

-- Which cell of a whole is which cell of a chip (Req 12): dealing interleaved cells, and collecting them.
use Rattle.std.specs.Prelude.{ℕ, zero, suc, ◌+◌, ◌*◌, ◌/◌, ◌%◌, cond, List, [], ◌∷◌, ltb, length, get_or}
use Rattle.std.proofs.Math.Option.{none}
use Rattle.window.specs.Images.{Image}

-- the list f 0, f 1, .., f (n - 1)
abbrev pub tabulate {ℓ} : {X : Type ℓ} → (ℕ → X) → ℕ → List X
tabulate f zero = []
tabulate f (suc n) = f 0 ∷ tabulate (λ i. f (suc i)) n

-- "each chip has .. length / k, and with k = 2 the third and fourth chip's buffers are empty": the share of chip number `chip`, from 0, of n cells
unfoldable pub share : ℕ → ℕ → ℕ → ℕ
share k chip n = cond (ltb chip k) (n / k) 0

-- "for k chips the cell at address A goes to chip A modulo k, at A / k". The whole begins at the address base and each chip at base / k, and base
-- is a multiple of k: so cell i of a chip, at base / k + i, is cell k i + chip of the whole, at base + k i + chip. Facts `DealByAddress`
-- says so by address
unfoldable pub chip_cells : ℕ → ℕ → Image → Image
chip_cells k chip whole = tabulate (λ i. get_or whole (k * i + chip) none) (share k chip (length whole))

-- "bring k chips back together": the n cells of the whole; cell i is cell i / k of chip i modulo k
unfoldable pub whole_cells : ℕ → ℕ → (ℕ → Image) → Image
whole_cells k n chips = tabulate (λ i. get_or (chips (i % k)) (i / k) none) n

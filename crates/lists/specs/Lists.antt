-- A list laid over another.
use Rattle.std.specs.Prelude.{ℕ, ◌+◌, List, ◌++◌, length, take, drop}

-- l with xs in place of what stands from i on
unfoldable pub over {ℓ} : {A : Type ℓ} → List A → ℕ → List A → List A
over l i xs = take i l ++ (xs ++ drop (i + length xs) l)

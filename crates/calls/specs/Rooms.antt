-- The buffers of a case.
use Rattle.std.specs.Prelude.{◌≡◌, ℕ, List, length}

-- a memory and marks of 1,024 bytes each
abbrev pub Room : List ℕ → List ℕ → Type 0
Room memory marks = (length memory ≡ 1024) × (length marks ≡ 1024)

-- Req 10's three conditions are needed: pairs of patches, for one base, that meet two of them, and for which the order matters.
use Rattle.std.specs.Prelude.{ℕ, [], ◌∷◌}
use Rattle.std.specs.Prelude.{None, Some}
use Rattle.overlay.specs.Merges.{Lent}
use Rattle.grouping.specs.Grouping.{NoSharedCell, OneHeader, OneEntry, OrderMatters}

-- the base: two cells, of which the first is marked
abbrev base_image : Lent
base_image = record { memory = 7 ∷ 8 ∷ []; marks = 1 ∷ 0 ∷ []; header = []; entry = None }

-- a patch of the second cell alone
abbrev of_cell : ℕ → Lent
of_cell b = record { memory = 0 ∷ b ∷ []; marks = 0 ∷ 1 ∷ []; header = []; entry = None }

-- a patch of the header alone
abbrev of_header : ℕ → Lent
of_header b = record { memory = 0 ∷ 0 ∷ []; marks = 0 ∷ 0 ∷ []; header = b ∷ []; entry = None }

-- a patch of the entry alone
abbrev of_entry : ℕ → Lent
of_entry a = record { memory = 0 ∷ 0 ∷ []; marks = 0 ∷ 0 ∷ []; header = []; entry = Some a }

-- a shared cell
abbrev pub SharedCell : Type 0
SharedCell = OrderMatters 0 base_image (of_cell 1) (of_cell 2) × OneHeader (of_cell 1) (of_cell 2) × OneEntry (of_cell 1) (of_cell 2)

-- two headers
abbrev pub TwoHeaders : Type 0
TwoHeaders = OrderMatters 0 base_image (of_header 1) (of_header 2) × NoSharedCell 0 (of_header 1) (of_header 2) × OneEntry (of_header 1) (of_header 2)

-- two entries
abbrev pub TwoEntries : Type 0
TwoEntries = OrderMatters 0 base_image (of_entry 1) (of_entry 2) × NoSharedCell 0 (of_entry 1) (of_entry 2) × OneHeader (of_entry 1) (of_entry 2)

-- Runs that are whole rows.
use Rattle.std.specs.Prelude.{◌≡◌, ℕ, zero, suc, ◌+◌, ◌*◌, ◌≤◌, List, drop}
use Rattle.window.specs.Walks.{run_on}
use Rattle.formats.specs.declared.Format.{Format}
use Rattle.formats.specs.declared.Format.TheVariants.{Records}
use Rattle.formats.specs.Choices.{follow_of}

-- the run at `at` is the data of a record, and has sixteen cells, within the window: what `run_end` would answer
abbrev pub IsRow : Format → ℕ → List ℕ → ℕ → ℕ → Type 0
IsRow format base flags cells at =
    (at + 16 ≤ cells) × (at + 16 ≡ at + run_on (suc (follow_of format (base + at))) (drop at flags)) × (format ≡ Records)

-- n whole rows stand one after the other from `at` on
abbrev pub AreRows : Format → ℕ → List ℕ → ℕ → ℕ → ℕ → Type 0
AreRows format base flags cells at zero = at ≤ cells
AreRows format base flags cells at (suc n) = AreRows format base flags cells at n × IsRow format base flags cells (at + 16 * n)

-- so many that they end at `to`
abbrev pub RowsTo : Format → ℕ → List ℕ → ℕ → ℕ → ℕ → Type 0
RowsTo format base flags cells at to = (n : ℕ) × (to ≡ at + 16 * n) × AreRows format base flags cells at n

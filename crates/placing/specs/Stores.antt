-- What the storing pass leaves in memory.
use Rattle.std.specs.Prelude.{◌≡◌, ℕ, ◌-◌, false, List, length}
use Rattle.lists.specs.Lists.{over}
use Rattle.window.specs.Plans.{row12}
use Rattle.text.specs.Scan.{Step}
use Rattle.text.specs.Scan.Step.{refuse, skip, title, put, finish}

-- memory after one line, by what it carries
abbrev pub stored_by : ℕ → List ℕ → Step → List ℕ
stored_by base m (refuse f) = m
stored_by base m skip = m
stored_by base m (title h) = m
stored_by base m (put a ds) = over m (a - base) ds
stored_by base m (finish e) = m

-- a line that was read and has no data outside the window
abbrev pub Placeable : ℕ → ℕ → Step → Type 0
Placeable base size (refuse f) = ⊥
Placeable base size skip = Unit {0}
Placeable base size (title h) = Unit {0}
Placeable base size (put a ds) = row12 base size a (length ds) ≡ false
Placeable base size (finish e) = Unit {0}

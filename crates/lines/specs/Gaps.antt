-- What stands between most lines.
use Rattle.std.specs.Prelude.{◌≡◌, ℕ, ◌≤◌, ◌<◌, List, length, get_or}
use Rattle.lists.specs.Characters.{char}
use Rattle.tape.specs.Lines.{xoff}

-- LF, and a character after it that is above all separators
abbrev pub LoneEnd : List ℕ → Type 0
LoneEnd text = (2 ≤ length text) × (get_or text 0 0 ≡ char "\n") × (xoff < get_or text 1 0)

-- Where the rest of a text begins, whose symbol block this is.
use Rattle.std.specs.Prelude.{ℕ, List, length, Result, Ok, Err}
use Rattle.window.specs.declared.Refusal.{Refusal}
use Rattle.symbols.specs.declared.Table.{Table}
use Rattle.symbols.specs.Blocks.{rest_at}

-- right behind the bare `$$`; the text's length, if the block is refused
abbrev pub behind : List ℕ → Result Table Refusal → ℕ
behind text (Err f) = length text
behind text (Ok t) = rest_at t.to

-- A load behind a symbol block (Req 13): row 1, the block's rows, then "the rest loads as a text of its own".
use Rattle.std.specs.Prelude.{ℕ, cond, List, drop, Result, Ok, Err}
use Rattle.window.specs.Windows.{Window, row1}
use Rattle.window.specs.Plans.{refusal, Outcome}
use Rattle.window.specs.Plans.Outcome.{refused}
use Rattle.text.specs.Formats.{plan}
use Rattle.text.specs.Load.{load}
use Rattle.srec.specs.Formats.{srec}
use Rattle.window.specs.declared.Refusal.{Refusal}
use Rattle.symbols.specs.declared.Table.{Table}
use Rattle.symbols.specs.Blocks.{block_of, rest_at}

-- row 1 first, if it applies; otherwise the outcome o
abbrev pub row1_or : Window → Outcome → Outcome
row1_or W o = cond (row1 W) (refused (refusal 1 0 0)) o

-- a block's refusal, or the load of what stands behind it, "numbers and places from right after that bare `$$`"
abbrev pub rest_of : Window → List ℕ → Result Table Refusal → Outcome
rest_of W text (Err f) = refused f
rest_of W text (Ok table) = load W (plan srec (drop (rest_at table.to) text))

-- "a load that first reads one symbol block, which must be there"
unfoldable pub load_behind : Window → List ℕ → Outcome
load_behind W text = row1_or W (rest_of W text (block_of text))

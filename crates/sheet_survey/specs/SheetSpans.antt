-- The span of the cells that a patch sheet addresses.
use Rattle.std.specs.Prelude.{ℕ, List, Result, Ok, Err}
use Rattle.window.specs.declared.Refusal.{Refusal}
use Rattle.symbol_table.specs.Symbols.{symbols_in}
use Rattle.symbols.specs.declared.Table.{Table}
use Rattle.symbols.specs.Blocks.{stretch, block_of}
use Rattle.sheets.specs.Sheets.{sheet_plan}
use Rattle.spans.specs.declared.Span.{Span}
use Rattle.spans.specs.Spans.{no_span, span_of}

-- with the symbols of a block of the text; a bad block has no cells
abbrev pub span_behind : List ℕ → List ℕ → Result Table Refusal → Span
span_behind text sheet (Err f) = no_span
span_behind text sheet (Ok t) = span_of (sheet_plan (symbols_in (stretch text t.from t.to)) sheet)

-- with the symbols of the text's own block
unfoldable pub sheet_span : List ℕ → List ℕ → Span
sheet_span text sheet = span_behind text sheet (block_of text)

-- The theorem about sheets: "the sheet becomes a patch image", which is what its pairs say (Req 13). proofs/Facts.antt proves it.
use Rattle.std.specs.Prelude.{◌≡◌, ◌↔◌, ℕ, List, [], ◌∷◌, length, Result, Ok, Err}
use Rattle.std.specs.Result.{result_unwrap_or}
use Rattle.std.specs.Prelude.{None}
use Rattle.window.specs.declared.Loaded.{Loaded}
use Rattle.window.specs.declared.Refusal.{Refusal}
use Rattle.window.specs.Windows.{Window, window_of, Marked}
use Rattle.window.specs.Images.{Image}
use Rattle.window.specs.Cells.{Run, Addressed, total}
use Rattle.window.specs.Plans.{Summary}
use Rattle.window.specs.Plans.Outcome.{accepted}
use Rattle.text.specs.Load.{load_answer, memory_after, marks_after}
use Rattle.text.specs.Terms.{header_bytes}
use Rattle.symbol_table.specs.Symbols.{Symbol, symbols_in}
use Rattle.symbols.specs.declared.Table.{Table}
use Rattle.symbols.specs.Blocks.{stretch, block_of}
use Rattle.operands.specs.Values.{worth_of}
use Rattle.sheet_fields.specs.Fields.{Field, fields}
use Rattle.sheets.specs.Sheets.{sheet_outcome}

-- what pairs of fields say: the value of each address, and the bytes for it; of an accepted sheet every field has its pair, and every
-- address a value
abbrev pub said : List Symbol → List Field → List Run
said S [] = []
said S (f ∷ []) = []
said S (f ∷ g ∷ fs) = record { addr = result_unwrap_or (worth_of S f.bytes) 0; bytes = g.bytes } ∷ said S fs

-- the symbols of a block
abbrev pub symbols_of : List ℕ → Result Table Refusal → List Symbol
symbols_of text (Err f) = []
symbols_of text (Ok t) = symbols_in (stretch text t.from t.to)

-- what a sheet says with the symbols of a text
abbrev pub sheet_data : List ℕ → List ℕ → List Run
sheet_data text sheet = said (symbols_of text (block_of text)) (fields sheet)

-- the answer of the load of a sheet
abbrev pub sheet_loaded : Window → List ℕ → List ℕ → Loaded
sheet_loaded W text sheet = load_answer (sheet_outcome W text sheet)

-- the window after it
abbrev pub sheet_after : Window → List ℕ → List ℕ → Window
sheet_after W text sheet = window_of W.base (memory_after W.memory (sheet_outcome W text sheet)) (marks_after W.marks (sheet_outcome W text sheet))

-- the cells that the pairs say and no others; "header empty, entry absent", "each pair one data record", and the number of their bytes
pub record SheetLoads (W : Window) (text sheet : List ℕ) : Type 0 where
  pub cells : (A B : ℕ) → Marked (sheet_after W text sheet) A B ↔ Addressed A B (sheet_data text sheet)
  pub header : header_bytes (sheet_loaded W text sheet) ≡ []
  pub entry : (sheet_loaded W text sheet).entry ≡ None
  pub records : (sheet_loaded W text sheet).records ≡ length (sheet_data text sheet)
  pub counted : (sheet_loaded W text sheet).cells ≡ total (sheet_data text sheet)

-- the same of every accepted sheet
abbrev pub SheetIsLoaded : Type 0
SheetIsLoaded = (W : Window) (text sheet : List ℕ) (s : Summary) (img : Image) → sheet_outcome W text sheet ≡ accepted s img → SheetLoads W text sheet

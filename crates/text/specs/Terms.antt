-- The words of demand 3, read off the lines of a text and not off a load (01, "The canonical text", last paragraph).
use Rattle.std.specs.Prelude.{◌≡◌, ℕ, false, List, [], ◌∷◌, ◌↔◌, take}
use Rattle.window.specs.Entries.{Entry}
use Rattle.std.specs.Prelude.{None}
use Rattle.window.specs.Windows.{Window, Holds}
use Rattle.window.specs.Cells.{Run, Addressed}
use Rattle.window.specs.declared.Loaded.{Loaded}
use Rattle.text.specs.Lines.{Line, lines}
use Rattle.text.specs.Scan.{Step}
use Rattle.text.specs.Scan.Step.{refuse, skip, title, put, finish}
use Rattle.text.specs.Formats.{Format, plan}
use Rattle.text.specs.Load.{load, load_answer, memory_after, marks_after}
use Rattle.text.specs.Write.{WriteOutcome, write, text_of, row17}

-- ---- what lines carry, each by itself

-- a data line joins those behind it
abbrev pub data_of : Step → List Run → List Run
data_of (refuse f) rs = rs
data_of skip rs = rs
data_of (title h) rs = rs
data_of (put a ds) rs = record { addr = a; bytes = ds } ∷ rs
data_of (finish e) rs = rs

-- the data lines among these
abbrev pub data_records : (List ℕ → Step) → List Line → List Run
data_records part [] = []
data_records part (l ∷ ls) = data_of (part l.chars) (data_records part ls)

-- 01's "the header is the data bytes of its S0, none without one"
abbrev pub header_in : Step → List ℕ → List ℕ
header_in (refuse f) h = h
header_in skip h = h
header_in (title ds) h = ds
header_in (put a ds) h = h
header_in (finish e) h = h

-- the header among these
abbrev pub header_among : (List ℕ → Step) → List Line → List ℕ
header_among part [] = []
header_among part (l ∷ ls) = header_in (part l.chars) (header_among part ls)

-- 01's "the entry is the address of its terminator"
abbrev pub entry_in : Step → Entry → Entry
entry_in (refuse f) e = e
entry_in skip e = e
entry_in (title ds) e = e
entry_in (put a ds) e = e
entry_in (finish a) e = a

-- the entry among these
abbrev pub entry_among : (List ℕ → Step) → List Line → Entry
entry_among part [] = None
entry_among part (l ∷ ls) = entry_in (part l.chars) (entry_among part ls)

-- ---- what a text carries

-- the data lines of a text
abbrev pub text_data : Format → List ℕ → List Run
text_data F text = data_records F.part (lines F.gap 0 text)

-- the header of a text
abbrev pub text_header : Format → List ℕ → List ℕ
text_header F text = header_among F.part (lines F.gap 0 text)

-- the entry of a text
abbrev pub text_entry : Format → List ℕ → Entry
text_entry F text = entry_among F.part (lines F.gap 0 text)

-- 01's "A is an addressed cell of an accepted or written text, with byte B"
abbrev pub CellOf : Format → List ℕ → ℕ → ℕ → Type 0
CellOf F text A B = Addressed A B (text_data F text)

-- the same addressed cells with the same bytes
abbrev pub SameCells : Format → List ℕ → List ℕ → Type 0
SameCells F t₁ t₂ = (A B : ℕ) → CellOf F t₁ A B ↔ CellOf F t₂ A B

-- the same addressed cells with the same bytes, the same header and the same entry
abbrev pub SameContent : Format → List ℕ → List ℕ → Type 0
SameContent F t₁ t₂ = SameCells F t₁ t₂ × (text_header F t₁ ≡ text_header F t₂) × (text_entry F t₁ ≡ text_entry F t₂)

-- a window holds every addressed cell of a text
abbrev pub HoldsCells : Format → Window → List ℕ → Type 0
HoldsCells F W text = (A B : ℕ) → CellOf F text A B → Holds W A

-- ---- a load, and a write of what it left

-- the answer of a load
abbrev pub loaded : Format → Window → List ℕ → Loaded
loaded F W text = load_answer (load W (plan F text))

-- a load is accepted: no row refuses it (a refused load of a lawful format has a reason from 1 on)
abbrev pub Accepted : Format → Window → List ℕ → Type 0
Accepted F W text = (loaded F W text).refusal.reason ≡ 0

-- the window after the load
abbrev pub after : Format → Window → List ℕ → Window
after F W text =
    record {
      base = W.base;
      memory = memory_after W.memory (load W (plan F text));
      marks = marks_after W.marks (load W (plan F text));
    }

-- 01's "the returned header's bytes up to its length"
abbrev pub header_bytes : Loaded → List ℕ
header_bytes l = take l.header.len l.header.bytes

-- 01's "the writer is given the base, memory and marks of the window after the load, the returned header's bytes up to its
-- length, and the returned entry"
abbrev pub written_after : Format → Window → List ℕ → ℕ → WriteOutcome
written_after F W text room = write F (after F W text) (header_bytes (loaded F W text)) (loaded F W text).entry room

-- 01's "room is enough when row 17 does not apply"
abbrev pub Enough : Format → Window → List ℕ → ℕ → Type 0
Enough F W text room = row17 (text_of F (after F W text) (header_bytes (loaded F W text)) (loaded F W text).entry) room ≡ false

-- What a tally shows of the records read so far, and what a line that was taken leaves.
use Rattle.std.specs.Prelude.{◌≡◌, ℕ, cond, List, take, Result, Ok, Err}
use Rattle.std.proofs.Math.Option.{Option, none, some}
use Rattle.window.specs.Entries.{Entry}
use Rattle.window.specs.declared.Refusal.{Refusal}
use Rattle.marks.specs.declared.Form.{Form}
use Rattle.marks.specs.Forms.{Tidy}
use Rattle.text.specs.Scan.{State as ScanState}
use Rattle.text.specs.Steps.{state_with}
use Rattle.srec.specs.Reading.{Read}
use Rattle.srec.specs.Reading.Read.{good, bad}
use Rattle.parts.specs.Parts.{Known, Turn as PartsTurn}
use Rattle.parts.specs.Parts.Turn.{halt, next}
use Rattle.tally.specs.declared.Tally.{Tally}

-- the state that a tally and the header's bytes show
abbrev pub state_of : Tally → List ℕ → ScanState
state_of t header = state_with (take t.head header) t.state

-- the entry, once a terminator was read
abbrev pub entry_of : Tally → Option Entry
entry_of t = cond t.ended (some t.entry) none

-- the records that they show
abbrev pub known_of : Tally → List ℕ → Known
known_of t header = record { state = state_of t header; entry = entry_of t }

-- what a line left, against the turn that the definitions take, with flags for marks; a refusal leaves memory as it was, and marks and
-- header free
abbrev pub Took : PartsTurn → Result Tally Refusal → List ℕ → List ℕ → List ℕ → List ℕ → Type 0
Took t (Err f) header memory marks memory₀ = (t ≡ halt f) × (memory ≡ memory₀)
Took t (Ok y) header memory marks memory₀ = t ≡ next (known_of y header) memory marks

-- the marks of n cells behind it have no spare bit set; a refusal leaves them free
abbrev pub TidyTurn : Form → ℕ → Result Tally Refusal → List ℕ → Type 0
TidyTurn form n (Err f) marks = Unit {0}
TidyTurn form n (Ok y) marks = Tidy form n marks

-- a record that was read
abbrev pub IsGood : Read → Type 0
IsGood (good k a ds) = Unit {0}
IsGood (bad f) = ⊥

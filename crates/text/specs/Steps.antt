-- The state and the step of a walk as the numbers that code keeps. The header is read once, at the end, and is not among them.
use Rattle.std.specs.Prelude.{◌≡◌, ℕ, ◌+◌, ◌^◌, ◌≤◌, ◌<◌, List, [], ◌∷◌, length, Option, Some, None}
use Rattle.text.specs.Lines.{Line as TextLine, front}
use Rattle.text.specs.Scan.{State as ScanState, Step as ScanStep, more, more_data}
use Rattle.text.specs.Scan.Step.{refuse, skip, title, put, finish}
use Rattle.text.specs.declared.State.{State}
use Rattle.text.specs.declared.Step.{Step}
use Rattle.text.specs.declared.Step.TheVariants.{Refuse, Pass, Put, Finish}
use Rattle.text.specs.declared.Taken.{Taken}
use Rattle.text.specs.Formats.{Format}

-- the numbers of a state
abbrev pub numbers : ScanState → State
numbers s = record { number = s.number; records = s.records; cells = s.cells }

-- the state of these numbers and a header
abbrev pub state_with : List ℕ → State → ScanState
state_with h n = record { number = n.number; header = h; records = n.records; cells = n.cells }

-- the numbers of a state can grow by so many
abbrev pub CanCount : State → ℕ → Type 0
CanCount n more = (n.number + more < 2 ^ 64) × (n.records + more < 2 ^ 64) × (n.cells + more < 2 ^ 64)

-- the numbers of a state are not above a place
abbrev pub CountedUpTo : State → ℕ → Type 0
CountedUpTo n at = (n.number ≤ at) × (n.records ≤ at) × (n.cells ≤ at)

-- what a step of the line at a place comes to in numbers, behind a state
abbrev pub as_step : ℕ → ScanState → ScanStep → Step
as_step place s (refuse f) = Refuse f.reason (place + f.offset) f.want
as_step place s skip = Pass (numbers (more s s.header))
as_step place s (title h) = Pass (numbers (more s h))
as_step place s (put a ds) = Put (numbers (more_data s (length ds))) a (length ds)
as_step place s (finish e) = Finish (numbers (more s s.header)) e

-- an answer is the step of the line at a place, which has a character, and no separator inside; of no answer nothing is said
abbrev pub SureIs : Format → State → ℕ → List ℕ → Option Step → Type 0
SureIs F n place chars (Some step) =
    (step ≡ as_step place (state_with [] n) (F.step (state_with [] n) chars)) × (0 < length chars) × (front F.gap chars ≡ chars)
SureIs F n place chars None = Unit {0}

-- the first of some lines of a format, behind a state: from its place to behind its last character, and its step
abbrev pub taken : Format → State → List TextLine → Option Taken
taken F n [] = None
taken F n (l ∷ ls) =
    let step = as_step l.place (state_with [] n) (F.step (state_with [] n) l.chars) in
    Some (record { from = l.place; to = l.place + length l.chars; step = step })

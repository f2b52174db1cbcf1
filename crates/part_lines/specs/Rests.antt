-- What the lines of a part come to, between the functions that take them.
use Rattle.std.specs.Prelude.{◌≡◌, ℕ, ◌+◌, ◌^◌, ◌≤◌, ◌<◌, List, length, drop, Result, Ok, Err}
use Rattle.marks.specs.declared.Form.{Form}
use Rattle.marks.specs.Forms.{Tidy}
use Rattle.text.specs.Lines.{front}
use Rattle.text.specs.declared.State.{State}
use Rattle.srec.specs.Lines.{is_end}
use Rattle.parts.specs.Parts.{Stage, stage, stopped}
use Rattle.parts.specs.Parts.Status.{going}
use Rattle.parts.specs.Stretches.{fresh, kept_all}
use Rattle.window.specs.declared.Refusal.{Refusal}
use Rattle.tally.specs.Tallies.{known_of}
use Rattle.part_lines.specs.declared.Rest.{Rest}

-- numbers of at most so many characters, that with `room` more can be counted
abbrev pub Few : State → ℕ → ℕ → Type 0
Few n total room = (n.number ≤ total) × (n.records ≤ total) × (n.cells ≤ total) × (total + room < 2 ^ 33)

-- the stage behind the lines of a part whose ends stand in it, and the characters behind them; `total` characters arrived before the part
abbrev pub behind : ℕ → ℕ → List ℕ → List ℕ → Result Rest Refusal → List ℕ → List ℕ → Stage
behind size total header part (Err f) memory marks = stopped f memory marks
behind size total header part (Ok r) memory marks =
    stage (going (kept_all (fresh size (total + r.from) (known_of r.tally header)) (drop r.from part))) memory marks

-- a refusal has a reason, and the characters behind the last line end stand in the part
abbrev pub RestIn : List ℕ → Result Rest Refusal → Type 0
RestIn part (Err f) = 0 < f.reason
RestIn part (Ok r) = (r.from ≤ length part) × (front is_end (drop r.from part) ≡ drop r.from part)

-- the marks of n cells behind the lines have no spare bit set; a refusal leaves them free
abbrev pub TidyRest : Form → ℕ → Result Rest Refusal → List ℕ → Type 0
TidyRest form n (Err f) marks = Unit {0}
TidyRest form n (Ok r) marks = Tidy form n marks

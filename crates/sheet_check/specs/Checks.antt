-- What the checking pass over a sheet answers.
use Rattle.std.specs.Prelude.{◌≡◌, ℕ, List, Result, Ok, Err}
use Rattle.window.specs.declared.Refusal.{Refusal}
use Rattle.window.specs.Images.{marks_of}
use Rattle.window.specs.Plans.{Outcome}
use Rattle.window.specs.Plans.Outcome.{refused, accepted}
use Rattle.sheets.specs.Sheets.{summary}
use Rattle.sheet_check.specs.declared.Accepted.{Accepted}

-- what the checking pass answers of an outcome, and the marks that it leaves of an accepted one, whose header is empty and
-- whose entry is absent
abbrev pub Told : Outcome → Result Accepted Refusal → List ℕ → Type 0
Told (refused f) c marks = c ≡ Err f
Told (accepted s img) c marks =
    (c ≡ Ok (record { records = s.records; cells = s.cells })) × (s ≡ summary s.records s.cells) × (marks ≡ marks_of img)

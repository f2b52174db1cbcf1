-- A text loaded and written again: what is answered, and the output afterwards.
use Rattle.std.specs.Prelude.{ℕ, List, length, Result, Ok, Err}
use Rattle.window.specs.Windows.{Window}
use Rattle.window.specs.Plans.{Outcome}
use Rattle.window.specs.Plans.Outcome.{refused, accepted}
use Rattle.text.specs.Load.{load}
use Rattle.text.specs.Write.{WriteOutcome, output_after}
use Rattle.text.specs.Write.WriteOutcome.{declined, wrote}
use Rattle.text.specs.Terms.{written_after}
use Rattle.text.specs.Formats.{Format, plan}
use Rattle.window.specs.declared.Refusal.{Refusal}

-- the load's refusal, or the write's, or the text's length
abbrev pub converted_by : Outcome → WriteOutcome → Result ℕ Refusal
converted_by (refused f) w = Err f
converted_by (accepted s img) (declined f) = Err f
converted_by (accepted s img) (wrote text) = Ok (length text)

-- nothing is written behind a refused load
abbrev pub output_by : List ℕ → Outcome → WriteOutcome → List ℕ
output_by out (refused f) w = out
output_by out (accepted s img) w = output_after out w

-- for a window and a text of a format, with room for so many characters
abbrev pub converted : Format → Window → List ℕ → ℕ → Result ℕ Refusal
converted F W text room = converted_by (load W (plan F text)) (written_after F W text room)

-- the output after that
abbrev pub output_of : Format → List ℕ → Window → List ℕ → List ℕ
output_of F out W text = output_by out (load W (plan F text)) (written_after F W text (length out))

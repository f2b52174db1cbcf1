-- The next line of a part whose end stands in it.
use Rattle.std.specs.Prelude.{ℕ, ◌+◌, ◌-◌, ◌^◌, ◌<◌, cond, List, [], ltb, length, take, drop, Option, Some, None}
use Rattle.text.specs.Lines.{front}
use Rattle.text.specs.Finds.{leading}
use Rattle.text.specs.declared.State.{State}
use Rattle.text.specs.declared.Taken.{Taken}
use Rattle.text.specs.Steps.{state_with, as_step, CanCount}
use Rattle.srec.specs.Lines.{is_end}
use Rattle.srec.specs.Formats.{srec}

-- where the characters from a place on begin, behind line ends
abbrev pub begin_of : List ℕ → ℕ → ℕ
begin_of part at = at + leading is_end (drop at part)

-- where they end, before a line end or with the part
abbrev pub end_of : List ℕ → ℕ → ℕ
end_of part from = from + length (front is_end (drop from part))

-- the step of the characters from one place up to another, behind a state; `total` characters arrived before the part
abbrev pub step_in : ℕ → State → List ℕ → ℕ → ℕ → Option Taken
step_in total n part from to =
    let step = as_step (total + from) (state_with [] n) (srec.step (state_with [] n) (take (to - from) (drop from part))) in
    Some (record { from = from; to = to; step = step })

-- the line from one place up to another, if its end stands in the part
abbrev pub line_in : ℕ → State → List ℕ → ℕ → ℕ → Option Taken
line_in total n part from to = cond (ltb to (length part)) (step_in total n part from to) None

-- the next one from a place on
abbrev pub next_in : ℕ → State → List ℕ → ℕ → Option Taken
next_in total n part at = line_in total n part (begin_of part at) (end_of part (begin_of part at))

-- a place and numbers with room for so many characters more
abbrev pub Roomy : ℕ → State → ℕ → Type 0
Roomy place n size = (place + size < 2 ^ 64) × CanCount n size

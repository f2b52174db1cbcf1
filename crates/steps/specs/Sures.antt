-- What a fast way answers that takes a line only where it is sure.
use Rattle.std.specs.Prelude.{◌≡◌, Option, Some, None}
use Rattle.text.specs.declared.Taken.{Taken}

-- a line is the one that is to be taken; of no line nothing is said
abbrev pub SureTaken : Option Taken → Option Taken → Type 0
SureTaken (Some taken) real = Some taken ≡ real
SureTaken None real = Unit {0}

-- What a claim answers, as the number of a row.
use Rattle.std.specs.Prelude.{ℕ, Result, Ok, Err}
use Rattle.claims.specs.declared.Clash.{Clash}
use Rattle.claims.specs.declared.Clash.TheVariants.{Outside, Marked}

-- the row that a clash stands for
abbrev pub row_of : Clash → ℕ
row_of Outside = 12
row_of Marked = 13

-- the row that an answer stands for; 0 for none
abbrev pub row_or0 : Result (Unit {0}) Clash → ℕ
row_or0 (Ok u) = 0
row_or0 (Err clash) = row_of clash

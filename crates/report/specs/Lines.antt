-- The line that is printed for a refused text.
use Rattle.std.specs.Prelude.{ℕ, List, [], ◌∷◌, ◌++◌, codes, decimal, if◌then◌else◌, ◌==◌}
use Rattle.hex_digits.specs.Digits.{digits_of}
use Rattle.window.specs.declared.Refusal.{Refusal}

-- for a checksum that differs, the one that would have been right
abbrev pub wanted : Refusal → List ℕ
wanted r = if r.reason == 7 then codes " want " ++ digits_of (r.want ∷ []) else []

-- why, in which record and at which place
abbrev pub refusal_line : Refusal → List ℕ
refusal_line r =
    codes "refused " ++ decimal r.reason ++ codes " record " ++ decimal r.ordinal ++ codes " at " ++ decimal r.place
    ++ wanted r ++ codes "\n"

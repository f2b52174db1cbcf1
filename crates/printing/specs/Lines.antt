-- What is printed of bytes and of a refusal.
use Rattle.std.specs.Prelude.{ℕ, List, [], ◌∷◌, ◌++◌, take, codes, decimal}
use Rattle.hex_digits.specs.Digits.{digits_of}
use Rattle.window.specs.declared.Refusal.{Refusal}

-- the first of some bytes, no more than a line can have, in capital digits
abbrev pub pairs : List ℕ → List ℕ
pairs bytes = digits_of (take 1024 bytes)

-- a word, and bytes behind it, on a line
abbrev pub bytes_line : List ℕ → List ℕ → List ℕ
bytes_line word bytes = word ++ pairs bytes ++ codes "\n"

-- every number of a refusal
abbrev pub refusal_text : Refusal → List ℕ
refusal_text r =
    decimal r.reason ++ codes " record " ++ decimal r.ordinal ++ codes " at " ++ decimal r.place ++ codes " want "
    ++ digits_of (r.want ∷ [])

-- A text cut into parts of equal length.
use Rattle.std.specs.Prelude.{ℕ, zero, suc, max, List, [], ◌∷◌, length, take, drop}

-- at most so many parts of n characters each; the last may be shorter
abbrev pub parts_up_to : ℕ → ℕ → List ℕ → List (List ℕ)
parts_up_to zero n text = []
parts_up_to (suc k) n [] = []
parts_up_to (suc k) n (c ∷ cs) = take n (c ∷ cs) ∷ parts_up_to k n (drop n (c ∷ cs))

-- parts of n characters each, and of one where n is 0
abbrev pub parts_of : ℕ → List ℕ → List (List ℕ)
parts_of n text = parts_up_to (length text) (max n 1) text

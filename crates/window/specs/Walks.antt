-- A window's marks as a writer walks over them, from one run to the next.
use Rattle.std.specs.Prelude.{ℕ, zero, suc, ◌-◌, cond, List, [], ◌∷◌, ltb}

-- how many cells without a mark come first
abbrev pub unmarked : List ℕ → ℕ
unmarked [] = 0
unmarked (zero ∷ ms) = suc (unmarked ms)
unmarked (suc m ∷ ms) = 0

-- how many marked cells come first, n at most
abbrev pub run_on : ℕ → List ℕ → ℕ
run_on n [] = 0
run_on n (zero ∷ ms) = 0
run_on n (suc m ∷ ms) = let r = suc (run_on (n - 1) ms) in cond (ltb 0 n) r 0

-- how many marked cells come first
abbrev pub run : List ℕ → ℕ
run [] = 0
run (zero ∷ ms) = 0
run (suc m ∷ ms) = suc (run ms)

-- Names and numbers as they stand in a text (Req 13).
use Rattle.std.specs.Prelude.{◌≡◌, ℕ, ◌+◌, ◌*◌, Bool, true, false, cond, ◌||◌, List, [], ◌∷◌, ltb, eqb, length, take, get_or, drop}
use Rattle.lists.specs.Characters.{char}
use Rattle.hex_digits.specs.Digits.{between, is_hex, value}
use Rattle.text.specs.Finds.{leading}

-- "letters", of either case
unfoldable pub is_letter : ℕ → Bool
is_letter c = between (char "A") (char "Z") c || between (char "a") (char "z") c

-- "letters and digits", decimal ones
unfoldable pub is_alnum : ℕ → Bool
is_alnum c = between (char "0") (char "9") c || is_letter c

-- what ends a line: CR or LF
unfoldable pub is_break : ℕ → Bool
is_break c = eqb c 13 || eqb c 10

-- what stands between the parts of a symbol block: a space, or where its lines end
unfoldable pub is_blank : ℕ → Bool
is_blank c = eqb c (char " ") || (eqb c 13 || eqb c 10)

-- what a test answers at each character is what p says
abbrev pub Tells : (ℕ → Bool) → (ℕ → Bool → Type 0) → Type 0
Tells p answers = (c : ℕ) (b : Bool) → answers c b → b ≡ p c

-- how many characters of a class a text begins with
unfoldable pub counted : (ℕ → Bool) → List ℕ → ℕ
counted is_in chars = leading is_in chars

-- all characters are of a class
unfoldable pub all_of : (ℕ → Bool) → List ℕ → Bool
all_of is_in chars = eqb (counted is_in chars) (length chars)

-- the number n followed by these digits
abbrev pub digits_after : ℕ → List ℕ → ℕ
digits_after n [] = n
digits_after n (c ∷ cs) = digits_after (n * 16 + value c) cs

-- the number that digits stand for; those behind the eighth are left out, and `is_number` allows none
unfoldable pub number_in : List ℕ → ℕ
number_in chars = digits_after 0 (take 8 chars)

-- "names of 1 to 16 letters and digits starting with a letter"
unfoldable pub is_name : List ℕ → Bool
is_name chars =
    cond (eqb (length chars) 0) false
    (cond (ltb 16 (length chars)) false (cond (is_letter (get_or chars 0 0)) (all_of is_alnum chars) false))

-- "`$` and 1 to 8 hex digits"
unfoldable pub is_number : List ℕ → Bool
is_number chars =
    cond (ltb (length chars) 2) false
    (cond (ltb 9 (length chars)) false (cond (eqb (get_or chars 0 0) (char "$")) (all_of is_hex (drop 1 chars)) false))

-- the same characters, "case counting"
abbrev pub same : List ℕ → List ℕ → Bool
same [] [] = true
same [] (d ∷ ds) = false
same (c ∷ cs) [] = false
same (c ∷ cs) (d ∷ ds) = let r = same cs ds in cond (eqb c d) r false

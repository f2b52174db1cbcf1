-- What a table of digits holds, and what its entries add up to.
use Rattle.std.specs.Prelude.{ℕ, zero, suc, ◌+◌, ◌*◌, ◌/◌, ◌%◌, cond, List, [], ◌∷◌}
use Rattle.hex_digits.specs.Digits.{is_hex, value, digit}

-- the value of a digit, 16 for a character that is none
unfoldable pub digit_or16 : ℕ → ℕ
digit_or16 c = cond (is_hex c) (value c) 16

-- f at i, i + 1, ..: n entries
abbrev pub table_from : (ℕ → ℕ) → ℕ → ℕ → List ℕ
table_from f i zero = []
table_from f i (suc n) = f i ∷ table_from f (suc i) n

-- the entry of a character: the value of a digit, 131072 for a character that is none
unfoldable pub weight : ℕ → ℕ
weight c = cond (is_hex c) (value c) 131072

-- one entry for each character
unfoldable pub digit_table : List ℕ
digit_table = table_from weight 0 256

-- the entries of pairs of characters, added up, 16 times that of the first; a last character without a partner is left out
abbrev pub weighed : List ℕ → ℕ
weighed [] = 0
weighed (c ∷ []) = 0
weighed (c ∷ d ∷ cs) = 16 * weight c + weight d + weighed cs

-- both digits of a byte as one number, the first in its low byte
unfoldable pub pair_of : ℕ → ℕ
pair_of b = digit (b / 16) + 256 * digit (b % 16)

-- one entry for each byte
unfoldable pub pair_table : List ℕ
pair_table = table_from pair_of 0 256

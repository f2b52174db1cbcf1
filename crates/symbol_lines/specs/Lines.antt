-- One line of a symbol block (Req 13), and row 22 of a line of pairs; the block's other rows are in symbols `Blocks`.
use Rattle.std.specs.Prelude.{ℕ, zero, suc, ◌-◌, ◌/◌, Bool, true, false, cond, not, List, [], ◌∷◌, length, get_or, Option, Some, None}
use Rattle.lists.specs.Characters.{char}
use Rattle.text.specs.Lines.{Line, lines}
use Rattle.words.specs.Words.{is_blank, is_name, is_number, same}

-- "one or more spaces between parts and nowhere else": none at either end
unfoldable pub tight : List ℕ → Bool
tight chars = cond (is_blank (get_or chars 0 0)) false (not (is_blank (get_or chars (length chars - 1) 0)))

-- the parts of a line
unfoldable pub parts_of : List ℕ → List Line
parts_of chars = lines is_blank 0 chars

-- `$$`
abbrev pub dollars : List ℕ
dollars = char "$" ∷ char "$" ∷ []

-- "a bare `$$` line"
unfoldable pub is_last : List ℕ → Bool
is_last chars = same chars dollars

-- `$$` and a name
abbrev pub titled : List Line → Bool
titled [] = false
titled (w ∷ []) = false
titled (w ∷ v ∷ []) = cond (same w.chars dollars) (is_name v.chars) false
titled (w ∷ v ∷ u ∷ ws) = false

-- "a line `$$ NAME`"
unfoldable pub is_title : List ℕ → Bool
is_title chars = cond (tight chars) (titled (parts_of chars)) false

-- a "`NAME $hex`" pair
unfoldable pub is_pair : List ℕ → List ℕ → Bool
is_pair name value = cond (is_name name) (is_number value) false

-- at most n such pairs, and nothing else
abbrev pub paired : ℕ → List Line → Bool
paired n [] = true
paired n (w ∷ []) = false
paired zero (w ∷ v ∷ ws) = false
paired (suc n) (w ∷ v ∷ ws) = let r = paired n ws in cond (is_pair w.chars v.chars) r false

-- row 22 of a line behind the title: not one "of one to four pairs". A line is not empty, and so a tight one has a part
unfoldable pub row22 : List ℕ → Bool
row22 chars = not (cond (tight chars) (paired 4 (parts_of chars)) false)

-- how many symbols a line has
unfoldable pub symbol_count : List ℕ → ℕ
symbol_count chars = length (parts_of chars) / 2

-- how many pairs a line of pairs has
unfoldable pub pairs_of : List ℕ → Option ℕ
pairs_of chars = cond (row22 chars) None (Some (symbol_count chars))

-- A data record that is seen by its first characters and its count.
use Rattle.std.specs.Prelude.{◌≡◌, ℕ, ◌+◌, ◌-◌, ◌*◌, ◌≤◌, ◌<◌, true, List, length, get_or, take, drop}
use Rattle.lists.specs.Characters.{char}
use Rattle.hex_digits.specs.Digits.{byte_of}
use Rattle.srec.specs.Lines.{is_end}

-- S, a data type, a count above that of its address bytes, and as many characters as it says
abbrev pub DataShape : List ℕ → Type 0
DataShape cs =
    (length cs ≡ 4 + 2 * byte_of (get_or cs 2 0) (get_or cs 3 0)) × (get_or cs 0 0 ≡ char "S") × (char "1" ≤ get_or cs 1 0) × (get_or cs 1 0 ≤ char "3")
    × (get_or cs 1 0 - 47 < byte_of (get_or cs 2 0) (get_or cs 3 0))

-- such a record stands from one place to another, with a line end after it
abbrev pub DataAt : List ℕ → ℕ → ℕ → Type 0
DataAt text from to =
    (from ≤ to) × (to < length text) × (is_end (get_or text to 0) ≡ true) × DataShape (take (to - from) (drop from text))

-- What a sum over the digits of a record tells.
use Rattle.std.specs.Prelude.{◌≡◌, ℕ, ◌≤◌, ◌<◌, List, length}
use Rattle.hex_digits.specs.Digits.{bytes, first_bad}
use Rattle.hex_digits.specs.Numbers.{sum}

-- below 131072 it tells that all characters are digits, and is the sum of the bytes of their pairs; from 131072 on it says
-- nothing
abbrev pub Tells : ℕ → List ℕ → Type 0
Tells s cs = s < 131072 → (length cs ≤ first_bad cs) × (s ≡ sum (bytes cs))

-- all characters are hex digits
abbrev pub AreDigits : List ℕ → Type 0
AreDigits cs = length cs ≤ first_bad cs

-- What a walk over a record's digits gathers.
use Rattle.std.specs.Prelude.{◌≡◌, ℕ, ◌*◌, ◌<◌, List, take, drop}
use Rattle.hex_digits.specs.Digits.{bytes}
use Rattle.hex_digits.specs.Numbers.{number}
use Rattle.hex_sum.specs.Sums.{Tells}

-- a sum that tells of the digits after the type, and with it an address of w bytes
abbrev pub Gathers : List ℕ → ℕ → ℕ → ℕ → Type 0
Gathers cs w s a = Tells s (drop 2 cs) × (s < 131072 → a ≡ number (bytes (take (2 * w) (drop 4 cs))))

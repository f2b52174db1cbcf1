-- A pair of digits fills its two places.
use Rattle.std.proofs.Common.{◌≡◌, ℕ, [], ◌∷◌}
use Rattle.lists.specs.Lists.{over}
use Rattle.lists.proofs.OverLaws.{over_all}
use Rattle.hex_digits.specs.Digits.{digits_of}
use Rattle.hex_digits.proofs.DigitLaws.{length_pairs}

pub pair_over : (byte : ℕ) → over (0 ∷ 0 ∷ []) 0 (digits_of (byte ∷ [])) ≡ digits_of (byte ∷ [])
pair_over byte = over_all (0 ∷ 0 ∷ []) (digits_of (byte ∷ [])) (length_pairs (byte ∷ []))

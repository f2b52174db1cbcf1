-- Names and numbers, of words that their first tests let pass.
use mathlib.Core.Path.{◌≡◌}
use Prim.Native.Nat.{ℕ, ◌≤◌, ◌<◌}
use native.Mathlib.Omega.{arith}
use mathlib.Core.Bool.{true}
use mathlib.Core.List.{List}
use lib.ListN.{length, get_or, drop, length-drop}
use borrow.Author.Tests.{eq-eqb, ne_eqb, le-ltb}
use Rattle.std.specs.List.{list_all}
use Rattle.hex_digits.specs.Digits.{is_hex}
use Rattle.words.specs.Words.{is_letter, is_alnum, is_name, is_number}
use Rattle.words.proofs.CountLaws.{all_counted}

-- a word of 1 to 16 characters that starts with a letter is a name if all are letters and digits
pub name_all : (w : List ℕ) → 0 < length w → length w ≤ 16 → is_letter (get_or w 0 0) ≡ true → list_all is_alnum w ≡ is_name w
unfolding is_name
name_all w some most e = rw (ne_eqb (length w) 0 (λ q. absurd (omega arith)), le-ltb 16 (length w) most, e) (all_counted is_alnum w)

-- `$` and 1 to 8 characters are a number if all of these are hex digits
pub number_all : (w : List ℕ) → 0 < length (drop 1 w) → length (drop 1 w) ≤ 8 → get_or w 0 0 ≡ 36 → list_all is_hex (drop 1 w) ≡ is_number w
unfolding is_number
number_all w some most e =
    rw (le-ltb (length w) 2 (omega (arith, length-drop 1 w)), le-ltb 9 (length w) (omega (arith, length-drop 1 w)), eq-eqb _ _ e) (all_counted is_hex (drop 1 w))

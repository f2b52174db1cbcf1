-- The entries of a table of digits.
use Rattle.std.proofs.Common.{◌≡◌, ℕ, ◌≤◌, ◌<◌, List, length, get_or, ltb, ap, arith, ◌∙◌}
use Rattle.std.proofs.lemmas.List.{get_or_past}
use borrow.Author.Tests.{ltb-true, ltb-false}
use Rattle.lists.proofs.TestLaws.{by_test}
use Rattle.hex_digits.specs.Tables.{digit_table, weight}
use Rattle.hex_digits.proofs.DigitTableLaws.{weight_at, weight_most}

-- a table of digits has at a character its weight
pub entry_at : (t : List ℕ) (c : ℕ) → t ≡ digit_table → c < 256 → get_or t c 0 ≡ weight c
entry_at t c e h = ap (λ (t : List ℕ). get_or t c 0) e ∙ weight_at c h

-- no entry is above 131072
pub entry_most : (t : List ℕ) (c : ℕ) → t ≡ digit_table → get_or t c 0 ≤ 131072
unfolding digit_table
entry_most t c e =
    let n : length t ≡ 256 = ap length e in
    by_test (ltb c 256) (λ h. omega (arith, entry_at t c e (ltb-true c 256 h), weight_most c))
    (λ h. omega (arith, get_or_past t c 0 (omega (arith, n, ltb-false c 256 h))))

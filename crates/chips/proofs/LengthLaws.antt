-- Rows 21 and 1 in the order of the code.
use mathlib.Core.Path.{◌≡◌, ap}
use Prim.Native.Nat.{ℕ, ◌%◌, ◌<◌}
use mathlib.Core.Bool.{true, false, not, ◌||◌}
use mathlib.Core.List.{List}
use lib.Dec.{eqb}
use borrow.Author.Tests.{eq-eqb, ne_eqb}
use Rattle.std.specs.Prelude.{Result, Ok, Err}
use Rattle.lists.proofs.TestLaws.{or_neither}
use Rattle.window.specs.Plans.{refusal}
use Rattle.chips.specs.declared.Fault.{Fault}
use Rattle.chips.specs.declared.Fault.TheVariants.{Uneven}
use Rattle.chips.specs.declared.Lengths.{Lengths}
use Rattle.chips.specs.Refusals.{not_two_or_four, row21}
use Rattle.chips.specs.Promises.{Count, told, unfit, lengths_checked}
use Rattle.chips.proofs.TestLaws.{same_number, count_inv, count_is, some_chips}

module _ (k base n : ℕ) where
  pub row_21_count : not_two_or_four k ≡ true → true ≡ row21 k base n
  unfolding row21
  row_21_count e = rw e

  pub row_21_base : not_two_or_four k ≡ false → (base % k ≡ 0 → ⊥) → true ≡ row21 k base n
  unfolding row21
  row_21_base e h = rw (e, ne_eqb (base % k) 0 h)

  pub row_21_length : not_two_or_four k ≡ false → base % k ≡ 0 → not (eqb (n % k) 0) ≡ row21 k base n
  unfolding row21
  row_21_length e h = rw (e, eq-eqb (base % k) 0 h)

  -- where row 21 does not apply
  pub even_inv : row21 k base n ≡ false → Count k × (base % k ≡ 0) × (n % k ≡ 0)
  unfolding row21
  even_inv h =
      let s = or_neither (not_two_or_four k) (not (eqb (base % k) 0) || not (eqb (n % k) 0)) h in
      let t = or_neither (not (eqb (base % k) 0)) (not (eqb (n % k) 0)) s.1 in
      (count_inv k s.0, same_number (base % k) 0 t.0, same_number (n % k) 0 t.1)

  pub even_is : Count k → base % k ≡ 0 → n % k ≡ 0 → row21 k base n ≡ false
  unfolding row21
  even_is t b e = rw (count_is k t, eq-eqb (base % k) 0 b, eq-eqb (n % k) 0 e)

  pub row_21_some : row21 k base n ≡ false → 0 < k
  row_21_some h = some_chips k (even_inv h).0

-- the row that the answer of a check stands for, or 0
abbrev pub row_told : Result (Unit {0}) Fault → ℕ
row_told r = (told (refusal 0 0 0) r).reason

module _ (k base : ℕ) (whole : Lengths) (chips : List Lengths) where
  -- the row that the lengths give, or 0
  abbrev pub length_row : ℕ
  length_row = row_told (lengths_checked k base whole chips)

  -- each way out of `check_lengths`: the answer, and the row by its number
  pub row_21 : row21 k base whole.memory ≡ true → (Err Uneven ≡ lengths_checked k base whole chips) × (21 ≡ length_row)
  unfolding lengths_checked
  row_21 e = let q : Err Uneven ≡ lengths_checked k base whole chips = rw e in (q, ap row_told q)

  pub row_1 : row21 k base whole.memory ≡ false → unfit k base whole chips ≡ true
      → (Err Fault.Lengths ≡ lengths_checked k base whole chips) × (1 ≡ length_row)
  unfolding lengths_checked
  row_1 e f = let q : Err Fault.Lengths ≡ lengths_checked k base whole chips = rw (e, f) in (q, ap row_told q)

  pub no_row : row21 k base whole.memory ≡ false → unfit k base whole chips ≡ false
      → (Ok tt ≡ lengths_checked k base whole chips) × (0 ≡ length_row)
  unfolding lengths_checked
  no_row e f = let q : Ok tt ≡ lengths_checked k base whole chips = rw (e, f) in (q, ap row_told q)

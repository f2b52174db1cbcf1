-- The cells that a tape can hold: where the others begin, and how many there are.
use mathlib.Core.Path.{◌≡◌, refl, sym, ap, ◌∙◌}
use Prim.Native.Nat.{ℕ, zero, suc, ◌+◌, ◌-◌, ◌≤◌, min, max}
use native.Mathlib.Nat.{zero-add}
use native.Mathlib.Omega.{arith}
use mathlib.Core.Bool.{true, false, not, and-false}
use mathlib.Core.List.{List, [], ◌∷◌}
use lib.Dec.{ltb, eqb}
use lib.ListN.{length, drop}
use borrow.Author.Tests.{ne_eqb, lt-ltb, ltb-true, ltb-false}
use Rattle.lists.proofs.TestLaws.{by_test}
use Rattle.window.specs.Images.{image}
use Rattle.window.specs.Cells.{cells}
use Rattle.window.specs.Walks.{unmarked}
use Rattle.tape.specs.Formats.{first_above}
use Rattle.tape_text.specs.Pieces.{low_cells}

-- a cell up to FFFF is passed over, marked or not
low_cell : (a m : ℕ) (ms : List ℕ) → ltb 65535 a ≡ false → first_above a (m ∷ ms) ≡ suc (first_above (suc a) ms)
low_cell a m ms e = rw (e, and-false (not (eqb m 0)))

-- a marked cell above FFFF is found
high_cell : (a m : ℕ) (ms : List ℕ) → ltb 65535 a ≡ true → first_above a (suc m ∷ ms) ≡ 0
high_cell a m ms e = rw (e, ne_eqb (suc m) 0 (λ q. omega arith))

-- where all cells are above FFFF, the first marked one is found
all_high : (a : ℕ) (ms : List ℕ) → 65536 ≤ a → unmarked ms ≡ first_above a ms
all_high a [] h = refl
all_high a (zero ∷ ms) h = ap suc (all_high (suc a) ms (omega arith))
all_high a (suc m ∷ ms) h = sym (high_cell a m ms (lt-ltb 65535 a (omega arith)))

-- the first marked cell above FFFF is the first marked one behind the low cells: the return of `first_above`
pub above_is : (a : ℕ) (ms : List ℕ) → low_cells a (length ms) + unmarked (drop (low_cells a (length ms)) ms) ≡ first_above a ms
unfolding low_cells
above_is a [] = let z : min (65536 - a) 0 ≡ 0 = omega arith in rw z refl
above_is a (m ∷ ms) =
    by_test (ltb 65535 a)
    (λ t. let high = ltb-true 65535 a t in
    let z : min (65536 - a) (suc (length ms)) ≡ 0 = omega arith in
    rw z (zero-add _ ∙ all_high a (m ∷ ms) (omega arith)))
    (λ t. let low = ltb-false 65535 a t in
    let n : min (65536 - a) (suc (length ms)) ≡ suc (min (65536 - suc a) (length ms)) = omega arith in
    rw (n, low_cell a m ms t) (omega (arith, above_is (suc a) ms)))

-- where none is found, at most 2^16 cells are marked
few_cells : (a : ℕ) (memory marks : List ℕ) → length memory ≡ length marks → length marks ≤ first_above a marks
    → a + length (cells a (image memory marks)) ≤ max a 65536
few_cells a [] [] e h = omega arith
few_cells a [] (m ∷ marks) e h = absurd (omega arith)
few_cells a (b ∷ memory) [] e h = absurd (omega arith)
few_cells a (b ∷ memory) (zero ∷ marks) e h = omega (arith, few_cells (suc a) memory marks (omega arith) (omega (arith, h)))
few_cells a (b ∷ memory) (suc m ∷ marks) e h =
    by_test (ltb 65535 a) (λ t. absurd (let q : suc (length marks) ≤ 0 = rw (high_cell a m marks t) at h in omega arith))
    (λ t. let q : suc (length marks) ≤ suc (first_above (suc a) marks) = rw (low_cell a (suc m) marks t) at h in
    omega (arith, ltb-false 65535 a t, few_cells (suc a) memory marks (omega arith) (omega arith)))

-- so the number of data lines fits
pub few_shown : (a : ℕ) (memory marks : List ℕ) → length memory ≡ length marks → length marks ≤ first_above a marks
    → length (cells a (image memory marks)) ≤ 65536
few_shown a memory marks e h = omega (arith, few_cells a memory marks e h)

-- A list with another in place of what stands from i on (`over`), by index.
use mathlib.Core.Path.{◌≡◌, ap, ◌∙◌}
use Prim.Native.Nat.{ℕ, ◌+◌, ◌-◌, ◌≤◌, ◌<◌}
use native.Mathlib.Omega.{arith}
use mathlib.Core.List.{List, ◌++◌}
use lib.ListN.{length, get_or, take, drop, get_or-append}
use lib.Seq.{length-take-le, get_or-take, get_or-drop, get_or-append-add}
use Rattle.lists.specs.Lists.{over}

module _ (l xs : List ℕ) (i : ℕ) (h : i + length xs ≤ length l) where
  front : length (take i l) ≡ i
  front = length-take-le i l (omega arith)

  -- before it
  pub over_below : (j : ℕ) → j < i → get_or (over l i xs) j 0 ≡ get_or l j 0
  unfolding over
  over_below j k = get_or-append (take i l) (xs ++ drop (i + length xs) l) 0 j (omega (arith, front)) ∙ get_or-take i l j 0 k

  behind : (j : ℕ) → i ≤ j → get_or (over l i xs) j 0 ≡ get_or (xs ++ drop (i + length xs) l) (j - i) 0
  unfolding over
  behind j k =
      let e : j ≡ length (take i l) + (j - i) = omega (arith, front) in
      ap (λ (x : ℕ). get_or (take i l ++ (xs ++ drop (i + length xs) l)) x 0) e
      ∙ get_or-append-add (take i l) (xs ++ drop (i + length xs) l) (j - i) 0

  -- in it
  pub over_inside : (j : ℕ) → i ≤ j → j < i + length xs → get_or (over l i xs) j 0 ≡ get_or xs (j - i) 0
  over_inside j k m = behind j k ∙ get_or-append xs (drop (i + length xs) l) 0 (j - i) (omega arith)

  -- behind it
  pub over_above : (j : ℕ) → i + length xs ≤ j → get_or (over l i xs) j 0 ≡ get_or l j 0
  over_above j k =
      let e : j - i ≡ length xs + (j - i - length xs) = omega arith in
      let f : i + length xs + (j - i - length xs) ≡ j = omega arith in
      behind j (omega arith) ∙ ap (λ (x : ℕ). get_or (xs ++ drop (i + length xs) l) x 0) e
      ∙ get_or-append-add xs (drop (i + length xs) l) (j - i - length xs) 0
      ∙ get_or-drop (i + length xs) l (j - i - length xs) 0 ∙ rw f

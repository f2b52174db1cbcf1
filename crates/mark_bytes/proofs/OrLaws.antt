-- What the or of all marks says: whether one is set, and whether one is bad.
use mathlib.Core.Path.{◌≡◌, refl, sym, ◌∙◌}
use Prim.Native.Nat.compare
use Prim.Native.Nat.{ℕ, suc}
use native.Mathlib.Omega.{arith}
use mathlib.Core.Bool.{Bool, true, false, ◌&&◌, ◌||◌, or_assoc, or-false, and_assoc, and-true}
use mathlib.Core.List.{List, [], ◌∷◌}
use lib.Bits.{bit_or, or_lt, or_add_and, and_le_l, and_le_r}
use lib.Dec.{eqb, ltb}
use lib.ListN.{length}
use borrow.Author.Tests.{lt-ltb, le-ltb, ltb-true, ltb-false, le-leb, lt-leb, eqb-true, eqb-false, ne_eqb}
use Rattle.lists.proofs.TestLaws.{by_test}
use Rattle.std.specs.List.{fold}
use Rattle.window.specs.Marks.{is_free}
use Rattle.window.specs.Windows.{row16}

-- the or of two numbers is 0 exactly where both are
or_clear : (a b : ℕ) → eqb (bit_or a b) 0 ≡ eqb a 0 && eqb b 0
or_clear a b = go (eqb a 0) (eqb b 0) refl refl
  where
    go : (s t : Bool) → eqb a 0 ≡ s → eqb b 0 ≡ t → eqb (bit_or a b) 0 ≡ s && t
    go true true p q = let e = eqb-true a 0 p in let f = eqb-true b 0 q in rw (e, f) refl
    go true false p q = ne_eqb (bit_or a b) 0 (λ z. eqb-false b 0 q (omega (arith, z, or_add_and a b, and_le_l a b)))
    go false t p q = ne_eqb (bit_or a b) 0 (λ z. eqb-false a 0 p (omega (arith, z, or_add_and a b, and_le_r a b)))

-- the or of two numbers is above 1 where one of them is
or_above : (a b : ℕ) → ltb 1 (bit_or a b) ≡ ltb 1 a || ltb 1 b
or_above a b = go (ltb 1 a) (ltb 1 b) refl refl
  where
    go : (s t : Bool) → ltb 1 a ≡ s → ltb 1 b ≡ t → ltb 1 (bit_or a b) ≡ s || t
    go true t p q = lt-ltb 1 (bit_or a b) (omega (arith, ltb-true 1 a p, or_add_and a b, and_le_r a b))
    go false true p q = lt-ltb 1 (bit_or a b) (omega (arith, ltb-true 1 b q, or_add_and a b, and_le_l a b))
    go false false p q = le-ltb 1 (bit_or a b) (omega (arith, or_lt 1 a b (omega (arith, ltb-false 1 a p)) (omega (arith, ltb-false 1 b q))))

-- row 16 asks the first mark, and then the others
bad_cons : (m : ℕ) (ms : List ℕ) → row16 (m ∷ ms) ≡ ltb 1 m || row16 ms
unfolding row16
bad_cons m ms =
    by_test (ltb 1 m)
    (λ t. rw (t, lt-leb m 1 (ltb-true 1 m t)) (lt-ltb 0 (suc (length ms)) (omega arith)))
    (λ t. rw (t, le-leb m 1 (ltb-false 1 m t), compare.suc-suc))

-- so the or of all marks is above 1 where a mark is
pub or_bad : (any : ℕ) (ms : List ℕ) → ltb 1 (fold bit_or any ms) ≡ ltb 1 any || row16 ms
unfolding row16
or_bad any [] = sym (or-false (ltb 1 any))
or_bad any (m ∷ ms) = or_bad (bit_or any m) ms ∙ rw (or_above any m, bad_cons m ms) (or_assoc (ltb 1 any) (ltb 1 m) (row16 ms))

-- and 0 where all marks are
pub or_free : (any : ℕ) (ms : List ℕ) → eqb (fold bit_or any ms) 0 ≡ eqb any 0 && is_free ms
or_free any [] = sym (and-true (eqb any 0))
or_free any (m ∷ ms) = or_free (bit_or any m) ms ∙ rw (or_clear any m) (and_assoc (eqb any 0) (eqb m 0) (is_free ms))

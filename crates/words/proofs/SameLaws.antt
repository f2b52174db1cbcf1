-- Two lists compared.
use mathlib.Core.Path.{◌≡◌, refl}
use Prim.Native.Nat.{ℕ}
use native.Mathlib.Omega.{arith}
use mathlib.Core.Bool.{true, false}
use mathlib.Core.List.{List, [], ◌∷◌}
use lib.Dec.{eqb}
use Rattle.std.specs.Prelude.{nat_eq}
use Rattle.std.specs.Cmp.Lexicographic.{pointwise}
use Rattle.lists.proofs.TestLaws.{by_test}
use Rattle.words.specs.Words.{same}

-- no test both holds and does not
pub never : true ≡ false → ⊥
never z = let w : ◌≡◌ {A = ℕ} 0 1 = cc in omega arith

-- `==` of slices
pub same_slices : (a b : List ℕ) → pointwise nat_eq a b ≡ same a b
same_slices [] [] = refl
same_slices [] (d ∷ ds) = refl
same_slices (c ∷ cs) [] = refl
same_slices (c ∷ cs) (d ∷ ds) = by_test (eqb c d) (λ e. rw e (same_slices cs ds)) (λ e. rw e)

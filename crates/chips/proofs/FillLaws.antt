-- Lists that a loop fills from the front.
use mathlib.Core.Path.{◌≡◌, sym, subst}
use Prim.Native.Nat.{ℕ, ◌+◌, ◌<◌}
use native.Mathlib.Omega.{arith}
use mathlib.Core.List.{List}
use lib.Dec.{eqb}
use lib.ListN.{length, get_or, set}
use lib.Seq.{get_or-set_same, get_or-set_other}
use borrow.Author.Tests.{eqb-true, eqb-false}
use Rattle.lists.proofs.TestLaws.{by_test}
use Rattle.chips.specs.Promises.{Filled}

-- one element more, of which anything may be known by its index
pub one_more : (Q : ℕ → ℕ → Type 0) (i v : ℕ) (xs : List ℕ) → ((j : ℕ) → j < i → Q j (get_or xs j 0)) → i < length xs → Q i v
    → (j : ℕ) → j < i + 1 → Q j (get_or (set xs i v) j 0)
one_more Q i v xs r h q j l =
    by_test (eqb j i)
    (λ t. let e : j ≡ i = eqb-true j i t in rw e (subst (Q i) (sym (get_or-set_same xs i v 0 h)) q))
    (λ t. let n : (j ≡ i → ⊥) = eqb-false j i t in subst (Q j) (sym (get_or-set_other xs i j v 0 n)) (r j (omega (arith, n))))

-- one element more, which a function gives
pub filled_more : (f : ℕ → ℕ) (i v : ℕ) (xs : List ℕ) → Filled f i xs → i < length xs → v ≡ f i → Filled f (i + 1) (set xs i v)
filled_more f = one_more (λ j x. x ≡ f j)

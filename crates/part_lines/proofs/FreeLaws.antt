-- Characters without a line end.
use mathlib.Core.Path.{◌≡◌, refl, ap, ◌∙◌}
use Prim.Native.Nat.{ℕ}
use native.Mathlib.Omega.{arith}
use mathlib.Core.Bool.{true}
use mathlib.Core.List.{List, [], ◌∷◌, ◌++◌}
use lib.ListN.{length}
use lib.Seq.{take_all}
use Rattle.lists.proofs.TestLaws.{by_test}
use Rattle.text.specs.Lines.{front}
use Rattle.text.proofs.LineLaws.{front_all, all_front}
use Rattle.text.proofs.FindLaws.{front_take}
use Rattle.srec.specs.Lines.{is_end}

-- those before the first line end are all of them where there is none
pub all_free : (xs : List ℕ) → length (front is_end xs) ≡ length xs → front is_end xs ≡ xs
all_free xs e = front_take is_end xs ∙ take_all (length (front is_end xs)) xs (omega arith)

-- and have none
pub front_free : (xs : List ℕ) → front is_end (front is_end xs) ≡ front is_end xs
front_free [] = refl
front_free (x ∷ xs) = by_test (is_end x) (λ e. rw e refl) (λ e. rw (e, e) (ap {B = List ℕ} (λ (r : List ℕ). x ∷ r) (front_free xs)))

-- with a line end behind them they are what stands before it
pub front_ended : (xs : List ℕ) (c : ℕ) → is_end c ≡ true → front is_end xs ≡ xs → front is_end (xs ++ (c ∷ [])) ≡ xs
front_ended [] c e q = rw e
front_ended (x ∷ xs) c e q =
    let h = front_all is_end (x ∷ xs) q in
    rw h.0 (ap {B = List ℕ} (λ (r : List ℕ). x ∷ r) (front_ended xs c e (all_front is_end xs h.1)))

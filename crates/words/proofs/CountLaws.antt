-- Characters of a class, counted.
use mathlib.Core.Path.{◌≡◌, refl, sym}
use Prim.Native.Nat.{ℕ, suc, ◌+◌, ◌≤◌, ◌<◌}
use Prim.Native.Nat.compare
use native.Mathlib.Numerals.{add-one}
use mathlib.Core.Bool.{Bool, true, false, not}
use mathlib.Core.List.{List, [], ◌∷◌}
use lib.ListN.{length, get_or, drop}
use lib.Seq.{drop-cons}
use lib.Dec.{ltb, eqb}
use borrow.Author.Tests.{ltb-false, ne_eqb}
use native.Mathlib.Omega.{arith}
use Rattle.std.specs.Prelude.{unwrap_or, position}
use Rattle.std.specs.List.{position_or_len, list_all}
use Rattle.text.specs.Finds.{leading}
use Rattle.lists.proofs.TestLaws.{by_test}
use Rattle.text.specs.Lines.{front}
use Rattle.words.specs.Words.{counted, all_of}

-- one of the class: one more
pub count_more : (is_in : ℕ → Bool) (chars : List ℕ) (i : ℕ) → i < length chars → is_in (get_or chars i 0) ≡ true
    → counted is_in (drop i chars) ≡ suc (counted is_in (drop (i + 1) chars))
unfolding counted
count_more is_in chars i l e = rw (drop-cons chars i 0 l, e, add-one i)

-- what stands before a gap
pub class_front : (gap is_in : ℕ → Bool) → ((c : ℕ) → is_in c ≡ not (gap c)) → (t : List ℕ) → counted is_in t ≡ length (front gap t)
unfolding counted
class_front gap is_in o [] = refl
class_front gap is_in o (c ∷ cs) = by_test (gap c) (λ e. rw (o c, e)) (λ e. rw (o c, e, class_front gap is_in o cs))

-- the count ends at the first other character, or the text's end
pub count_position : (is_in : ℕ → Bool) (chars : List ℕ) → unwrap_or (position (λ c. not (is_in c)) chars) (length chars) ≡ counted is_in chars
unfolding counted
count_position is_in chars =
    by_test (ltb n (length chars)) (λ e. rw e (same chars)) (λ e. rw e (omega (arith, ltb-false n (length chars) e, most chars, same chars)))
  where
    n : ℕ
    n = position_or_len (λ c. not (is_in c)) chars

    same : (cs : List ℕ) → position_or_len (λ c. not (is_in c)) cs ≡ leading is_in cs
    same [] = refl
    same (c ∷ cs) = by_test (is_in c) (λ e. rw e (omega (arith, same cs))) (λ e. rw e)

    most : (cs : List ℕ) → leading is_in cs ≤ length cs
    most [] = omega arith
    most (c ∷ cs) = by_test (is_in c) (λ e. rw e (omega (arith, most cs))) (λ e. rw e (omega arith))

-- all are of the class where the count is their number
pub all_counted : (is_in : ℕ → Bool) (chars : List ℕ) → list_all is_in chars ≡ all_of is_in chars
unfolding all_of counted
all_counted is_in [] = refl
all_counted is_in (c ∷ cs) = by_test (is_in c) (λ e. rw (e, compare.suc-suc) (all_counted is_in cs)) (λ e. rw e (no_zero (length cs)))
  where
    no_zero : (n : ℕ) → false ≡ eqb 0 (suc n)
    no_zero n = sym (ne_eqb 0 (suc n) (λ q. absurd (omega arith)))

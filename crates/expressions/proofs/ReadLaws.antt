-- How far a term and a sum reach, and how a sum goes on.
use mathlib.Core.Path.{◌≡◌, refl, sym, ◌∙◌}
use mathlib.Core.Bool.{Bool, true, false, cond}
use mathlib.Core.List.{List}
use Prim.Native.Nat.{ℕ, zero, suc, ◌+◌, ◌-◌, ◌≤◌, ◌<◌}
use native.Mathlib.Nat.{le_trans}
use native.Mathlib.Omega.{arith}
use borrow.Author.Tests.{ltb-true, ltb-false}
use lib.Dec.{ltb, eqb}
use lib.ListN.{length, get_or, get_or-eq_default}
use Rattle.hex_digits.specs.Digits.{between}
use Rattle.lists.proofs.TestLaws.{by_test}
use Rattle.words.specs.Words.{is_letter, is_alnum}
use Rattle.words.proofs.CountLaws.{count_more}
use Rattle.words.proofs.SameLaws.{never}
use Rattle.operands.specs.Trees.{Tree}
use Rattle.operands.specs.Reading.{Read, digits_at, number_at, word_at, name_at, closed_at, term_by, is_sign, combined, next_by, more_by, sum_by, sum_at, inner_at, term_at}
use Rattle.operands.specs.Reading.Read.{tree, bad}

-- ---- how far

-- what was read ends at k or later
abbrev pub Past : ℕ → Read → Type 0
Past k (tree t at) = k ≤ at
Past k bad = Unit {0}

past_le : (j k : ℕ) (r : Read) → j ≤ k → Past k r → Past j r
past_le j k (tree t at) h p = le_trans h p
past_le j k bad h p = tt

past_if : (k : ℕ) (b : Bool) (p q : Read) → (b ≡ true → Past k p) → (b ≡ false → Past k q) → Past k (cond b p q)
past_if k true p q h l = h refl
past_if k false p q h l = l refl

-- past the end there is no letter
pub no_letter : (s : List ℕ) (at : ℕ) → length s ≤ at → is_letter (get_or s at 0) ≡ false
unfolding is_letter between
no_letter s at h = rw (get_or-eq_default s 0 h)

-- where a letter stands, a word does
pub word_some : (s : List ℕ) (at : ℕ) → is_letter (get_or s at 0) ≡ true → 1 ≤ word_at s at
unfolding word_at
word_some s at e = by_test (ltb at (length s)) (λ l. here (ltb-true at (length s) l)) (λ l. absurd (never (sym e ∙ no_letter s at (ltb-false at (length s) l))))
  where
    is_alnum_lem : is_alnum (get_or s at 0) ≡ true
    is_alnum_lem = unfold is_alnum in rw e (by_test (between 48 57 (get_or s at 0)) (λ d. rw d) (λ d. rw d))

    here : at < length s → 1 ≤ word_at s at
    here l = rw (count_more is_alnum s at l is_alnum_lem) (omega arith)

past_number : (s : List ℕ) (at : ℕ) → Past at (number_at s at)
unfolding number_at
past_number s at = past_if at (eqb (digits_at s at) 0) bad _ (λ e. tt) (λ e. past_if at (ltb 8 (digits_at s at)) bad _ (λ f. tt) (λ f. omega arith))

past_name : (s : List ℕ) (at : ℕ) → is_letter (get_or s at 0) ≡ true → Past (at + 1) (name_at s at)
unfolding name_at
past_name s at e = past_if (at + 1) (ltb 16 (word_at s at)) bad _ (λ f. tt) (λ f. omega (arith, word_some s at e))

past_closed : (k : ℕ) (s : List ℕ) (r : Read) → Past k r → Past k (closed_at s r)
unfolding closed_at
past_closed k s (tree t at) h = past_if k (eqb (get_or s at 0) 41) (tree t (at + 1)) bad (λ e. omega arith) (λ e. tt)
past_closed k s bad h = tt

past_by : (inner : ℕ → Read) (s : List ℕ) → ((i : ℕ) → Past i (inner i)) → (at : ℕ) → Past (at + 1) (term_by inner s at)
unfolding term_by
past_by inner s h at =
    past_if (at + 1) (eqb (get_or s at 0) 36) _ _ (λ e. past_number s (at + 1))
    (λ e. past_if (at + 1) (eqb (get_or s at 0) 40) _ _ (λ f. past_closed (at + 1) s (inner (at + 1)) (h (at + 1)))
    (λ f. past_if (at + 1) (is_letter (get_or s at 0)) _ bad (λ g. past_name s at g) (λ g. tt)))

past_combined : (k sign : ℕ) (t : Tree) (r : Read) → Past k r → Past k (combined sign t r)
past_combined k sign t (tree u at) h = h
past_combined k sign t bad h = tt

past_more : (term : ℕ → Read) (s : List ℕ) → ((i : ℕ) → Past (i + 1) (term i)) → (k n : ℕ) (r : Read) → Past k r → Past k (more_by term s n r)
unfolding more_by next_by
past_more term s h k zero r p = p
past_more term s h k (suc n) (tree t at) p =
    past_if k (is_sign (get_or s at 0)) _ (tree t at)
    (λ e. past_more term s h k n (combined (get_or s at 0) t (term (at + 1)))
    (past_combined k (get_or s at 0) t (term (at + 1)) (past_le k (at + 1 + 1) (term (at + 1)) (omega arith) (h (at + 1)))))
    (λ e. p)
past_more term s h k (suc n) bad p = tt

past_sum_by : (inner : ℕ → Read) (s : List ℕ) → ((i : ℕ) → Past i (inner i)) → (at : ℕ) → Past at (sum_by inner s at)
unfolding sum_by
past_sum_by inner s h at =
    past_more (term_by inner s) s (past_by inner s h) at (length s) (term_by inner s at)
    (past_le at (at + 1) (term_by inner s at) (omega arith) (past_by inner s h at))

past_sum : (n : ℕ) (s : List ℕ) (at : ℕ) → Past at (sum_at n s at)
unfolding sum_at
past_sum zero s at = past_sum_by (λ i. bad) s (λ i. tt) at
past_sum (suc n) s at = past_sum_by (sum_at n s) s (past_sum n s) at

past_inner : (n : ℕ) (s : List ℕ) (at : ℕ) → Past at (inner_at n s at)
unfolding inner_at
past_inner zero s at = tt
past_inner (suc n) s at = past_sum n s at

-- a term is read past its first character
pub past_term : (n : ℕ) (s : List ℕ) (at : ℕ) → Past (at + 1) (term_at n s at)
unfolding term_at
past_term n s at = past_by (inner_at n s) s (past_inner n s) at

-- ---- how a sum goes on

-- a sum is its first term and what follows
pub sum_is : (n : ℕ) (s : List ℕ) (at : ℕ) → more_by (term_at n s) s (length s) (term_at n s at) ≡ sum_at n s at
unfolding term_at inner_at sum_at sum_by
sum_is zero s at = refl
sum_is (suc n) s at = refl

-- what stands in brackets is a sum, where some may be opened
pub inner_sum : (n : ℕ) (s : List ℕ) (at : ℕ) → (n ≡ 0 → ⊥) → inner_at n s at ≡ sum_at (n - 1) s at
unfolding inner_at
inner_sum zero s at h = absurd (h refl)
inner_sum (suc n) s at h = let e : suc n - 1 ≡ n = omega arith in rw e

-- it is nothing, where none may be opened
pub inner_none : (n : ℕ) (s : List ℕ) (at : ℕ) → n ≡ 0 → inner_at n s at ≡ bad
unfolding inner_at
inner_none zero s at h = refl
inner_none (suc n) s at h = absurd (omega arith)

module _ (term : ℕ → Read) (s : List ℕ) where
  -- nothing follows what has not the form
  pub more_bad : (n : ℕ) → more_by term s n bad ≡ bad
  unfolding more_by
  more_bad zero = refl
  more_bad (suc n) = refl

  -- no sign follows: the sum ends
  pub more_end : (n : ℕ) (t : Tree) (at : ℕ) → is_sign (get_or s at 0) ≡ false → more_by term s n (tree t at) ≡ tree t at
  unfolding more_by next_by
  more_end zero t at e = refl
  more_end (suc n) t at e = rw e

  -- a sign follows: one term more
  pub more_on : (n : ℕ) (t : Tree) (at : ℕ) → at < length s → length s - at ≤ n → is_sign (get_or s at 0) ≡ true
      → more_by term s n (tree t at) ≡ more_by term s (n - 1) (combined (get_or s at 0) t (term (at + 1)))
  unfolding more_by next_by
  more_on zero t at l h e = absurd (omega arith)
  more_on (suc n) t at l h e = let q : suc n - 1 ≡ n = omega arith in rw (e, q)

-- past the end there is no sign
pub no_sign : (s : List ℕ) (at : ℕ) → length s ≤ at → is_sign (get_or s at 0) ≡ false
unfolding is_sign
no_sign s at h = rw (get_or-eq_default s 0 h)

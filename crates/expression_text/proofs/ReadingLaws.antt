-- Every tree that is read fits: its leaves have a form, and no more brackets are needed than were open.
use mathlib.Core.Path.{◌≡◌, refl, sym, ap, subst, ◌∙◌}
use Prim.Native.Nat.{ℕ, zero, suc, ◌+◌, ◌*◌, ◌^◌, ◌≤◌, ◌<◌}
use native.Mathlib.Nat.{pow-suc, pow-le-pow_right, mul-le-mul_right}
use native.Mathlib.Omega.{arith}
use mathlib.Core.Bool.{Bool, true, false, cond}
use mathlib.Core.List.{List, [], ◌∷◌}
use borrow.Author.Tests.{ltb-false}
use lib.Dec.{ltb, eqb, lit<}
use lib.ListN.{length, get_or, take, drop, length-take}
use lib.Seq.{length-take-le, get_or-take}
use Rattle.lists.specs.Characters.{char}
use Rattle.lists.proofs.TestLaws.{by_test}
use Rattle.hex_digits.specs.Digits.{value}
use Rattle.hex_digits.proofs.DigitLaws.{value_small}
use Rattle.words.specs.Words.{is_letter, digits_after, number_in, is_name, is_alnum}
use Rattle.operands.specs.Trees.{Tree, operation}
use Rattle.operands.specs.Reading.{Read, digits_at, number_at, word_at, name_at, closed_at, term_by, is_sign, combined, next_by, more_by, sum_at, inner_at, term_at}
use Rattle.operands.specs.Reading.Read.{tree, bad}
use Rattle.expressions.proofs.ReadLaws.{word_some, sum_is}
use Rattle.expression_text.proofs.TextLaws.{first_at, count_taken, count_most}
use Rattle.expression_text.proofs.LeafLaws.{name_is}
use Rattle.expression_text.proofs.FitLaws.{Fit, Beside, in_brackets, no_brackets}

-- ---- leaves

-- n followed by digits is below (n + 1) * 16 ^ their number
digits_small : (n : ℕ) (cs : List ℕ) → digits_after n cs < suc n * 16 ^ length cs
digits_small n [] = omega arith
digits_small n (c ∷ cs) =
    let l : suc (n * 16 + value c) ≤ suc n * 16 = omega (arith, value_small c) in
    let p : 16 ^ suc (length cs) ≡ 16 ^ length cs * 16 = pow-suc 16 (length cs) in
    omega (arith, digits_small (n * 16 + value c) cs, mul-le-mul_right (16 ^ length cs) l, ap (λ (x : ℕ). suc n * x) p)

-- a number has at most 8 digits, so 32 bits
number_small : (cs : List ℕ) → number_in cs < 2 ^ 32
unfolding number_in
number_small cs =
    let l : length (take 8 cs) ≤ 8 = omega (arith, length-take 8 cs) in
    omega (arith, digits_small 0 (take 8 cs), pow-le-pow_right {n = 16} (lit< tt) l)

-- at most 16 letters and digits, as many as there are, are a name, if a letter comes first
name_whole : (s : List ℕ) (at : ℕ) → is_letter (get_or s at 0) ≡ true → ltb 16 (word_at s at) ≡ false → is_name (take (word_at s at) (drop at s)) ≡ true
unfolding word_at
name_whole s at h f =
    let n : ℕ = word_at s at in
    let l : length (take n (drop at s)) ≡ n = length-take-le n (drop at s) (count_most is_alnum (drop at s)) in
    let c : get_or (take n (drop at s)) 0 0 ≡ get_or s at 0
    = get_or-take n (drop at s) 0 0 (word_some s at h) ∙ sym (first_at s at (drop at s) refl) in
    name_is (take n (drop at s)) (record {
      some = λ z. omega (arith, l, word_some s at h);
      short = omega (arith, l, ltb-false 16 n f);
      first = ap is_letter c ∙ h;
      all = count_taken is_alnum (drop at s);
    })

-- ---- trees

-- what was read has some property, if it is a tree
abbrev pub IfRead : (Tree → Type 0) → Read → Type 0
IfRead P (tree t at) = P t
IfRead P bad = Unit {0}

-- by cases on a test
if_read : (P : Tree → Type 0) (b : Bool) (p q : Read) → (b ≡ true → IfRead P p) → (b ≡ false → IfRead P q) → IfRead P (cond b p q)
if_read P true p q h l = h refl
if_read P false p q h l = l refl

module _ (s : List ℕ) where
  -- a number
  number_fits : (n at : ℕ) → IfRead (Beside n) (number_at s at)
  unfolding number_at
  number_fits n at =
      if_read (Beside n) (eqb (digits_at s at) 0) bad _ (λ e. tt)
      (λ e. if_read (Beside n) (ltb 8 (digits_at s at)) bad _ (λ f. tt) (λ f. number_small (take (digits_at s at) (drop at s))))

  -- a name
  name_fits : (n at : ℕ) → is_letter (get_or s at 0) ≡ true → IfRead (Beside n) (name_at s at)
  unfolding name_at
  name_fits n at h = if_read (Beside n) (ltb 16 (word_at s at)) bad _ (λ f. tt) (λ f. name_whole s at h f)

  -- a closing bracket behind
  closed_fits : (P : Tree → Type 0) (r : Read) → IfRead P r → IfRead P (closed_at s r)
  unfolding closed_at
  closed_fits P (tree t at) h = if_read P (eqb (get_or s at 0) (char ")")) (tree t (at + 1)) bad (λ e. h) (λ e. tt)
  closed_fits P bad h = tt

  -- a term
  term_fits : (n : ℕ) → ((i : ℕ) → IfRead (Beside n) (inner_at n s i)) → (at : ℕ) → IfRead (Beside n) (term_at n s at)
  unfolding term_at term_by
  term_fits n h at =
      if_read (Beside n) (eqb (get_or s at 0) (char "$")) _ _ (λ e. number_fits n (at + 1))
      (λ e. if_read (Beside n) (eqb (get_or s at 0) (char "(")) _ _ (λ f. closed_fits (Beside n) (inner_at n s (at + 1)) (h (at + 1)))
      (λ f. if_read (Beside n) (is_letter (get_or s at 0)) _ bad (λ g. name_fits n at g) (λ g. tt)))

  -- a sign between
  combined_fits : (n c : ℕ) (a : Tree) (r : Read) → Fit n a → IfRead (Beside n) r → IfRead (Fit n) (combined c a r)
  unfolding operation
  combined_fits n c a (tree b at) h l = by_test (eqb c (char "+")) (λ e. rw e (h, l)) (λ e. rw e (h, l))
  combined_fits n c a bad h l = tt

  -- terms more
  more_fits : (n : ℕ) → ((i : ℕ) → IfRead (Beside n) (term_at n s i)) → (k : ℕ) (r : Read) → IfRead (Fit n) r
      → IfRead (Fit n) (more_by (term_at n s) s k r)
  unfolding more_by next_by
  more_fits n h zero r l = l
  more_fits n h (suc k) (tree t at) l =
      if_read (Fit n) (is_sign (get_or s at 0)) _ (tree t at)
      (λ e. more_fits n h k (combined (get_or s at 0) t (term_at n s (at + 1))) (combined_fits n (get_or s at 0) t (term_at n s (at + 1)) l (h (at + 1))))
      (λ e. l)
  more_fits n h (suc k) bad l = tt

  -- a term is a sum of one
  as_fit : (n : ℕ) (r : Read) → IfRead (Beside n) r → IfRead (Fit n) r
  as_fit n (tree t at) h = no_brackets t n h
  as_fit n bad h = tt

  -- a sum in brackets is a term
  as_inner : (n : ℕ) (r : Read) → IfRead (Fit n) r → IfRead (Beside (suc n)) r
  as_inner n (tree t at) h = in_brackets t n h
  as_inner n bad h = tt

  -- a sum of terms that fit
  by_terms : (n : ℕ) → ((i : ℕ) → IfRead (Beside n) (inner_at n s i)) → (at : ℕ) → IfRead (Fit n) (sum_at n s at)
  by_terms n h at =
      subst (IfRead (Fit n)) (sum_is n s at)
      (more_fits n (term_fits n h) (length s) (term_at n s at) (as_fit n (term_at n s at) (term_fits n h at)))

  -- any sum
  pub sum_fits : (n at : ℕ) → IfRead (Fit n) (sum_at n s at)
  unfolding inner_at
  sum_fits zero at = by_terms zero (λ i. tt) at
  sum_fits (suc n) at = by_terms (suc n) (λ i. as_inner n (sum_at n s i) (sum_fits n i)) at

-- A printed number and a name are read back as terms.
use mathlib.Core.Path.{◌≡◌, refl, sym, ap, ◌∙◌}
use Prim.Native.Nat.{ℕ, suc, ◌+◌, ◌*◌, ◌/◌, ◌%◌, ◌^◌, ◌≤◌, ◌<◌}
use native.Mathlib.Omega.{arith}
use borrow.Author.Tests.{eqb-true, eqb-false, eq-eqb, ne_eqb, ltb-false, le-ltb}
use mathlib.Core.Bool.{true, false}
use mathlib.Core.List.{List, [], ◌∷◌, ◌++◌}
use lib.Dec.{ltb, eqb}
use lib.ListN.{length, get_or, take, drop, get_or-append}
use lib.Seq.{take-append_seam, take_all}
use Rattle.lists.specs.Characters.{char}
use Rattle.lists.proofs.TestLaws.{by_test}
use Rattle.hex_digits.specs.Digits.{between, is_hex, value, digit, bytes, digits_of, first_bad}
use Rattle.hex_digits.specs.Numbers.{number_after, in_bytes}
use Rattle.hex_digits.proofs.DigitLaws.{bytes_pairs, length_pairs, first_bad_pairs}
use Rattle.hex_digits.proofs.NumberLaws.{length_in_bytes, in_bytes_small, number_in_bytes}
use Rattle.words.specs.Words.{is_letter, counted, all_of, digits_after, number_in, is_name, is_alnum}
use Rattle.words.proofs.SameLaws.{never}
use Rattle.operands.specs.Trees.Tree.{number, name}
use Rattle.operands.specs.Reading.{digits_at, number_at, word_at, name_at, term_by, term_at}
use Rattle.operands.specs.Reading.Read.{tree}
use Rattle.expression_text.specs.Printing.{in_hex}
use Rattle.expression_text.proofs.TextLaws.{first_at, behind, count_on}

-- what follows goes on neither a number nor a name
pub record Stops (q : List ℕ) : Type 0 where
  pub digits : counted is_hex q ≡ 0
  pub letters : counted is_alnum q ≡ 0

-- ---- a number

-- digits as they are read one by one and in pairs
by_pairs : (n : ℕ) (bs : List ℕ) → digits_after n (digits_of bs) ≡ number_after n (bytes (digits_of bs))
by_pairs n [] = refl
by_pairs n (b ∷ bs) =
    let x : ℕ = value (digit (b / 16)) in
    let y : ℕ = value (digit (b % 16)) in
    let e : (n * 16 + x) * 16 + y ≡ n * 256 + (16 * x + y) = omega arith in
    ap (λ (k : ℕ). digits_after k (digits_of bs)) e ∙ by_pairs (n * 256 + (16 * x + y)) bs

-- hex digits are counted as in `first_bad`
counted_hex : (cs : List ℕ) → counted is_hex cs ≡ first_bad cs
unfolding counted
counted_hex [] = refl
counted_hex (c ∷ cs) = by_test (is_hex c) (λ t. rw t (ap suc (counted_hex cs))) (λ t. rw t)

-- a number has eight digits
eight : (v : ℕ) → length (digits_of (in_bytes 4 v)) ≡ 8
eight v = length_pairs (in_bytes 4 v) ∙ omega (arith, length_in_bytes 4 v)

-- they stand for it
digits_back : (v : ℕ) → v < 2 ^ 32 → number_in (digits_of (in_bytes 4 v)) ≡ v
unfolding number_in
digits_back v h =
    ap (digits_after 0) (take_all 8 (digits_of (in_bytes 4 v)) (omega (arith, eight v)))
    ∙ by_pairs 0 (in_bytes 4 v)
    ∙ ap (number_after 0) (bytes_pairs (in_bytes 4 v) (in_bytes_small 4 v))
    ∙ number_in_bytes 4 v h

-- ---- a name

-- what makes a name
pub record Named (x : List ℕ) : Type 0 where
  pub some : length x ≡ 0 → ⊥
  pub short : length x ≤ 16
  pub first : is_letter (get_or x 0 0) ≡ true
  pub all : counted is_alnum x ≡ length x

-- a name has it all
named : (x : List ℕ) → is_name x ≡ true → Named x
unfolding is_name all_of
named x h =
    by_test (eqb (length x) 0) (λ e. let k : false ≡ true = rw e at h in absurd (never (sym k)))
    (λ e. by_test (ltb 16 (length x)) (λ f. let k : false ≡ true = rw (e, f) at h in absurd (never (sym k)))
    (λ f. by_test (is_letter (get_or x 0 0))
    (λ g. let k : eqb (counted is_alnum x) (length x) ≡ true = rw (e, f, g) at h in record {
      some = eqb-false (length x) 0 e;
      short = ltb-false 16 (length x) f;
      first = g;
      all = eqb-true (counted is_alnum x) (length x) k;
    })
    (λ g. let k : false ≡ true = rw (e, f, g) at h in absurd (never (sym k)))))

-- and what has it all is one
pub name_is : (x : List ℕ) → Named x → is_name x ≡ true
unfolding is_name all_of
name_is x w = rw (ne_eqb (length x) 0 w.some, le-ltb 16 (length x) w.short, w.first, eq-eqb (counted is_alnum x) (length x) w.all)

-- a letter is no other character
no_other : (c k : ℕ) → is_letter k ≡ false → is_letter c ≡ true → eqb c k ≡ false
no_other c k z h = by_test (eqb c k) (λ t. absurd (never (sym h ∙ ap is_letter (eqb-true c k t) ∙ z))) (λ t. t)

-- it is neither of the characters that begin the other terms
letter_alone : (c : ℕ) → is_letter c ≡ true → (eqb c (char "$") ≡ false) × (eqb c (char "(") ≡ false)
unfolding is_letter between
letter_alone c h = (no_other c (char "$") refl h, no_other c (char "(") refl h)

-- ---- read back as terms

module _ (n : ℕ) (s : List ℕ) (at : ℕ) (q : List ℕ) (z : Stops q) where
  -- a printed number is read as that number
  pub number_back : (v : ℕ) → v < 2 ^ 32 → drop at s ≡ in_hex v ++ q → term_at n s at ≡ tree (number v) (at + length (in_hex v))
  unfolding term_at term_by number_at digits_at
  number_back v h e =
      let from : drop (at + 1) s ≡ digits_of (in_bytes 4 v) ++ q = behind s at (char "$" ∷ []) (digits_of (in_bytes 4 v) ++ q) e in
      let c : counted is_hex (digits_of (in_bytes 4 v) ++ q) ≡ 8
      = count_on is_hex (digits_of (in_bytes 4 v)) q (counted_hex (digits_of (in_bytes 4 v)) ∙ first_bad_pairs (in_bytes 4 v) (in_bytes_small 4 v)) ∙ omega (arith, eight v, z.digits) in
      let t : take 8 (digits_of (in_bytes 4 v) ++ q) ≡ digits_of (in_bytes 4 v)
      = ap (λ (k : ℕ). take k (digits_of (in_bytes 4 v) ++ q)) (sym (eight v)) ∙ take-append_seam (digits_of (in_bytes 4 v)) q in
      let l : at + 1 + 8 ≡ at + suc (length (digits_of (in_bytes 4 v))) = omega (arith, eight v) in
      rw (first_at s at (in_hex v ++ q) e, from, c, t, digits_back v h, l)

  -- a name is read as that name
  pub name_back : (x : List ℕ) → is_name x ≡ true → drop at s ≡ x ++ q → term_at n s at ≡ tree (name x) (at + length x)
  unfolding term_at term_by name_at word_at
  name_back x h e =
      let w : Named x = named x h in
      let f : get_or s at 0 ≡ get_or x 0 0 = first_at s at (x ++ q) e ∙ get_or-append x q 0 0 (omega (arith, w.some)) in
      let a : (eqb (get_or x 0 0) (char "$") ≡ false) × (eqb (get_or x 0 0) (char "(") ≡ false) = letter_alone (get_or x 0 0) w.first in
      let c : counted is_alnum (x ++ q) ≡ length x = count_on is_alnum x q w.all ∙ omega (arith, z.letters) in
      rw (f, a.0, a.1, w.first, e, c, le-ltb 16 (length x) w.short, take-append_seam x q)

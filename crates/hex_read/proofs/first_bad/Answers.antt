use Rattle.std.proofs.Common.{◌≡◌, ℕ, suc, ◌+◌, ◌≤◌, List, [], ◌∷◌, length, not, eqb, ltb, cond, Some, None, unwrap_or, refl, ap, rules, tests, arith, ◌∙◌}
use Rattle.std.specs.List.{position_or_len}
use Rattle.std.proofs.lemmas.Iterator.{YieldsList-from_slice}
use Rattle.std.proofs.lemmas.Iterator.Search.{position_from_yields_List}
use Rattle.std.proofs.lemmas.Bool.{ne_eqb}
use Rattle.std.proofs.lemmas.List.Sums.{prefix_len-le-length}
use borrow.Author.Tests.{ltb-false}
use Rattle.lists.proofs.TestLaws.{by_test}
use Rattle.hex_digits.specs.Digits.{is_hex, value, first_bad}
use Rattle.hex_digits.specs.Tables.{digit_or16}
use Rattle.hex_digits.proofs.DigitLaws.{value_small}
use Rattle.hex_read.proofs.first_bad.Goals as goal

-- 16 stands for no digit, and every other number for one
is_digit : (c : ℕ) → not (eqb (digit_or16 c) 16) ≡ is_hex c
unfolding digit_or16
is_digit c =
    by_test (is_hex c) (λ e. rw e (ap not (ne_eqb (value c) 16 (λ h. omega (arith, h, value_small c))))) (λ e. rw e)

-- the place of the first 16
place : (cs : List ℕ) → position_or_len (λ c. eqb (digit_or16 c) 16) cs ≡ first_bad cs
place [] = refl
place (c ∷ cs) = let e : 1 + first_bad cs ≡ suc (first_bad cs) = omega arith in rw (is_digit c, place cs, e)

-- a place, or else the length
or_len : (n len : ℕ) → n ≤ len → unwrap_or (cond (ltb n len) (Some n) None) len ≡ n
or_len n len h = by_test (ltb n len) (λ e. rw e) (λ e. rw e (omega (arith, ltb-false n len e)))

pub returns : goal.returns
returns c =
    let cs = c.args.chars.now in
    let n = position_or_len (λ c. eqb (digit_or16 c) 16) cs in
    let found : c.position.result ≡ cond (ltb n (length cs)) (Some n) None = position_from_yields_List (λ c. eqb (digit_or16 c) 16) _ _ c.position.result
    c.position.ensures.ran (YieldsList-from_slice cs c.iter.ensures.rest) (λ x b q k. search (rules, tests)) in
    c.unwrap_or.ensures ∙ ap (λ r. unwrap_or r (length cs)) found ∙ or_len n (length cs) (prefix_len-le-length _ cs) ∙ place cs

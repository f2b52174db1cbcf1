-- A record that was read has a character, and no line end inside.
use mathlib.Core.Path.{◌≡◌}
use Prim.Native.Nat.{ℕ, ◌<◌}
use native.Mathlib.Omega.{arith}
use mathlib.Core.Bool.{true, false}
use mathlib.Core.List.{List, [], ◌∷◌}
use mathlib.Core.Option.{none, some}
use lib.Dec.{eqb}
use lib.ListN.{length}
use borrow.Author.Tests.{eqb-true}
use Rattle.lists.proofs.TestLaws.{by_test}
use Rattle.hex_digits.specs.Digits.{between, is_hex}
use Rattle.text.specs.Lines.{front}
use Rattle.text.proofs.LineLaws.{Free, all_front, hex_free}
use Rattle.srec.specs.Lines.{is_end}
use Rattle.srec.specs.Kinds.{Kind, kind_of}
use Rattle.srec_fields.proofs.FieldLaws.{Fields, Got}

-- a character that is neither LF nor CR
not_end : (c : ℕ) → (c ≡ 10 → ⊥) → (c ≡ 13 → ⊥) → is_end c ≡ false
unfolding is_end
not_end c p q =
    by_test (eqb c 10) (λ e. absurd (p (eqb-true c 10 e)))
    (λ e. by_test (eqb c 13) (λ f. absurd (q (eqb-true c 13 f))) (λ f. rw (e, f)))

-- a hex digit
hex_no_end : (c : ℕ) → is_hex c ≡ true → is_end c ≡ false
unfolding is_hex between
hex_no_end c h = not_end c (λ e. never (rw e at h)) (λ e. never (rw e at h))
  where
    never : false ≡ true → ⊥
    never q = let z : ◌≡◌ {A = ℕ} 0 1 = cc in omega arith

-- a type that is in the table
kind_free : (c : ℕ) (k : Kind) → kind_of c ≡ some k → is_end c ≡ false
unfolding kind_of
kind_free c k h = not_end c (λ e. never (rw e at h)) (λ e. never (rw e at h))
  where
    never : none ≡ some k → ⊥
    never q = let z : ◌≡◌ {A = ℕ} 0 1 = cc in omega arith

-- all characters of a good record
good_free : (chars : List ℕ) (k : Kind) (a : ℕ) (ds : List ℕ) → Fields chars k a ds → Free is_end chars
good_free [] k a ds f = tt
good_free (c ∷ []) k a ds f = absurd (omega (arith, f.long))
good_free (c ∷ d ∷ cs) k a ds f =
    let letter = not_end c (λ e. omega (arith, f.letter, e)) (λ e. omega (arith, f.letter, e)) in
    (letter, (kind_free d k f.type_known, hex_free is_end hex_no_end cs f.digits))

-- so it is before the first line end as a whole
pub good_line : (chars : List ℕ) {kind a n : ℕ} → Got chars kind a n → (0 < length chars) × (front is_end chars ≡ chars)
good_line chars {kind} {a} g = (omega (arith, g.fields.long), all_front is_end chars (good_free chars g.k a g.ds g.fields))

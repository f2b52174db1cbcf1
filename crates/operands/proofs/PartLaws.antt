-- What the reading functions tell of what they read: they follow the definitions of rows 26 and 27.
use mathlib.Core.Path.{◌≡◌, refl, ap}
use Prim.Native.Nat.{ℕ, ◌+◌, ◌^◌}
use mathlib.Core.Bool.{Bool, true, false, cond, ◌&&◌}
use mathlib.Core.List.{List, []}
use mathlib.Core.Option.{Option, none, some}
use lib.Dec.{leb, ltb, eqb}
use lib.ListN.{get_or}
use Rattle.std.specs.Prelude.{Some, None, Ok, Err}
use Rattle.std.specs.Prelude as std
use Rattle.lists.proofs.TestLaws.{by_test}
use Rattle.symbol_table.specs.Symbols.{Symbol}
use Rattle.operands.specs.declared.Part.{Part}
use Rattle.operands.specs.declared.ValueError.TheVariants.{UnknownName}
use Rattle.operands.specs.Trees.{Tree, operation}
use Rattle.operands.specs.Reading.{Read, digits_at, number_at, closed_at}
use Rattle.operands.specs.Reading.Read.{tree, bad}
use Rattle.operands.specs.Values.{known, added, taken, value, ranged, verdict, part_of, told}
use Rattle.operands.specs.Parts.{closed, joined_value, joined}

-- ---- a sign between two values

module _ (sign : ℕ) where
  -- what has not the form counts as 0 at place 0, before the sign and after it
  pub malformed_first : (b : std.Option Part) → joined None sign b ≡ joined (Some (part_of (Ok 0) 0)) sign b
  malformed_first b = refl

  pub malformed_second : (a : std.Option Part) → joined a sign None ≡ joined a sign (Some (part_of (Ok 0) 0))
  malformed_second a = refl

  -- row 26 of either comes first
  names : (k l : Bool) (v w u : Option ℕ) → joined_value (ranged v) sign (ranged w) ≡ ranged u
      → joined_value (cond k (ranged v) (Err UnknownName)) sign (cond l (ranged w) (Err UnknownName)) ≡ cond (k && l) (ranged u) (Err UnknownName)
  names true true v w u h = h
  names true false none w u h = refl
  names true false (some v) w u h = refl
  names false l v w u h = refl

  sums : (v w : Option ℕ) → eqb sign 43 ≡ true → joined_value (ranged v) sign (ranged w) ≡ ranged (added v w)
  sums none none e = refl
  sums none (some w) e = refl
  sums (some v) none e = refl
  sums (some v) (some w) e = rw e (by_test (ltb (v + w) (2 ^ 32)) (λ f. rw f) (λ f. rw f))

  differences : (v w : Option ℕ) → eqb sign 43 ≡ false → joined_value (ranged v) sign (ranged w) ≡ ranged (taken v w)
  differences none none e = refl
  differences none (some w) e = refl
  differences (some v) none e = refl
  differences (some v) (some w) e = rw e (by_test (leb w v) (λ f. rw f) (λ f. rw f))

module _ (S : List Symbol) where
  -- ---- what has the form, and what has not

  -- nothing was told: nothing of the form was read
  pub form_bad : (r : Read) → None ≡ told S r → r ≡ bad
  form_bad (tree t at) q = absurd (cc)
  form_bad bad q = refl

  -- a part was told: a tree was read
  pub record Took (r : Read) (p : Part) : Type 0 where
    pub of : Tree
    pub is : r ≡ tree of p.next
    pub says : p.value ≡ verdict S of

  pub form_good : (r : Read) (p : Part) → Some p ≡ told S r → Took r p
  form_good (tree t at) p q =
      let e : p ≡ part_of (verdict S t) at = cc in record { of = t; is = rw e; says = ap (λ (x : Part). x.value) e }
  form_good bad p q = absurd (cc)

  -- ---- numbers, brackets, signs

  -- a number asks for no symbol
  pub number_any : (s : List ℕ) (at : ℕ) → told [] (number_at s at) ≡ told S (number_at s at)
  unfolding number_at verdict
  number_any s at =
      by_test (eqb (digits_at s at) 0) (λ e. rw e) (λ e. by_test (ltb 8 (digits_at s at)) (λ f. rw (e, f)) (λ f. rw (e, f)))

  -- `close` does what the form says
  pub closed_is : (s : List ℕ) (r : Read) → closed s (told S r) ≡ told S (closed_at s r)
  unfolding closed closed_at
  closed_is s (tree t at) = by_test (eqb (get_or s at 0) 41) (λ e. rw e) (λ e. rw e)
  closed_is s bad = refl

  -- two values under a sign: `join` does what the rows say
  pub joined_value_is : (sign : ℕ) (a b : Tree) → joined_value (verdict S a) sign (verdict S b) ≡ verdict S (operation sign a b)
  unfolding operation verdict
  joined_value_is sign a b =
      by_test (eqb sign 43)
      (λ e. rw e (names sign (known S a) (known S b) (value S a) (value S b) (added (value S a) (value S b)) (sums sign (value S a) (value S b) e)))
      (λ e. rw e (names sign (known S a) (known S b) (value S a) (value S b) (taken (value S a) (value S b)) (differences sign (value S a) (value S b) e)))

  -- two parts: with the place of the second
  pub joined_is : (a b : Tree) (i at sign : ℕ) → joined (Some (part_of (verdict S a) i)) sign (Some (part_of (verdict S b) at)) ≡ part_of (verdict S (operation sign a b)) at
  joined_is a b i at sign = ap (λ v. part_of v at) (joined_value_is sign a b)

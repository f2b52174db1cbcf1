-- The pair at a place by where its first field ends, and a law for each way out of `pair_at`.
use mathlib.Core.Path.{◌≡◌, refl}
use mathlib.Core.Bool.{cond}
use Prim.Native.Nat.{ℕ, ◌+◌, ◌-◌, ◌≤◌, ◌<◌}
use native.Mathlib.Nat.{add-sub_cancel_left}
use native.Mathlib.Omega.{arith}
use borrow.Author.Tests.{eq-eqb, ne_eqb, le-leb, lt-leb, lt-ltb, le-ltb, leb-true, leb-false}
use mathlib.Core.List.{List}
use lib.Dec.{leb, ltb, eqb}
use lib.ListN.{length, get_or, take, drop}
use Rattle.std.specs.Prelude.{Option, Some, None, Result, Ok, Err}
use Rattle.lists.proofs.TestLaws.{by_test}
use Rattle.symbol_table.specs.Symbols.{Symbol}
use Rattle.operands.specs.declared.ExpressionError.{ExpressionError}
use Rattle.operands.specs.declared.ExpressionError.TheVariants.{Malformed}
use Rattle.operands.specs.Values.{worth_of}
use Rattle.sheet_fields.specs.declared.Fault.{Fault}
use Rattle.sheet_fields.specs.declared.Store.{Store}
use Rattle.sheet_fields.specs.Fields.{length_at, end_at, field_at, is_field}
use Rattle.sheet_fields.specs.Pairs.{bad, second_at, first_at, read_at, pair_at}

-- where a field ends
pub end_is : (sheet : List ℕ) (at : ℕ) → end_at sheet at ≡ at + 3 + length_at sheet at
unfolding end_at
end_is sheet at = refl

-- ---- the pair by the end of its first field

-- an address that is worth w, before the second field, which stands at `mid`
abbrev pub by_worth : List ℕ → ℕ → ℕ → Result ℕ ExpressionError → Result Store Fault
by_worth sheet at mid (Ok a) = second_at sheet mid a
by_worth sheet at mid (Err e) = bad e 1 at

-- a field with tag 1 that ends somewhere, or none
abbrev pub by_end : List Symbol → List ℕ → ℕ → Option ℕ → Result Store Fault
by_end S sheet at None = bad Malformed 1 at
by_end S sheet at (Some end) =
    cond (ltb end (length sheet)) (by_worth sheet at end (worth_of S (take (end - (at + 3)) (drop (at + 3) sheet)))) (bad Malformed 1 at)

first_is : (sheet : List ℕ) (at : ℕ) (w : Result ℕ ExpressionError) → first_at sheet at w ≡ by_worth sheet at (end_at sheet at) w
unfolding first_at
first_is sheet at (Ok a) = refl
first_is sheet at (Err e) = refl

module _ (S : List Symbol) (sheet : List ℕ) (at : ℕ) where
  -- as many bytes as the field has
  bytes_long : end_at sheet at - (at + 3) ≡ length_at sheet at
  unfolding end_at
  bytes_long = add-sub_cancel_left (at + 3) (length_at sheet at)

  -- something stands behind the first field, which is then whole
  more : end_at sheet at < length sheet → read_at S sheet at ≡ by_end S sheet at (cond (is_field 1 (field_at sheet at)) (Some (end_at sheet at)) None)
  unfolding read_at is_field field_at
  more h =
      by_test (eqb (get_or sheet at 0) 1)
      (λ t. rw (lt-leb (length sheet) (end_at sheet at) h, t, le-leb (end_at sheet at) (length sheet) (omega arith), lt-ltb (end_at sheet at) (length sheet) h, bytes_long) (first_is sheet at _))
      (λ t. rw (lt-leb (length sheet) (end_at sheet at) h, t))

  -- nothing does
  last : length sheet ≤ end_at sheet at → read_at S sheet at ≡ by_end S sheet at (cond (is_field 1 (field_at sheet at)) (Some (end_at sheet at)) None)
  unfolding read_at
  last h =
      by_test (is_field 1 (field_at sheet at))
      (λ t. rw (le-leb (length sheet) (end_at sheet at) h, t, le-ltb (end_at sheet at) (length sheet) h))
      (λ t. rw (le-leb (length sheet) (end_at sheet at) h, t))

  pub read_is : read_at S sheet at ≡ by_end S sheet at (cond (is_field 1 (field_at sheet at)) (Some (end_at sheet at)) None)
  read_is = by_test (leb (length sheet) (end_at sheet at)) (λ e. last (leb-true _ _ e)) (λ e. more (leb-false _ _ e))

-- ---- the pair at a place

module _ (S : List Symbol) (sheet : List ℕ) (at : ℕ) where
  -- no field is left
  pub pair_end : length sheet ≤ at → None ≡ pair_at S sheet at
  unfolding pair_at
  pair_end h = rw (le-leb (length sheet) at h)

  module _ (l : at < length sheet) where
    -- nothing is behind the first field, or it is cut short
    pub pair_lone : length sheet ≤ end_at sheet at → Some (bad Malformed 1 at) ≡ pair_at S sheet at
    unfolding pair_at read_at
    pair_lone h = rw (lt-leb (length sheet) at l, le-leb (length sheet) (end_at sheet at) h)

    module _ (h : end_at sheet at < length sheet) where
      -- another tag
      pub pair_tag : (get_or sheet at 0 ≡ 1 → ⊥) → Some (bad Malformed 1 at) ≡ pair_at S sheet at
      unfolding pair_at read_at
      pair_tag n = rw (lt-leb (length sheet) at l, lt-leb (length sheet) (end_at sheet at) h, ne_eqb (get_or sheet at 0) 1 n)

      -- its text decides
      pub pair_text : get_or sheet at 0 ≡ 1 → Some (by_worth sheet at (end_at sheet at) (worth_of S (take (length_at sheet at) (drop (at + 3) sheet)))) ≡ pair_at S sheet at
      unfolding pair_at read_at
      pair_text e = rw (lt-leb (length sheet) at l, lt-leb (length sheet) (end_at sheet at) h, eq-eqb (get_or sheet at 0) 1 e, first_is sheet at (worth_of S (take (length_at sheet at) (drop (at + 3) sheet))))

-- One pair of fields after the other: the plan of a sheet by what `pair_at` answers.
use mathlib.Core.Path.{◌≡◌, refl, sym, ap, ◌∙◌}
use Prim.Native.Nat.{ℕ, zero, suc, ◌+◌, ◌-◌, ◌≤◌, ◌<◌}
use native.Mathlib.Numerals.{add-one}
use native.Mathlib.Omega.{arith}
use borrow.Author.Tests.{eq-eqb, ne_eqb, eqb-true, eqb-false, le-leb, lt-ltb, le-ltb, leb-true, leb-false}
use mathlib.Core.Bool.{Bool, true, false, cond, ◌&&◌}
use mathlib.Core.List.{List, [], ◌∷◌}
use lib.Dec.{leb, eqb}
use lib.ListN.{length, get_or, take, drop}
use Rattle.std.specs.Prelude.{Option, Some, None, Result, Ok, Err}
use Rattle.lists.proofs.TestLaws.{by_test, and_both}
use Rattle.window.specs.Plans.{refusal, Plan}
use Rattle.window.specs.Plans.Plan.{store, stop, done}
use Rattle.symbol_table.specs.Symbols.{Symbol}
use Rattle.operands.specs.declared.ExpressionError.{ExpressionError}
use Rattle.operands.specs.Values.{worth_of, row_of}
use Rattle.sheet_fields.specs.declared.Fault.{Fault}
use Rattle.sheet_fields.specs.declared.Store.{Store}
use Rattle.sheet_fields.specs.Fields.{length_at, end_at, field_at, fields_from, is_field}
use Rattle.sheets.specs.Sheets.{summary, worth_plan, pair_plan, planned}
use Rattle.sheet_fields.specs.Pairs.{second_at, first_at, read_at, pair_at}
use Rattle.sheet_fields.proofs.StepLaws.{end_is, by_worth, pair_end, pair_lone, pair_tag, pair_text}

-- the bytes from f to t
abbrev pub bytes_at : List ℕ → ℕ → ℕ → List ℕ
bytes_at sheet f t = take (t - f) (drop f sheet)

-- ---- the fields

fields_end : (k : ℕ) (sheet : List ℕ) (at : ℕ) → length sheet ≤ at → fields_from k sheet at ≡ []
fields_end zero sheet at h = refl
fields_end (suc k) sheet at h = rw (le-ltb at (length sheet) h)

fields_more : (k : ℕ) (sheet : List ℕ) (at : ℕ) → at < length sheet → length sheet - at ≤ k
    → fields_from k sheet at ≡ field_at sheet at ∷ fields_from (k - 1) sheet (end_at sheet at)
fields_more zero sheet at l h = absurd (omega arith)
fields_more (suc k) sheet at l h = let e : suc k - 1 ≡ k = omega arith in rw (lt-ltb at (length sheet) l, e)

module _ (sheet : List ℕ) (at : ℕ) where
  place_is : (field_at sheet at).place ≡ at
  unfolding field_at
  place_is = refl

  bytes_are : (field_at sheet at).bytes ≡ take (length_at sheet at) (drop (at + 3) sheet)
  unfolding field_at
  bytes_are = refl

  bytes_from : (field_at sheet at).bytes ≡ bytes_at sheet (at + 3) (end_at sheet at)
  bytes_from =
      let e : length_at sheet at ≡ end_at sheet at - (at + 3) = omega (arith, end_is sheet at) in
      bytes_are ∙ ap (λ (j : ℕ). take j (drop (at + 3) sheet)) e

  -- a whole field with tag 1
  is_first : get_or sheet at 0 ≡ 1 → end_at sheet at ≤ length sheet → is_field 1 (field_at sheet at) ≡ true
  unfolding is_field field_at
  is_first e h = rw (eq-eqb (get_or sheet at 0) 1 e, le-leb (end_at sheet at) (length sheet) h)

  no_first : (get_or sheet at 0 ≡ 1 → ⊥) → is_field 1 (field_at sheet at) ≡ false
  unfolding is_field field_at
  no_first n = rw (ne_eqb (get_or sheet at 0) 1 n)

-- ---- what is told of a pair

module _ (S : List Symbol) (sheet : List ℕ) (at : ℕ) where
  -- a bad field is the first or the second; the bytes of a pair stand in the sheet, behind the two heads
  abbrev WithinPair : Result Store Fault → Type 0
  WithinPair (Err b) = b.which ≤ 2
  WithinPair (Ok p) = (at + 6 ≤ p.from) × (p.from ≤ p.to) × (p.to ≤ length sheet)

  abbrev pub Within : Option (Result Store Fault) → Type 0
  Within None = Unit {0}
  Within (Some x) = WithinPair x

  -- of two answers, the one that a test chooses
  within_if : (b : Bool) (x y : Option (Result Store Fault)) → (b ≡ true → Within x) → (b ≡ false → Within y) → Within (cond b x y)
  within_if true x y h l = h refl
  within_if false x y h l = l refl

  -- the same of two pairs
  within_pair_if : (b : Bool) (x y : Result Store Fault) → (b ≡ true → WithinPair x) → (b ≡ false → WithinPair y) → WithinPair (cond b x y)
  within_pair_if true x y h l = h refl
  within_pair_if false x y h l = l refl

  within_second : (a : ℕ) → WithinPair (second_at sheet (end_at sheet at) a)
  unfolding second_at is_field field_at
  within_second a =
      let mid : ℕ = end_at sheet at in
      within_pair_if (eqb (get_or sheet mid 0) 2 && leb (end_at sheet mid) (length sheet)) _ _
      (λ e. (omega (arith, end_is sheet at), omega (arith, end_is sheet mid), leb-true _ _ (and_both (eqb (get_or sheet mid 0) 2) (leb (end_at sheet mid) (length sheet)) e).1))
      (λ e. omega arith)

  within_text : (w : Result ℕ ExpressionError) → WithinPair (first_at sheet at w)
  unfolding first_at
  within_text (Ok a) = within_second a
  within_text (Err e) = omega arith

  within_read : WithinPair (read_at S sheet at)
  unfolding read_at
  within_read =
      within_pair_if (leb (length sheet) (end_at sheet at)) _ _ (λ f. omega arith)
      (λ f. within_pair_if (eqb (get_or sheet at 0) 1) _ _ (λ g. within_text (worth_of S (take (length_at sheet at) (drop (at + 3) sheet)))) (λ g. omega arith))

  pub within : Within (pair_at S sheet at)
  unfolding pair_at
  within = within_if (leb (length sheet) at) None _ (λ e. tt) (λ e. within_read)

  -- ---- the plan by the pair

  module _ (k n c fuel : ℕ) where
    -- what a pair leads to
    abbrev pub by_pair : Option (Result Store Fault) → Plan
    by_pair None = done (summary n c)
    by_pair (Some (Err b)) = stop (refusal (row_of b.error) (k + b.which) b.place)
    by_pair (Some (Ok p)) =
        let bytes = bytes_at sheet p.from p.to in
        store (k + 2) p.place p.address bytes (planned S (k + 2) (n + 1) (c + length bytes) (fields_from (fuel - 1 - 1) sheet p.to))

    turned_two : (l : at < length sheet) (h : end_at sheet at < length sheet)
        → planned S k n c (field_at sheet at ∷ field_at sheet (end_at sheet at) ∷ fields_from (fuel - 1 - 1) sheet (end_at sheet (end_at sheet at))) ≡ by_pair (pair_at S sheet at)
    turned_two l h =
        by_test (eqb (get_or sheet at 0) 1)
        (λ e. unfold pair_plan in rw (is_first sheet at (eqb-true _ _ e) (omega arith), bytes_are sheet at, sym (pair_text S sheet at l h (eqb-true _ _ e))) (by_text (worth_of S (take (length_at sheet at) (drop (at + 3) sheet)))))
        (λ e. unfold pair_plan in rw (no_first sheet at (eqb-false _ _ e), sym (pair_tag S sheet at l h (eqb-false _ _ e)), place_is sheet at, add-one k))
      where
        mid : ℕ
        mid = end_at sheet at

        k2 : k + 2 ≡ suc (suc k)
        k2 = omega arith

        then : Plan
        then = planned S (suc (suc k)) (suc n) (c + length (field_at sheet mid).bytes) (fields_from (fuel - 1 - 1) sheet (end_at sheet mid))

        by_text : (w : Result ℕ ExpressionError) → worth_plan k (field_at sheet at) w (field_at sheet mid) then ≡ by_pair (Some (by_worth sheet at mid w))
        by_text (Err e) = rw (place_is sheet at, add-one k)
        by_text (Ok a) =
            by_test (is_field 2 (field_at sheet mid))
            (λ g. unfold second_at in rw (g, place_is sheet mid, bytes_from sheet mid, k2, add-one n))
            (λ g. unfold second_at in rw (g, place_is sheet mid, k2))

    -- the plan of the fields that are left is that of their first pair, and the rest
    pub turned : length sheet - at ≤ fuel → planned S k n c (fields_from fuel sheet at) ≡ by_pair (pair_at S sheet at)
    turned h =
        by_test (leb (length sheet) at) (λ e. let l : length sheet ≤ at = leb-true _ _ e in rw (fields_end fuel sheet at l, sym (pair_end S sheet at l)))
        (λ e. some (leb-false _ _ e))
      where
        some : at < length sheet → planned S k n c (fields_from fuel sheet at) ≡ by_pair (pair_at S sheet at)
        some l =
            by_test (leb (length sheet) (end_at sheet at))
            (λ e. let f : length sheet ≤ end_at sheet at = leb-true _ _ e in rw (fields_more fuel sheet at l h, fields_end (fuel - 1) sheet (end_at sheet at) f, sym (pair_lone S sheet at l f), place_is sheet at, add-one k))
            (λ e. let f : end_at sheet at < length sheet = leb-false _ _ e in rw (fields_more fuel sheet at l h, fields_more (fuel - 1) sheet (end_at sheet at) f (omega (arith, end_is sheet at))) (turned_two l f))

-- One law for each way out of `number` and `name`: the answer, and its row by number, or 0.
use mathlib.Core.Path.{◌≡◌, refl, sym, ap, ◌∙◌}
use Prim.Native.Nat.{ℕ, ◌+◌, ◌-◌, ◌≤◌, ◌<◌}
use native.Mathlib.Nat.{add-sub_cancel_left}
use native.Mathlib.Omega.{arith}
use borrow.Author.Tests.{ne_eqb, lt-ltb, le-ltb}
use mathlib.Core.Bool.{cond}
use mathlib.Core.List.{List, []}
use mathlib.Core.Option.{none, some}
use mathlib.Core.Option as math
use lib.ListN.{length, take, drop}
use Rattle.std.specs.Prelude.{Option, Some, None, Result, Ok, Err}
use Rattle.lists.proofs.PartLaws.{rest}
use Rattle.hex_digits.specs.Digits.{is_hex}
use Rattle.words.specs.Words.{counted, number_in, is_alnum}
use Rattle.symbol_table.specs.Symbols.{Symbol, meaning, is_some, sought}
use Rattle.operands.specs.declared.ExpressionError.TheVariants.{Malformed, NoValue}
use Rattle.operands.specs.declared.ValueError.{ValueError}
use Rattle.operands.specs.declared.ValueError.TheVariants.{UnknownName}
use Rattle.operands.specs.declared.Part.{Part}
use Rattle.operands.specs.Reading.{digits_at, number_at, word_at, name_at}
use Rattle.operands.specs.Values.{ranged, verdict, row_of, part_of, told}

-- the row of a verdict, or 0
abbrev pub verdict_row : Result ℕ ValueError → ℕ
verdict_row (Ok v) = 0
verdict_row (Err e) = row_of (NoValue e)

-- the row of what is told, or 0
abbrev pub told_row : Option Part → ℕ
told_row None = row_of Malformed
told_row (Some p) = verdict_row p.value

-- ---- a number of n digits

module _ (s : List ℕ) (at n : ℕ) (d : n ≡ counted is_hex (take (length s - at) (drop at s))) where
  digits : digits_at s at ≡ n
  unfolding digits_at
  digits = sym (d ∙ ap (counted is_hex) (rest at s))

  -- what is told
  abbrev number_told : Option Part
  number_told = told [] (number_at s at)

  -- no digit
  pub number_none : n ≡ 0 → (None ≡ number_told) × (25 ≡ told_row number_told)
  unfolding number_at
  number_none z = let q : None ≡ number_told = rw (digits, z) in (q, ap told_row q)

  -- too many
  pub number_long : 8 < n → (None ≡ number_told) × (25 ≡ told_row number_told)
  unfolding number_at
  number_long h = let q : None ≡ number_told = rw (digits, ne_eqb n 0 (λ z. omega arith), lt-ltb 8 n h) in (q, ap told_row q)

  -- its value
  pub number_good : (n ≡ 0 → ⊥) → n ≤ 8 → (v : ℕ) → v ≡ number_in (take (at + n - at) (drop at s))
      → (Some (part_of (Ok v) (at + n)) ≡ number_told) × (0 ≡ told_row number_told)
  unfolding number_at verdict
  number_good z h v e =
      let q : Some (part_of (Ok v) (at + n)) ≡ number_told = rw (digits, ne_eqb n 0 z, le-ltb 8 n h, e, add-sub_cancel_left) in
      (q, ap told_row q)

-- ---- a name of n characters

-- the verdict on a name that stands for something, or for nothing
abbrev named : math.Option ℕ → Result ℕ ValueError
named m = cond (is_some m) (ranged m) (Err UnknownName)

-- what a look-up says of a name that is known
seen : (m : math.Option ℕ) (f : Option ℕ) (v : ℕ) → f ≡ sought m → f ≡ Some v → (Ok v ≡ named m) × (0 ≡ verdict_row (named m))
seen none f v q e = absurd (cc)
seen (some w) f v q e = let r : v ≡ w = cc in (ap Ok r, refl)

-- what it says of one that is not
unseen : (m : math.Option ℕ) (f : Option ℕ) → f ≡ sought m → f ≡ None → (Err UnknownName ≡ named m) × (26 ≡ verdict_row (named m))
unseen none f q e = (refl, refl)
unseen (some w) f q e = absurd (cc)

module _ (S : List Symbol) (s : List ℕ) (at n : ℕ) (d : n ≡ counted is_alnum (take (length s - at) (drop at s))) where
  word : word_at s at ≡ n
  unfolding word_at
  word = sym (d ∙ ap (counted is_alnum) (rest at s))

  -- what is told
  abbrev name_told : Option Part
  name_told = told S (name_at s at)

  -- too long
  pub name_long : 16 < n → (None ≡ name_told) × (25 ≡ told_row name_told)
  unfolding name_at
  name_long h = let q : None ≡ name_told = rw (word, lt-ltb 16 n h) in (q, ap told_row q)

  module _ (h : n ≤ 16) (f : Option ℕ) (q : f ≡ sought (meaning S (take (at + n - at) (drop at s)))) where
    found : f ≡ sought (meaning S (take n (drop at s)))
    found = rw add-sub_cancel_left at q

    -- the verdict is told, with the place after the name
    verdict_told : (w : Result ℕ ValueError) → w ≡ named (meaning S (take n (drop at s))) → Some (part_of w (at + n)) ≡ name_told
    unfolding name_at verdict
    verdict_told w e = rw (word, le-ltb 16 n h) (ap (λ (x : Result ℕ ValueError). Some (part_of x (at + n))) e)

    -- a symbol
    pub name_known : (v : ℕ) → f ≡ Some v → (Some (part_of (Ok v) (at + n)) ≡ name_told) × (0 ≡ told_row name_told)
    name_known v e =
        let r = verdict_told (Ok v) (seen (meaning S (take n (drop at s))) f v found e).0 in
        (r, ap told_row r)

    -- none
    pub name_unknown : f ≡ None → (Some (part_of (Err UnknownName) (at + n)) ≡ name_told) × (26 ≡ told_row name_told)
    name_unknown e =
        let r = verdict_told (Err UnknownName) (unseen (meaning S (take n (drop at s))) f found e).0 in
        (r, ap told_row r)

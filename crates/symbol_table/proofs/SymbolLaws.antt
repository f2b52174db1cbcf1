-- Names looked up in a table, as a loop comes to its words.
use mathlib.Core.Path.{◌≡◌, refl, sym, ap, ap₂, ◌∙◌}
use Prim.Native.Nat.{ℕ, ◌+◌, ◌-◌, ◌≤◌, ◌<◌}
use native.Mathlib.Omega.{arith}
use mathlib.Core.Bool.{Bool, true, false, not}
use mathlib.Core.List.{List}
use mathlib.Core.Option.{Option, none, some}
use lib.ListN.{length, take, drop}
use Rattle.lists.proofs.PartLaws.{rest, part_long}
use Rattle.text.specs.Lines.{front, lines}
use Rattle.std.specs.Prelude as Rust
use Rattle.std.specs.Prelude.{Some, None, IfSome, nat_eq}
use Rattle.text.specs.declared.Found.{Found}
use Rattle.text.specs.Finds.{found}
use Rattle.text.proofs.FindLaws.{stands, part, from, from_is, next_nothing, next_at, Next, next_is, next_none}
use Rattle.words.specs.Words.{is_blank, counted, number_in}
use Rattle.words.proofs.CountLaws.{class_front}
use Rattle.words.proofs.SameLaws.{same_slices}
use Rattle.std.specs.Cmp.Lexicographic.{pointwise}
use Rattle.symbol_table.specs.Symbols.{in_pairs, meaning}

module _ (gap : ℕ → Bool) (text : List ℕ) (at n : ℕ) (within : at ≤ length text) (e : n ≡ counted gap (take (length text - at) (drop at text))) where
  -- n characters of a gap are all that is left
  pub gap_alone : at + n ≡ length text → Rust.None ≡ found (lines gap at (drop at text))
  unfolding counted
  gap_alone h = next_nothing gap text at (omega (arith, from_is gap text at n e))

  -- m characters stand behind a gap of n
  pub gap_then : (m : ℕ) → n ≤ length (take (length text - at) (drop at text)) → ¬ (at + n ≡ length text)
      → m ≡ counted (λ c. not (gap c)) (take (length text - (at + n)) (drop (at + n) text))
      → stands (at + n) (at + n + m) ≡ found (lines gap at (drop at text))
  unfolding counted
  gap_then m most more q =
      let f : at + n ≡ from gap text at = from_is gap text at n e in
      let p : m ≡ length (front gap (drop (at + n) text))
      = q ∙ ap (counted (λ c. not (gap c))) (rest (at + n) text) ∙ class_front gap (λ c. not (gap c)) (λ c. refl) (drop (at + n) text) in
      ap₂ stands f (ap₂ ◌+◌ f (p ∙ ap (λ (k : ℕ). length (front gap (drop k text))) f))
      ∙ next_at gap text at (omega (arith, f, part_long text at (length text) within (omega arith)))

-- what a name stands for in the table from a place on
abbrev pub meaning_from : List ℕ → ℕ → List ℕ → Option ℕ
meaning_from table at name = meaning (in_pairs (lines is_blank at (drop at table))) name

-- where the first line stands
pub found_within : (gap : ℕ → Bool) (text : List ℕ) (at : ℕ) (r : Rust.Option Found) → at ≤ length text → r ≡ found (lines gap at (drop at text))
    → IfSome r (λ f. (at ≤ f.from) × (f.from < f.to) × (f.to ≤ length text))
found_within gap text at None l q = tt
found_within gap text at (Some f) l q = let n = next_is gap text at f.from f.to l q in (n.low, n.some_chars, n.high)

module _ (table name : List ℕ) (at : ℕ) (within : at ≤ length table) (k : Found) (q : Some k ≡ found (lines is_blank at (drop at table))) where
  key : Next is_blank table at k.from k.to
  key = next_is is_blank table at k.from k.to within q

  -- one word is left
  pub find_odd : None ≡ found (lines is_blank k.to (drop k.to table)) → meaning_from table at name ≡ none
  find_odd e = rw (key.is, next_none is_blank table k.to e)

  module _ (v : Found) (p : Some v ≡ found (lines is_blank k.to (drop k.to table))) where
    value : Next is_blank table k.to v.from v.to
    value = next_is is_blank table k.to v.from v.to key.high p

    -- this is the name
    pub find_here : pointwise nat_eq (part table k.from k.to) name ≡ true → meaning_from table at name ≡ some (number_in (drop 1 (part table v.from v.to)))
    find_here e = rw (key.is, value.is, sym (same_slices (part table k.from k.to) name) ∙ e)

    -- it is another one
    pub find_on : pointwise nat_eq (part table k.from k.to) name ≡ false → meaning_from table at name ≡ meaning_from table v.to name
    find_on e = rw (key.is, value.is, sym (same_slices (part table k.from k.to) name) ∙ e)

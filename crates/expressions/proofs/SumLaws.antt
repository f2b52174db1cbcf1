-- One law for each way out of `term` and `sum`, and for a turn of the loop.
use mathlib.Core.Path.{◌≡◌, refl, sym, ap, ap₂, ◌∙◌}
use mathlib.Core.Bool.{true, false}
use mathlib.Core.List.{List, []}
use Prim.Native.Nat.{ℕ, ◌+◌, ◌-◌, ◌≤◌, ◌<◌}
use native.Mathlib.Omega.{arith}
use borrow.Author.Tests.{eq-eqb, ne_eqb}
use lib.ListN.{length, get_or, get_or-eq_default}
use Rattle.std.specs.Prelude.{Option, Some, None}
use Rattle.words.specs.Words.{is_letter}
use Rattle.symbol_table.specs.Symbols.{Symbol}
use Rattle.operands.specs.declared.Part.{Part}
use Rattle.operands.specs.Trees.{Tree, operation}
use Rattle.operands.specs.Reading.{number_at, name_at, closed_at, term_by, is_sign, combined, more_by, sum_at, term_at}
use Rattle.operands.specs.Reading.Read.{tree, bad}
use Rattle.operands.specs.Values.{verdict, part_of, told}
use Rattle.operands.specs.Parts.{closed, joined, joined_value}
use Rattle.operands.proofs.PartLaws.{form_bad, Took, form_good, number_any, closed_is, joined_value_is}
use Rattle.expressions.proofs.ReadLaws.{Past, past_term, sum_is, inner_sum, inner_none, no_letter, no_sign, more_bad, more_end, more_on}

module _ (S : List Symbol) (s : List ℕ) (left at : ℕ) where
  -- ---- a term

  -- past the end there is none
  pub term_end : length s ≤ at → None ≡ told S (term_at left s at)
  unfolding term_at term_by
  term_end h = rw (no_letter s at h, get_or-eq_default s 0 h)

  -- a `$` and a number
  pub term_number : get_or s at 0 ≡ 36 → told [] (number_at s (at + 1)) ≡ told S (term_at left s at)
  unfolding term_at term_by
  term_number e = rw (eq-eqb (get_or s at 0) 36 e) (number_any S s (at + 1))

  -- a bracket too many
  pub term_deep : get_or s at 0 ≡ 40 → left ≡ 0 → None ≡ told S (term_at left s at)
  unfolding term_at term_by closed_at
  term_deep e z = rw (e, inner_none left s (at + 1) z)

  -- a sum in brackets
  opened : get_or s at 0 ≡ 40 → (left ≡ 0 → ⊥) → told S (closed_at s (sum_at (left - 1) s (at + 1))) ≡ told S (term_at left s at)
  unfolding term_at term_by
  opened e n = rw (e, inner_sum left s (at + 1) n)

  pub term_open : get_or s at 0 ≡ 40 → (left ≡ 0 → ⊥) → (p : Option Part) → p ≡ told S (sum_at (left - 1) s (at + 1)) → closed s p ≡ told S (term_at left s at)
  term_open e n p q = rw q (closed_is S s (sum_at (left - 1) s (at + 1)) ∙ opened e n)

  -- a name
  pub term_name : (get_or s at 0 ≡ 36 → ⊥) → (get_or s at 0 ≡ 40 → ⊥) → is_letter (get_or s at 0) ≡ true → told S (name_at s at) ≡ told S (term_at left s at)
  unfolding term_at term_by
  term_name n m e = rw (ne_eqb (get_or s at 0) 36 n, ne_eqb (get_or s at 0) 40 m, e)

  -- any other character
  pub term_none : (get_or s at 0 ≡ 36 → ⊥) → (get_or s at 0 ≡ 40 → ⊥) → is_letter (get_or s at 0) ≡ false → None ≡ told S (term_at left s at)
  unfolding term_at term_by
  term_none n m e = rw (ne_eqb (get_or s at 0) 36 n, ne_eqb (get_or s at 0) 40 m, e)

  -- ---- a sum

  -- the loop's invariant: a tree was read so far, and what is left to read gives the whole sum
  pub record Going (p : Part) : Type 0 where
    pub so_far : Tree
    pub fuel : ℕ
    pub low : at ≤ p.next
    pub says : p.value ≡ verdict S so_far
    pub enough : length s - p.next ≤ fuel
    pub is : more_by (term_at left s) s fuel (tree so_far p.next) ≡ sum_at left s at

  -- the first term has not the form
  pub first_bad : None ≡ told S (term_at left s at) → None ≡ told S (sum_at left s at)
  first_bad q =
      let b : term_at left s at ≡ bad = form_bad S (term_at left s at) q in
      ap (told S) (sym (more_bad (term_at left s) s (length s)) ∙ (rw b at (sum_is left s at)))

  -- it has
  pub first_going : (p : Part) → Some p ≡ told S (term_at left s at) → Going p
  first_going p q =
      let k : Took S (term_at left s at) p = form_good S (term_at left s at) p q in
      let far : Past (at + 1) (tree k.of p.next) = rw k.is at (past_term left s at) in
      record {
        so_far = k.of;
        fuel = length s;
        low = omega arith;
        says = k.says;
        enough = omega arith;
        is = rw k.is at (sum_is left s at);
      }

  module _ (p : Part) (g : Going p) where
    -- no sign follows
    pub sum_ends : (c : ℕ) → c ≡ get_or s p.next 0 → false ≡ is_sign c → Some p ≡ told S (sum_at left s at)
    sum_ends c h e =
        ap {B = Option Part} (λ v. Some (part_of v p.next)) g.says ∙ ap (told S) (sym (more_end (term_at left s) s g.fuel g.so_far p.next (cc)) ∙ g.is)

    -- nothing does
    pub text_ends : length s ≤ p.next → Some p ≡ told S (sum_at left s at)
    text_ends h = sum_ends (get_or s p.next 0) refl (sym (no_sign s p.next h))

    module _ (l : p.next < length s) (c : ℕ) (h : c ≡ get_or s p.next 0) (e : true ≡ is_sign c) where
      on : more_by (term_at left s) s (g.fuel - 1) (combined c g.so_far (term_at left s (p.next + 1))) ≡ sum_at left s at
      on = rw h (sym (more_on (term_at left s) s g.fuel g.so_far p.next l g.enough (cc)) ∙ g.is)

      -- the term behind the sign has not the form
      pub other_bad : None ≡ told S (term_at left s (p.next + 1)) → None ≡ told S (sum_at left s at)
      other_bad q =
          let b : term_at left s (p.next + 1) ≡ bad = form_bad S (term_at left s (p.next + 1)) q in
          ap (told S) (sym (more_bad (term_at left s) s (g.fuel - 1)) ∙ (rw b at on))

      -- it has: a turn of the loop
      pub goes_on : (o : Part) → Some o ≡ told S (term_at left s (p.next + 1)) → (r : Part) → r ≡ joined (Some p) c (Some o) → (p.next < r.next) × Going r
      goes_on o q r j =
          let k : Took S (term_at left s (p.next + 1)) o = form_good S (term_at left s (p.next + 1)) o q in
          let far : Past (p.next + 1 + 1) (tree k.of o.next) = rw k.is at (past_term left s (p.next + 1)) in
          rw j (
            omega arith,
            record {
              so_far = operation c g.so_far k.of;
              fuel = g.fuel - 1;
              low = omega (arith, g.low);
              says = ap₂ (λ v w. joined_value v c w) g.says k.says ∙ joined_value_is S c g.so_far k.of;
              enough = omega (arith, g.enough);
              is = rw k.is at on;
            },
          )

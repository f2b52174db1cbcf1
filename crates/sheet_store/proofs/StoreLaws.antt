-- The storing pass over a sheet that was accepted: no row refuses, and memory follows the image.
use mathlib.Core.Path.{◌≡◌, refl, sym, ap, ◌∙◌}
use Prim.Native.Nat.{ℕ, zero, suc, ◌+◌, ◌-◌, ◌≤◌}
use native.Mathlib.Nat.{add-zero}
use native.Mathlib.Omega.{arith}
use mathlib.Core.Bool.{true, false}
use lib.Dec.{eqb}
use borrow.Author.Tests.{eqb-true}
use mathlib.Core.List.{List, [], ◌∷◌}
use lib.ListN.{length, take-append-drop}
use Rattle.lists.proofs.TestLaws.{by_test}
use Rattle.std.specs.Prelude.{Option, Some, None, Result, Ok, Err}
use Rattle.window.specs.declared.Refusal.{Refusal}
use Rattle.lists.specs.Lists.{over}
use Rattle.window.specs.Images.{Image, blank, overlaid}
use Rattle.window.specs.Plans.{Outcome, row12, row13, filled, placed, Accepts}
use Rattle.window.specs.Plans.Plan.{store}
use Rattle.window.specs.Plans.Outcome.{refused, accepted}
use Rattle.window.proofs.FillLaws.{inside}
use Rattle.window.proofs.ViewLaws.{length_overlaid}
use Rattle.window.proofs.OverlayLaws.{overlaid_blank, overlaid_filled}
use Rattle.text.specs.Load.{memory_after}
use Rattle.symbol_table.specs.Symbols.{Symbol}
use Rattle.sheet_fields.specs.declared.Fault.{Fault}
use Rattle.sheet_fields.specs.declared.Store.{Store}
use Rattle.sheet_fields.specs.Fields.{fields_from}
use Rattle.sheets.specs.Sheets.{planned}
use Rattle.sheet_fields.specs.Pairs.{pair_at}
use Rattle.sheets.proofs.TurnLaws.{bytes_at}
use Rattle.sheets.proofs.WalkLaws.{whole_of, Walk, walk_start, walk_end, walk_bad, store_within, walk_store, walk_put}

-- ---- bytes in the middle of memory

-- no bytes change nothing
pub over_none : (m : List ℕ) (i : ℕ) (ds : List ℕ) → true ≡ eqb (length ds) 0 → m ≡ over m i ds
unfolding over
over_none m i [] e = sym (rw add-zero (take-append-drop i m))
over_none m i (d ∷ ds) e = absurd (omega (arith, eqb-true (length (d ∷ ds)) 0 (sym e)))

-- where row 12 lets some bytes pass, they lie in the window
pub in_window : (base size a n : ℕ) → row12 base size a n ≡ false → false ≡ eqb n 0 → (base ≤ a) × (a + n ≤ base + size)
in_window base size a zero h z = absurd (cc)
in_window base size a (suc n) h z = inside base size a n h

-- ---- the walk

-- the loop's invariant: memory shows the image of a walk
pub record Storing (S : List Symbol) (sheet : List ℕ) (base : ℕ) (m₀ m : List ℕ) (at : ℕ) : Type 0 where
  pub img : Image
  pub k : ℕ
  pub n : ℕ
  pub c : ℕ
  pub walk : Walk S sheet base (length m₀) img k n c at
  pub memory_is : m ≡ overlaid m₀ img

-- before the first field
pub storing_start : (S : List Symbol) (sheet : List ℕ) (base : ℕ) (m : List ℕ) → Storing S sheet base m m 0
storing_start S sheet base m =
    record { img = blank (length m); k = 0; n = 0; c = 0; walk = walk_start S sheet base (length m); memory_is = sym (overlaid_blank m) }

module _ {S : List Symbol} {sheet : List ℕ} {base : ℕ} {m₀ m : List ℕ} {at : ℕ} (g : Storing S sheet base m₀ m at) where
  abbrev whole : Outcome
  whole = whole_of S sheet base (length m₀)

  module _ (acc : Accepts whole) where
    never : {f : Refusal} → refused f ≡ whole → ⊥
    never p = let q : refused _ ≡ accepted acc.sum acc.img = p ∙ acc.is in cc

    -- no field is left
    pub stored_end : None ≡ pair_at S sheet at → m ≡ memory_after m₀ whole
    stored_end q = g.memory_is ∙ ap (memory_after m₀) (walk_end S sheet base (length m₀) g.img g.k g.n g.c at g.walk q)

    -- no field is bad
    pub stored_bad : (b : Fault) → Some (Err b) ≡ pair_at S sheet at → m ≡ memory_after m₀ whole
    stored_bad b q = absurd (never (walk_bad S sheet base (length m₀) g.img g.k g.n g.c at g.walk b q))

    module _ (p : Store) (q : Some (Ok p) ≡ pair_at S sheet at) where
      abbrev bytes : List ℕ
      bytes = bytes_at sheet p.from p.to

      -- where the bytes stand
      pub stored_within : (at + 6 ≤ p.from) × (p.from ≤ p.to) × (p.to ≤ length sheet)
      stored_within = store_within S sheet base (length m₀) g.img g.k g.n g.c at g.walk p q

      placed_on : placed base g.img (store (g.k + 2) p.place p.address bytes (planned S (g.k + 2) (g.n + 1) (g.c + length bytes) (fields_from (g.walk.fuel - 1 - 1) sheet p.to))) ≡ whole
      placed_on = walk_store S sheet base (length m₀) g.img g.k g.n g.c at g.walk p q

      free : (row12 base (length g.img) p.address (length bytes) ≡ false) × (row13 base g.img p.address (length bytes) ≡ false)
      free =
          by_test (row12 base (length g.img) p.address (length bytes)) (λ b. absurd (never (rw b at placed_on)))
          (λ b. by_test (row13 base g.img p.address (length bytes)) (λ d. absurd (never (rw (b, d) at placed_on))) (λ d. (b, d)))

      same_size : length m ≡ length g.img
      same_size = ap length g.memory_is ∙ length_overlaid m₀ g.img ∙ sym g.walk.long

      -- row 12 lets them pass
      pub stored_free : row12 base (length m) p.address (length bytes) ≡ false
      stored_free = ap (λ (i : ℕ). row12 base i p.address (length bytes)) same_size ∙ free.0

      -- they are stored, and the walk goes on
      pub stored_on : (m' : List ℕ) → m' ≡ over m (p.address - base) bytes → Storing S sheet base m₀ m' p.to
      stored_on m' d =
          record {
            img = filled base g.img p.address bytes;
            k = g.k + 2;
            n = g.n + 1;
            c = g.c + length bytes;
            walk = walk_put S sheet base (length m₀) g.img g.k g.n g.c at g.walk p q free.0 free.1;
            memory_is =
                d ∙ ap (λ (y : List ℕ). over y (p.address - base) bytes) g.memory_is
                ∙ sym (overlaid_filled m₀ base g.img p.address bytes (sym g.walk.long) free.0);
          }

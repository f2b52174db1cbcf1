-- Req 10's conditions are needed: each pair is merged in both orders, and the results differ.
use mathlib.Core.Path.{◌≡◌, refl, ap}
use Prim.Native.Nat.{ℕ, zero, suc}
use native.Mathlib.Omega.{arith}
use mathlib.Core.List.{List, [], ◌∷◌}
use mathlib.Core.Logic.{inl}
use lib.ListN.{get_or}
use Rattle.window.specs.Cells.{Cell}
use Rattle.window.specs.Plans.{address_of}
use Rattle.window.specs.Windows.{row1, row16, Marked, window_of}
use Rattle.window.specs.Headers.{row15}
use Rattle.overlay.specs.Layers.{patched}
use Rattle.overlay.specs.Refusals.{row1_both, first_row, merge_refusal}
use Rattle.overlay.specs.Merges.{merge_answer, memory_after, marks_after}
use Rattle.grouping.specs.Conflicts.{SharedCell, TwoHeaders, TwoEntries}

-- the byte of the second cell of a list
second_byte : List Cell → ℕ
second_byte [] = 0
second_byte (c ∷ []) = 0
second_byte (c ∷ d ∷ cs) = d.byte

-- two cells without a mark
unmarked : (base a b : ℕ) → Marked (window_of base (0 ∷ 0 ∷ []) (0 ∷ 0 ∷ [])) a b → ⊥
unmarked base a b k = go k.0 k.2
  where
    go : (i : ℕ) → ◌≡◌ {A = ℕ} (get_or (0 ∷ 0 ∷ []) i 0) 1 → ⊥
    go zero m = omega arith
    go (suc zero) m = omega arith
    go (suc (suc i)) m = omega arith

-- two patches that share a cell, with different bytes: the order matters
pub shared_cell : SharedCell
unfolding second_byte patched row1 row15 row16 row1_both first_row merge_refusal merge_answer memory_after marks_after
shared_cell = (
  record {
    first = (refl, refl);
    second = (refl, refl);
    differ = λ h. let z : ◌≡◌ {A = ℕ} 2 1 = ap second_byte h.cells in omega arith;
  },
  inl refl,
  inl refl,
)

-- two patches with different headers
pub two_headers : TwoHeaders
unfolding patched row1 row15 row16 row1_both first_row merge_refusal merge_answer memory_after marks_after
two_headers = (
  record {
    first = (refl, refl);
    second = (refl, refl);
    differ = λ h. let z : ◌≡◌ {A = ℕ} 2 1 = ap (λ (x : List ℕ). get_or x 0 0) h.header in omega arith;
  },
  λ a b c p q. unmarked 0 a b p,
  inl refl,
)

-- two patches with different entries
pub two_entries : TwoEntries
unfolding patched row1 row15 row16 row1_both first_row merge_refusal merge_answer memory_after marks_after
two_entries = (
  record {
    first = (refl, refl);
    second = (refl, refl);
    differ = λ h. let z : ◌≡◌ {A = ℕ} 2 1 = ap address_of h.entry in omega arith;
  },
  λ a b c p q. unmarked 0 a b p,
  inl refl,
)

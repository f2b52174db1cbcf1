-- Whole rows, one after the other.
use mathlib.Core.Path.{◌≡◌, refl, sym, ap, ◌∙◌, subst}
use Prim.Native.Nat.{ℕ, zero, suc, ◌+◌, ◌*◌, ◌≤◌, ◌<◌}
use native.Mathlib.Nat.{add-zero}
use native.Mathlib.Omega.{arith}
use mathlib.Core.List.{List, [], ◌∷◌}
use lib.ListN.{length, get_or, drop}
use lib.Seq.{drop-cons}
use Rattle.window.specs.Walks.{unmarked, run_on}
use Rattle.formats.specs.declared.Format.{Format}
use Rattle.formats.specs.Choices.{follow_of}
use Rattle.size.specs.Rows.{IsRow, AreRows, RowsTo}

-- a run begins with a marked cell
run_marked : (n : ℕ) (ms : List ℕ) → 0 < run_on n ms → unmarked ms ≡ 0
run_marked n [] h = refl
run_marked n (zero ∷ ms) h = absurd (omega arith)
run_marked n (suc m ∷ ms) h = refl

-- nothing is skipped where a cell is marked: a return of `next_run`
pub none_skipped : (ms : List ℕ) (at : ℕ) → at < length ms → (get_or ms at 0 ≡ 0 → ⊥) → at ≡ at + unmarked (drop at ms)
none_skipped ms at h m = rw (drop-cons ms at 0 h) (first_marked (get_or ms at 0) m)
  where
    first_marked : (x : ℕ) → (x ≡ 0 → ⊥) → at ≡ at + unmarked (x ∷ drop (suc at) ms)
    first_marked zero m = absurd (m refl)
    first_marked (suc x) m = sym (add-zero at)

module _ (format : Format) (base : ℕ) (marks : List ℕ) (cells : ℕ) where
  -- a row begins with a marked cell
  pub row_marked : (i : ℕ) → IsRow format base marks cells i → unmarked (drop i marks) ≡ 0
  row_marked i row = run_marked (suc (follow_of format (base + i))) (drop i marks) (omega (arith, row.1))

  -- before the first row
  pub no_rows : (at : ℕ) → at ≤ cells → RowsTo format base marks cells at at
  no_rows at h = (0, omega arith, h)

  -- rows end inside the window
  pub rows_inside : (at to : ℕ) → RowsTo format base marks cells at to → to ≤ cells
  rows_inside at to (zero, e, h) = omega arith
  rows_inside at to (suc n, e, h) = omega (arith, h.1.0)

  -- a row more: a turn of `rows_end`
  pub row_more : (at i : ℕ) → RowsTo format base marks cells at i → IsRow format base marks cells i → RowsTo format base marks cells at (i + 16)
  row_more at i (n, e, h) row = (suc n, omega arith, (h, subst (IsRow format base marks cells) e row))

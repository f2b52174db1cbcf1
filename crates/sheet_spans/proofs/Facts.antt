-- The statements of specs/Facts.antt hold.
use mathlib.Core.Path.{◌≡◌, refl, sym, ap, ◌∙◌, subst}
use Prim.Native.Nat.{ℕ}
use native.Mathlib.Omega.{arith}
use mathlib.Core.List.{List}
use lib.ListN.{length}
use Rattle.std.specs.Prelude.{Result, Ok, Err}
use Rattle.lists.proofs.TestLaws.{by_test}
use Rattle.window.specs.declared.Refusal.{Refusal}
use Rattle.window.specs.Windows.{Window, row1}
use Rattle.window.specs.Images.{Image, blank}
use Rattle.window.specs.Cells.{cells}
use Rattle.window.specs.Plans.{Summary, Plan, Outcome, placed}
use Rattle.window.specs.Plans.Outcome.{refused, accepted}
use Rattle.window.proofs.CellLaws.{In}
use Rattle.window.proofs.PlanLaws.{stores, Accepted, placed_inv}
use Rattle.window.proofs.FillLaws.{left_by}
use Rattle.window.proofs.RoomLaws.{length_blank, fill_length}
use Rattle.window.proofs.ViewLaws.{marked_in}
use Rattle.text.specs.Load.{load_answer}
use Rattle.symbol_table.specs.Symbols.{symbols_in}
use Rattle.symbols.specs.declared.Table.{Table}
use Rattle.symbols.specs.Blocks.{stretch, block_of}
use Rattle.sheets.specs.Sheets.{sheet_plan, table_outcome, with_block, sheet_outcome}
use Rattle.spans.specs.Spans.{span_of}
use Rattle.spans.specs.Facts.{Within, Fits}
use Rattle.spans.proofs.SpanLaws.{span_is_exact, never_12 as plan-never-12, addressed_covered}
use Rattle.sheet_survey.specs.SheetSpans.{span_behind, sheet_span}
use Rattle.sheet_spans.specs.Facts.{Never12, CellsAreIn}
use Rattle.sheet_spans.proofs.RowLaws.{BlockOther, block_other, sheet_free}

module _ (W : Window) (text sheet : List ℕ) where
  -- a sheet placed with the symbols of a table
  placing_12 : (t : Table) → Fits W.base (length W.memory) (span_behind text sheet (Ok t)) → (o : Outcome)
      → placed W.base (blank (length W.memory)) (sheet_plan (symbols_in (stretch text t.from t.to)) sheet) ≡ o → (load_answer o).refusal.reason ≡ 12 → ⊥
  placing_12 t h (refused f) q e =
      plan-never-12 (sheet_plan (symbols_in (stretch text t.from t.to)) sheet) W.base (length W.memory) f (sheet_free (symbols_in (stretch text t.from t.to)) sheet) h q e
  placing_12 t h (accepted s img) q e = omega (arith, e)

  -- a plan that is accepted has its cells in its span
  placed_cells : (p : Plan) (s : Summary) (img : Image) → placed W.base (blank (length W.memory)) p ≡ accepted s img
      → (length W.memory ≡ length img) × ((A B : ℕ) → In A B (cells W.base img) → Within A (span_of p))
  placed_cells p s img q =
      let n : ℕ = length W.memory in
      let a : Accepted p W.base (blank n) s img = placed_inv p W.base (blank n) s img q in (
        sym (ap length a.left ∙ fill_length W.base (blank n) (stores p) a.room ∙ length_blank n),
        λ A B k. (span_is_exact p).holds A (addressed_covered p A B ((left_by A B W.base n (stores p) a.room).0
            (subst (λ (x : Image). In A B (cells W.base x)) a.left k))),
      )

  -- row 1 is not row 12
  one : ◌≡◌ {A = ℕ} 1 12 → ⊥
  one q = omega (arith, q)

  -- a sheet behind any block
  block_12 : (b : Result Table Refusal) → BlockOther b → Fits W.base (length W.memory) (span_behind text sheet b)
      → (load_answer (with_block W text sheet b)).refusal.reason ≡ 12 → ⊥
  unfolding table_outcome
  block_12 (Err f) o h e = by_test (row1 W) (λ t. one (rw t at e)) (λ t. o.0 (rw t at e))
  block_12 (Ok t) o h e =
      by_test (row1 W) (λ r. one (rw r at e))
      (λ r. placing_12 t h (placed W.base (blank (length W.memory)) (sheet_plan (symbols_in (stretch text t.from t.to)) sheet)) refl (rw r at e))

  -- a refused outcome is no accepted one
  never : {f : Refusal} {s : Summary} {img : Image} → refused f ≡ accepted s img → ⊥
  never e = let z : ◌≡◌ {A = ℕ} 0 1 = cc in omega arith

  -- a sheet that is accepted behind a block has its cells in the span
  block_cells : (b : Result Table Refusal) (s : Summary) (img : Image) → with_block W text sheet b ≡ accepted s img
      → (length W.memory ≡ length img) × ((A B : ℕ) → In A B (cells W.base img) → Within A (span_behind text sheet b))
  unfolding table_outcome
  block_cells (Err f) s img q = by_test (row1 W) (λ t. absurd (never (rw t at q))) (λ t. absurd (never (rw t at q)))
  block_cells (Ok t) s img q =
      by_test (row1 W) (λ r. absurd (never (rw r at q)))
      (λ r. placed_cells (sheet_plan (symbols_in (stretch text t.from t.to)) sheet) s img (rw r at q))

-- in a window that has the span of a sheet in it row 12 is never given
pub never_12 : Never12
unfolding sheet_outcome sheet_span
never_12 W text sheet h e = block_12 W text sheet (block_of text) (block_other text) h e

-- every cell that an accepted sheet marks lies in its span
pub cells_are_in : CellsAreIn
unfolding sheet_outcome sheet_span
cells_are_in W text sheet s img q A B m =
    let k = block_cells W text sheet (block_of text) s img q in
    k.1 A B (marked_in W.base W.memory img A B k.0 (rw q at m))

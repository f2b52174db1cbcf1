-- A load behind a symbol block: what a refusal leaves, and what a good block leads to.
use mathlib.Core.Path.{◌≡◌, sym, ap, ◌∙◌}
use Prim.Native.Nat.{ℕ, ◌+◌, ◌-◌}
use mathlib.Core.Bool.{Bool, true, false, not}
use mathlib.Core.List.{List}
use lib.ListN.{length, take, drop, replicate}
use borrow.Author.Tests.{not-true, not-false}
use Rattle.lists.proofs.PartLaws.{rest}
use Rattle.lists.proofs.TestLaws.{by_test}
use Rattle.window.specs.declared.Refusal.{Refusal}
use Rattle.window.specs.Windows.{Window, row1}
use Rattle.window.specs.Plans.{refusal}
use Rattle.window.specs.Plans.Outcome.{refused}
use Rattle.marks.specs.declared.Form.TheVariants.{Bytes}
use Rattle.marks.specs.Forms.{row1_in}
use Rattle.marks.proofs.RowLaws.{row_1_bytes}
use Rattle.text.specs.Formats.{plan}
use Rattle.text.specs.Load.{load, memory_after, marks_after}
use Rattle.srec.specs.Formats.{srec}
use Rattle.std.specs.Prelude.{Result, Ok, Err}
use Rattle.symbols.specs.declared.Table.{Table}
use Rattle.symbols.specs.Blocks.{block_of}
use Rattle.symbol_load.specs.Loads.{row1_or, rest_of, load_behind}

-- ---- row 1, or another refusal

module _ (W : Window) (f : Refusal) where
  module _ (allowed : Bool) (q : allowed ≡ not (row1_in Bytes W)) where
    pub row_1_given : allowed ≡ false → refused (refusal 1 0 0) ≡ row1_or W (refused f)
    row_1_given e = let r : row1 W ≡ true = sym (row_1_bytes W) ∙ not-false _ (sym q ∙ e) in rw r

    pub row_1_passed : allowed ≡ true → refused f ≡ row1_or W (refused f)
    row_1_passed e = let r : row1 W ≡ false = sym (row_1_bytes W) ∙ not-true _ (sym q ∙ e) in rw r

  -- memory stays, and every mark is zero
  pub kept : (memory : List ℕ) → memory ≡ memory_after memory (row1_or W (refused f))
  kept memory = by_test (row1 W) (λ e. rw e) (λ e. rw e)

  pub cleared : (marks : List ℕ) → replicate (length marks) 0 ≡ marks_after marks (row1_or W (refused f))
  cleared marks = by_test (row1 W) (λ e. rw e) (λ e. rw e)

-- ---- the block decides

module _ (W : Window) (text : List ℕ) where
  pub behind_bad : (f : Refusal) → Err f ≡ block_of text → row1_or W (refused f) ≡ load_behind W text
  unfolding load_behind
  behind_bad f e = ap (λ (b : Result Table Refusal). row1_or W (rest_of W text b)) e

  -- a load has row 1 first by itself
  pub behind_table : (t : Table) → Ok t ≡ block_of text
      → load W (plan srec (take (length text - (t.to + 2)) (drop (t.to + 2) text))) ≡ load_behind W text
  unfolding load_behind load
  behind_table t e =
      ap (λ (x : List ℕ). load W (plan srec x)) (rest (t.to + 2) text) ∙ by_test (row1 W) (λ r. rw r) (λ r. rw r)
      ∙ ap (λ (b : Result Table Refusal). row1_or W (rest_of W text b)) e

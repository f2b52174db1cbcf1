-- The whole of a sheet: row 1, the block, and what the two passes come to.
use mathlib.Core.Path.{◌≡◌, refl, sym, ap, ◌∙◌, subst}
use Prim.Native.Nat.{ℕ, ◌-◌}
use native.Mathlib.Omega.{arith}
use mathlib.Core.Bool.{true, false}
use mathlib.Core.List.{List, []}
use lib.ListN.{length, replicate, length-replicate}
use Rattle.std.specs.Prelude.{Result, Ok, Err}
use Rattle.window.specs.declared.Refusal.{Refusal}
use Rattle.window.specs.Windows.{Window, row1, window_of}
use Rattle.window.specs.Images.{blank}
use Rattle.window.specs.Plans.{refusal, Outcome, placed, Accepts}
use Rattle.window.specs.Plans.Outcome.{refused, accepted}
use Rattle.window.specs.declared.Loaded.{Loaded}
use Rattle.window.proofs.RowLaws.{allowed_inv}
use Rattle.text.specs.Load.{load_answer, memory_after, marks_after}
use Rattle.symbol_table.specs.Symbols.{symbols_in}
use Rattle.symbols.specs.declared.Table.{Table}
use Rattle.symbols.specs.Blocks.{stretch, block_of}
use Rattle.symbol_load.specs.Loads.{row1_or}
use Rattle.symbol_load.proofs.LoadLaws.{kept, cleared}
use Rattle.sheet_check.specs.declared.Accepted.{Accepted}
use Rattle.sheets.specs.Sheets.{summary, sheet_plan, table_outcome, with_block, sheet_outcome}
use Rattle.sheet_check.specs.Checks.{Told}

-- what a load with this outcome answers and leaves
abbrev pub Answered : List ℕ → List ℕ → Outcome → Loaded → List ℕ → List ℕ → Type 0
Answered memory marks o r memory' marks' = (r ≡ load_answer o) × ((memory' ≡ memory_after memory o) × (marks' ≡ marks_after marks o))

-- a refusal: memory as it was, and all marks cleared
pub answered_refused : (memory marks : List ℕ) (o : Outcome) (f : Refusal) → o ≡ refused f → (r : Loaded) → r ≡ load_answer (refused f)
    → (marks' : List ℕ) → marks' ≡ replicate (length marks) 0 → Answered memory marks o r memory marks'
answered_refused memory marks o f e r q marks' m = rw e (q, (refl, m))

-- ---- what the checking pass told

-- a refusal of the check is the outcome's
pub told_no : (o : Outcome) (f : Refusal) (marks : List ℕ) → Told o (Err f) marks → o ≡ refused f
told_no (refused g) f marks t = cc
told_no (accepted s img) f marks t = absurd (no_answer t.0)
  where
    no_answer : {x : Accepted} → ◌≡◌ {A = Result Accepted Refusal} (Err f) (Ok x) → ⊥
    no_answer e = cc

-- what the check has accepted can be stored
pub told_accepts : (o : Outcome) (a : Accepted) (marks : List ℕ) → Told o (Ok a) marks → Accepts o
told_accepts (refused g) a marks t = absurd (let z : ◌≡◌ {A = ℕ} 0 1 = cc in omega arith)
told_accepts (accepted s img) a marks t = record { sum = s; img = img; is = refl }

-- an accepted sheet
pub answered_accepted : (memory marks : List ℕ) (o : Outcome) (a : Accepted) (marks' : List ℕ) → Told o (Ok a) marks'
    → (r : Loaded) → r ≡ load_answer (accepted (summary a.records a.cells) []) → (memory' : List ℕ) → memory' ≡ memory_after memory o → Answered memory marks o r memory' marks'
answered_accepted memory marks (refused g) a marks' t r q memory' m = absurd (let z : ◌≡◌ {A = ℕ} 0 1 = cc in omega arith)
answered_accepted memory marks (accepted s img) a marks' t r q memory' m =
    let e : ◌≡◌ {A = Result Accepted Refusal} (Ok a) (Ok (record { records = s.records; cells = s.cells })) = t.0 in
    let p : a ≡ record { records = s.records; cells = s.cells } = cc in
    (q ∙ (λ i. load_answer (accepted (summary (p i).records (p i).cells) [])) ∙ (λ i. load_answer (accepted (sym t.1 i) img)), (m, t.2))

-- ---- row 1, and the sheet

module _ (base : ℕ) (memory marks table sheet : List ℕ) where
  abbrev W : Window
  W = window_of base memory marks

  -- what the sheet comes to in an allowed window
  abbrev pub sheet_alone : Outcome
  sheet_alone = placed base (blank (length memory)) (sheet_plan (symbols_in table) sheet)

  -- row 1: whatever is declined
  pub row_1_sheet : (f : Refusal) → row1 W ≡ true → row1_or W (refused f) ≡ table_outcome W table sheet
  unfolding table_outcome
  row_1_sheet f e = rw e

  -- behind it the sheet decides
  pub alone : row1 W ≡ false → sheet_alone ≡ table_outcome W table sheet
  unfolding table_outcome
  alone e = rw e

  -- other marks of the same length change nothing of row 1
  pub same_row : (marks' : List ℕ) → length marks' ≡ length marks → row1 (window_of base memory marks') ≡ row1 W
  unfolding row1
  same_row marks' e = rw e

  -- ---- one law for each way out

  -- row 1
  pub answered_row_1 : (f : Refusal) → row1 W ≡ true → (r : Loaded) → r ≡ load_answer (row1_or W (refused f)) → (marks' : List ℕ) → marks' ≡ replicate (length marks) 0
      → Answered memory marks (table_outcome W table sheet) r memory marks'
  answered_row_1 f e r q marks' m =
      let is = row_1_sheet f e in
      (q ∙ ap load_answer is, (kept W f memory ∙ ap (memory_after memory) is, m ∙ cleared W f marks ∙ ap (marks_after marks) is))

  module _ (fit : row1 W ≡ false) (clean : List ℕ) (c : clean ≡ replicate (length marks) 0) where
    -- the marks that were cleared are as many as the cells
    pub clean_long : length clean ≡ length memory
    clean_long = ap length c ∙ length-replicate (length marks) 0 ∙ (allowed_inv W fit).0

    pub clean_is : clean ≡ replicate (length clean) 0
    clean_is = c ∙ ap (λ (k : ℕ). replicate k 0) (sym (ap length c ∙ length-replicate (length marks) 0))

    -- what the check told of them is told of the window
    pub told_window : (x : Result Accepted Refusal) (used : List ℕ) → Told (placed base (blank (length clean)) (sheet_plan (symbols_in table) sheet)) x used → Told sheet_alone x used
    told_window x used t = subst (λ (k : ℕ). Told (placed base (blank k) (sheet_plan (symbols_in table) sheet)) x used) clean_long t

    module _ (used : List ℕ) (same : length used ≡ length clean) where
      used_long : length used ≡ length marks
      used_long = same ∙ ap length c ∙ length-replicate (length marks) 0

      -- a row of the sheet
      pub answered_row : (f : Refusal) → Told sheet_alone (Err f) used → (r : Loaded) → r ≡ load_answer (row1_or (window_of base memory used) (refused f))
          → (marks' : List ℕ) → marks' ≡ replicate (length used) 0 → Answered memory marks (table_outcome W table sheet) r memory marks'
      answered_row f t r q marks' m =
          let passed : row1 (window_of base memory used) ≡ false = same_row used used_long ∙ fit in
          let plain : load_answer (row1_or (window_of base memory used) (refused f)) ≡ load_answer (refused f) = rw passed in
          answered_refused memory marks (table_outcome W table sheet) f (sym (alone fit) ∙ told_no sheet_alone f used t) r (q ∙ plain) marks'
          (m ∙ ap (λ (k : ℕ). replicate k 0) used_long)

      -- none
      pub answered_none : (a : Accepted) → Told sheet_alone (Ok a) used → (r : Loaded) → r ≡ load_answer (accepted (summary a.records a.cells) []) → (memory' : List ℕ)
          → memory' ≡ memory_after memory sheet_alone → Answered memory marks (table_outcome W table sheet) r memory' used
      answered_none a t r q memory' m =
          subst (λ (o : Outcome). Answered memory marks o r memory' used) (alone fit) (answered_accepted memory marks sheet_alone a used t r q memory' m)

-- ---- the block

module _ (base : ℕ) (memory marks text sheet : List ℕ) where
  pub block_refused : (f : Refusal) → Err f ≡ block_of text → row1_or (window_of base memory marks) (refused f) ≡ sheet_outcome (window_of base memory marks) text sheet
  unfolding sheet_outcome
  block_refused f e = ap (with_block (window_of base memory marks) text sheet) e

  pub block_placed : (t : Table) → Ok t ≡ block_of text → table_outcome (window_of base memory marks) (stretch text t.from t.to) sheet ≡ sheet_outcome (window_of base memory marks) text sheet
  unfolding sheet_outcome
  block_placed t e = ap (with_block (window_of base memory marks) text sheet) e

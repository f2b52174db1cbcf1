-- The image of an accepted sheet is what its pairs say.
use mathlib.Core.Path.{◌≡◌, refl, sym, ap, ◌∙◌}
use mathlib.Core.Logic.{◌↔◌}
use Prim.Native.Nat.{ℕ, suc, ◌+◌}
use native.Mathlib.Omega.{arith}
use mathlib.Core.List.{List, [], ◌∷◌}
use lib.ListN.{length}
use Rattle.std.specs.Prelude.{Result, Ok, Err}
use Rattle.std.specs.Result.{result_unwrap_or}
use Rattle.lists.proofs.TestLaws.{by_test}
use Rattle.window.specs.declared.Refusal.{Refusal}
use Rattle.window.specs.Windows.{Window, row1}
use Rattle.window.specs.Images.{Image, blank}
use Rattle.window.specs.Cells.{Run, cells, Addressed, total}
use Rattle.window.specs.Plans.{Summary, Plan, placed}
use Rattle.window.specs.Plans.Plan.{stop, done}
use Rattle.window.specs.Plans.Outcome.{refused, accepted}
use Rattle.window.proofs.CellLaws.{In}
use Rattle.window.proofs.PlanLaws.{stores, final, Accepted, placed_inv}
use Rattle.window.proofs.FillLaws.{left_by}
use Rattle.window.proofs.RoomLaws.{length_blank, fill_length}
use Rattle.window.proofs.ViewLaws.{marked_in, in_marked}
use Rattle.symbol_table.specs.Symbols.{Symbol}
use Rattle.operands.specs.declared.ExpressionError.{ExpressionError}
use Rattle.operands.specs.Values.{worth_of}
use Rattle.symbols.specs.declared.Table.{Table}
use Rattle.symbols.specs.Blocks.{block_of}
use Rattle.sheet_fields.specs.Fields.{Field, fields, is_field}
use Rattle.sheets.specs.Sheets.{summary, pair_plan, planned, sheet_plan, table_outcome, with_block, sheet_outcome}
use Rattle.sheets.specs.Facts.{said, symbols_of, SheetIsLoaded}

-- a plan that ends well stores these runs, and has this summary
record Ends (p : Plan) (s : Summary) (rs : List Run) (sum : Summary) : Type 0 where
  pub runs : stores p ≡ rs
  pub sums : s ≡ sum

-- a plan that stops does not end well
no_stop : (f : Refusal) (s : Summary) → stop f ≡ done s → ⊥
no_stop f s e = let z : ◌≡◌ {A = ℕ} 0 1 = cc in omega arith

-- a refused outcome is no accepted one
no_refusal : (f : Refusal) (s : Summary) (img : Image) → refused f ≡ accepted s img → ⊥
no_refusal f s img e = let z : ◌≡◌ {A = ℕ} 0 1 = cc in omega arith

-- a pair that is not refused stores what it says
pair_said : (k : ℕ) (f : Field) (w : Result ℕ ExpressionError) (g : Field) (rest : Plan) (s : Summary) (rs : List Run) (sum : Summary)
    → final (pair_plan k f w g rest) ≡ done s → (final rest ≡ done s → Ends rest s rs sum)
    → Ends (pair_plan k f w g rest) s (record { addr = result_unwrap_or w 0; bytes = g.bytes } ∷ rs) sum
unfolding pair_plan
pair_said k f (Err e) g rest s rs sum q h =
    by_test (is_field 1 f) (λ a. absurd (no_stop _ s (rw a at q))) (λ a. absurd (no_stop _ s (rw a at q)))
pair_said k f (Ok v) g rest s rs sum q h =
    by_test (is_field 1 f)
    (λ a. by_test (is_field 2 g)
    (λ c. let e : Ends rest s rs sum = h (rw (a, c) at q) in
    record { runs = rw (a, c) (ap {B = List Run} (λ (r : List Run). record { addr = v; bytes = g.bytes } ∷ r) e.runs); sums = e.sums })
    (λ c. absurd (no_stop _ s (rw (a, c) at q))))
    (λ a. absurd (no_stop _ s (rw a at q)))

-- equal counts give equal summaries
counts : (n m c d : ℕ) → n ≡ m → c ≡ d → summary n c ≡ summary m d
counts n m c d p q = rw (p, q) refl

-- fields that are not refused store what they say, and are counted
fields_said : (S : List Symbol) (k n c : ℕ) (fs : List Field) (s : Summary) → final (planned S k n c fs) ≡ done s
    → Ends (planned S k n c fs) s (said S fs) (summary (n + length (said S fs)) (c + total (said S fs)))
fields_said S k n c [] s q =
    let e : s ≡ summary n c = cc in
    record { runs = refl; sums = e ∙ counts n (n + 0) c (c + 0) (omega arith) (omega arith) }
fields_said S k n c (f ∷ []) s q = absurd (no_stop _ s q)
fields_said S k n c (f ∷ g ∷ fs) s q =
    pair_said k f (worth_of S f.bytes) g (planned S (suc (suc k)) (suc n) (c + length g.bytes) fs) s (said S fs) _ q
    (λ e. let r = fields_said S (suc (suc k)) (suc n) (c + length g.bytes) fs s e in
    record { runs = r.runs; sums = r.sums ∙ counts _ _ _ _ (omega arith) (omega arith) })

module _ (W : Window) (text sheet : List ℕ) (s : Summary) (img : Image) where
  -- an accepted sheet stands behind a good block, and its plan is placed
  behind : (b : Result Table Refusal) → with_block W text sheet b ≡ accepted s img
      → placed W.base (blank (length W.memory)) (sheet_plan (symbols_of text b) sheet) ≡ accepted s img
  unfolding table_outcome
  behind (Err f) q =
      by_test (row1 W) (λ t. absurd (no_refusal _ s img (rw t at q))) (λ t. absurd (no_refusal _ s img (rw t at q)))
  behind (Ok t) q = by_test (row1 W) (λ t. absurd (no_refusal _ s img (rw t at q))) (λ t. rw t at q)

  -- what such a plan leaves
  left : (S : List Symbol) → placed W.base (blank (length W.memory)) (sheet_plan S sheet) ≡ accepted s img
      → (length W.memory ≡ length img) × (s ≡ summary (length (said S (fields sheet))) (total (said S (fields sheet)))) × ((A B : ℕ) → In A B (cells W.base img) ↔ Addressed A B (said S (fields sheet)))
  unfolding sheet_plan
  left S q =
      let n : ℕ = length W.memory in
      let p : Plan = planned S 0 0 0 (fields sheet) in
      let a : Accepted p W.base (blank n) s img = placed_inv p W.base (blank n) s img q in
      let e = fields_said S 0 0 0 (fields sheet) s a.ends in (
        sym (ap length a.left ∙ fill_length W.base (blank n) (stores p) a.room ∙ length_blank n),
        e.sums ∙ counts _ _ _ _ (omega arith) (omega arith),
        λ A B. rw (a.left, sym e.runs) (left_by A B W.base n (stores p) a.room),
      )

-- an accepted sheet marks the cells that its pairs say, no others, and counts them
pub sheet_is_loaded : SheetIsLoaded
unfolding sheet_outcome
sheet_is_loaded W text sheet s img q =
    let l = left W text sheet s img (symbols_of text (block_of text)) (behind W text sheet s img (block_of text) q) in
    record {
      cells = λ A B. rw q (
        λ k. (l.2 A B).0 (marked_in W.base W.memory img A B l.0 k),
        λ k. in_marked W.base W.memory img A B l.0 ((l.2 A B).1 k),
      );
      header = rw (q, l.1) refl;
      entry = rw (q, l.1) refl;
      records = rw (q, l.1) refl;
      counted = rw (q, l.1) refl;
    }

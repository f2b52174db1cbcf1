-- The whole load: row 1, and what the two passes come to.
use mathlib.Core.Path.{◌≡◌, refl, sym, ap, ◌∙◌}
use Prim.Native.Nat.{ℕ, ◌^◌, ◌≤◌}
use native.Mathlib.Omega.{arith}
use mathlib.Core.Bool.{Bool, true, false, not, not-not}
use mathlib.Core.List.{List}
use lib.ListN.{length, replicate, length-replicate}
use Rattle.window.specs.declared.Refusal.{Refusal}
use Rattle.window.specs.declared.Header.{Header}
use Rattle.window.specs.declared.Loaded.{Loaded}
use Rattle.window.specs.Windows.{window_of}
use Rattle.window.specs.Images.{Image, blank}
use Rattle.window.specs.Plans.{Summary, refusal, Plan, Outcome, placed, Accepts}
use Rattle.window.specs.Plans.Outcome.{refused, accepted}
use Rattle.window.proofs.PlanLaws.{Accepted as PlanAccepted, placed_inv}
use Rattle.marks.specs.declared.Form.{Form}
use Rattle.marks.specs.declared.Form.TheVariants.{Bytes}
use Rattle.marks.specs.Forms.{stored, marks_in, marks_left, counted, row1_in}
use Rattle.marks.proofs.FormLaws.{stored_clear, mark_bytes_few}
use Rattle.marks.proofs.RowLaws.{allowed_in}
use Rattle.text.specs.Lines.{lines}
use Rattle.text.specs.Finds.{first_header}
use Rattle.text.specs.Formats.{plan}
use Rattle.text.specs.Load.{load, load_answer, memory_after, marks_after}
use Rattle.forms.specs.Calls.{load_in, answer_in}
use Rattle.forms.proofs.CallLaws.{load_bytes, answer_bytes, marks_bytes}
use Rattle.window.specs.Headers.{header_of}
use Rattle.text.proofs.FormatLaws.{content}
use Rattle.formats.specs.declared.Format.{Format}
use Rattle.formats.specs.Choices.{format_of}
use Rattle.formats.proofs.ChoiceLaws.{limits_of, lawful_of}
use Rattle.std.specs.Prelude.{Result, Ok, Err}
use Rattle.checking.specs.declared.Accepted.{Accepted}
use Rattle.checking.specs.Answers.{checked_as}

-- the outcome of a load, by what its caller lends
abbrev pub outcome : Format → Form → ℕ → List ℕ → List ℕ → List ℕ → Outcome
outcome format form base memory marks text = load_in form (window_of base memory marks) (plan (format_of format) text)

-- what a load with this outcome answers and leaves
abbrev pub Answered : Form → List ℕ → List ℕ → Outcome → Loaded → List ℕ → List ℕ → Type 0
Answered form memory marks o r memory' marks' = record {
  answer : r ≡ answer_in form o;
  memory : memory' ≡ memory_after memory o;
  marks : marks' ≡ marks_left form marks o;
}

-- a refusal: memory as it was, and all marks cleared
pub answered_refused : (form : Form) (memory marks : List ℕ) (o : Outcome) (f : Refusal) → o ≡ refused f → (r : Loaded) → r ≡ load_answer (refused f)
    → (marks' : List ℕ) → marks' ≡ replicate (length marks) 0 → Answered form memory marks o r memory marks'
answered_refused form memory marks o f e r q marks' m = rw e (record { answer = q; memory = refl; marks = m })

-- a refusal of the check is the outcome's
told_no : (o : Outcome) (f : Refusal) → Err f ≡ checked_as o → o ≡ refused f
told_no (refused g) f q = ap refused (same (sym q))
  where
    same : {x y : Refusal} → ◌≡◌ {A = Result Accepted Refusal} (Err x) (Err y) → x ≡ y
    same e = cc
told_no (accepted s img) f q = absurd (let z : ◌≡◌ {A = ℕ} 0 1 = cc in omega arith)

-- what an accepted outcome says
record Yes (o : Outcome) (x : Accepted) : Type 0 where
  sum : Summary
  img : Image
  is : o ≡ accepted sum img
  entry : x.entry ≡ sum.entry
  records : x.records ≡ sum.records
  cells : x.cells ≡ sum.cells

-- an accepted text's numbers are the outcome's
told_yes : (o : Outcome) (x : Accepted) → Ok x ≡ checked_as o → Yes o x
told_yes (refused g) x q = absurd (let z : ◌≡◌ {A = ℕ} 0 1 = cc in omega arith)
told_yes (accepted s img) x q =
    let same : x ≡ record { entry = s.entry; records = s.records; cells = s.cells } = cc in
    record {
      sum = s;
      img = img;
      is = refl;
      entry = ap (λ (y : Accepted). y.entry) same;
      records = ap (λ (y : Accepted). y.records) same;
      cells = ap (λ (y : Accepted). y.cells) same;
    }

-- of marks only their number is seen
marks_number : (form : Form) (marks cleared : List ℕ) (o : Outcome) → length cleared ≡ length marks
    → marks_left form cleared o ≡ marks_left form marks o
marks_number form marks cleared (refused f) e = ap (λ (n : ℕ). replicate n 0) e
marks_number form marks cleared (accepted s img) e = refl

module _ (format : Format) (form : Form) (base : ℕ) (memory marks text : List ℕ) {allowed : Bool} (a : allowed ≡ not (row1_in form (window_of base memory marks))) where
  -- row 1
  pub row_1 : allowed ≡ false → outcome format form base memory marks text ≡ refused (refusal 1 0 0)
  row_1 h = rw (sym (not-not (row1_in form (window_of base memory marks))) ∙ ap not (sym a ∙ h))

  module _ (h : allowed ≡ true) (cleared : List ℕ) (clear : cleared ≡ replicate (length marks) 0) where
    -- row 1 does not apply
    none : row1_in form (window_of base memory marks) ≡ false
    none = sym (not-not (row1_in form (window_of base memory marks))) ∙ ap not (sym a ∙ h)

    -- cleared marks say that no cell was addressed
    pub cleared_is : cleared ≡ stored form (replicate (length memory) 0)
    cleared_is = clear ∙ ap (λ (n : ℕ). replicate n 0) (allowed_in form (window_of base memory marks) none).0 ∙ stored_clear form (length memory)

    -- there are not more mark bytes than addresses
    pub marks_few : length marks ≤ 2 ^ 32
    marks_few =
        let k = allowed_in form (window_of base memory marks) none in omega (arith, k.0, k.1, mark_bytes_few form (length memory))

    -- what the text comes to behind row 1
    abbrev whole : Outcome
    whole = placed base (blank (length memory)) (plan (format_of format) text)

    -- the load comes to the same
    is_placed : outcome format form base memory marks text ≡ whole
    is_placed = rw none

    -- the marks that the check leaves are the load's
    marks_are : (marks' : List ℕ) → marks' ≡ marks_left form cleared whole → marks' ≡ marks_left form marks (outcome format form base memory marks text)
    marks_are marks' m =
        m ∙ marks_number form marks cleared whole (ap length clear ∙ length-replicate (length marks) 0) ∙ ap (marks_left form marks) (sym is_placed)

    -- what the check has accepted can be stored
    pub accepts : (x : Accepted) → Ok x ≡ checked_as whole → Accepts whole
    accepts x q = let y : Yes whole x = told_yes whole x q in record { sum = y.sum; img = y.img; is = y.is }

    -- a refusal of the check
    pub checked_refused : (f : Refusal) (r : Loaded) (marks' : List ℕ) → Err f ≡ checked_as whole → r ≡ load_answer (refused f)
        → marks' ≡ marks_left form cleared whole
        → Answered form memory marks (outcome format form base memory marks text) r memory marks'
    checked_refused f r marks' q e m =
        let is : outcome format form base memory marks text ≡ refused f = is_placed ∙ told_no whole f q in
        record { answer = e ∙ ap (answer_in form) (sym is); memory = sym (ap (memory_after memory) is); marks = marks_are marks' m }

    -- an accepted text
    pub checked_accepted : (x : Accepted) (marks' memory' : List ℕ) (head : Header) → Ok x ≡ checked_as whole
        → marks' ≡ marks_left form cleared whole
        → memory' ≡ memory_after memory whole → head ≡ header_of (first_header (format_of format).part (lines (format_of format).gap 0 text))
        → Answered form memory marks (outcome format form base memory marks text)
        (record { refusal = refusal 0 0 0; header = head; entry = x.entry; records = x.records; cells = counted form marks' x.cells }) memory' marks'
    checked_accepted x marks' memory' head q m s d =
        let y : Yes whole x = told_yes whole x q in
        let p : PlanAccepted (plan (format_of format) text) base (blank (length memory)) y.sum y.img
        = placed_inv (plan (format_of format) text) base (blank (length memory)) y.sum y.img y.is in
        let hd : head ≡ header_of y.sum.header
        = d ∙ ap header_of (sym (content (format_of format) (limits_of format) (lawful_of format) text y.sum p.ends).at_first) in
        let mk : marks' ≡ marks_in form y.img = m ∙ ap (marks_left form cleared) y.is in
        record {
          answer = (λ i. record { refusal = refusal 0 0 0; header = hd i; entry = y.entry i; records = y.records i; cells = counted form (mk i) (y.cells i) })
              ∙ ap (answer_in form) (sym (is_placed ∙ y.is));
          memory = s ∙ ap (memory_after memory) (sym is_placed);
          marks = marks_are marks' m;
        }

-- with a mark byte a cell the answer, memory and marks are those of `load`
pub in_bytes : (base : ℕ) (memory marks : List ℕ) (p : Plan) (r : Loaded) (memory' marks' : List ℕ)
    → Answered Bytes memory marks (load_in Bytes (window_of base memory marks) p) r memory' marks'
    → let o = load (window_of base memory marks) p in (r ≡ load_answer o) × ((memory' ≡ memory_after memory o) × (marks' ≡ marks_after marks o))
in_bytes base memory marks p r memory' marks' a =
    let o : Outcome = load (window_of base memory marks) p in
    let e : load_in Bytes (window_of base memory marks) p ≡ o = load_bytes (window_of base memory marks) p in
    (a.answer ∙ ap (answer_in Bytes) e ∙ answer_bytes o, (a.memory ∙ ap (memory_after memory) e, a.marks ∙ ap (marks_left Bytes marks) e ∙ marks_bytes marks o))

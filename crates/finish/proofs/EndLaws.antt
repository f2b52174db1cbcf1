-- The end of a load in parts: one law for each answer of `finish`.
use mathlib.Core.Path.{◌≡◌, sym, ap, ◌∙◌, subst}
use native.Mathlib.Omega.{arith}
use Prim.Native.Nat.{ℕ, ◌<◌}
use mathlib.Core.Bool.{true, false}
use mathlib.Core.List.{List, [], ◌++◌, append-nil}
use lib.ListN.{length, take}
use lib.Seq.{take_all}
use lib.Dec.{eqb}
use mathlib.Core.Option.{Option, none, some}
use borrow.Author.Tests.{eq-eqb, eqb-false}
use Rattle.lists.proofs.TestLaws.{by_test}
use Rattle.window.specs.Entries.{Entry}
use Rattle.window.specs.declared.Loaded.{Loaded}
use Rattle.window.specs.declared.Refusal.{Refusal}
use Rattle.window.specs.Windows.{Window, window_of}
use Rattle.window.specs.Plans.{refusal}
use Rattle.marks.specs.declared.Form.{Form}
use Rattle.marks.specs.Forms.{plain, counted, row1_in}
use Rattle.marks.proofs.RowLaws.{allowed_in}
use Rattle.parts.specs.Parts.{Going, Stage, stage, stopped, Turn, line_turn, after_turn, closed, conclude, row1_later, end_in, said_by, answered}
use Rattle.parts.specs.Forms.{in_form, row1_later_in, end_as, said_in, answered_in}
use Rattle.parts.specs.Parts.Status.{going}
use Rattle.parts.specs.Parts.Turn.{halt, next}
use Rattle.parts.specs.Stretches.{fresh}
use Rattle.parts.proofs.GrowthLaws.{TurnKeeps, line_keeps}
use Rattle.tally.specs.declared.Tally.{Tally}
use Rattle.tally.specs.Tallies.{known_of}
use Rattle.session.specs.declared.Session.{Session}
use Rattle.session.specs.Sessions.{going_of, status_of}
use Rattle.take_part.proofs.AllowedLaws.{held_short, Allowed, same_length}
use Rattle.session.proofs.FormLaws.{stopped_in}

module _ (s : Session) (base : ℕ) (memory marks : List ℕ) where
  abbrev form : Form
  form = s.form

  abbrev W : Window
  W = window_of base memory marks

  -- row 1
  pub end_barred : s.refusal.reason ≡ 0 → row1_later_in form W (going_of s) ≡ true → end_as form (status_of s) W ≡ stopped (refusal 1 0 0) memory marks
  unfolding row1_later_in
  end_barred z q =
      by_test (row1_in form W) (λ t. rw (eq-eqb s.refusal.reason 0 z, t))
      (λ t. let later : row1_later (plain form W) (going_of s) ≡ true = rw t at q in
      rw (eq-eqb s.refusal.reason 0 z, t, later) (stopped_in form (length memory) memory marks (allowed_in form W t).0 (refusal 1 0 0)))

  -- where row 1 of the form does not apply, the end of the flags is stored
  pub end_read : s.refusal.reason ≡ 0 → row1_in form W ≡ false → end_as form (status_of s) W ≡ in_form form (end_in (status_of s) (plain form W))
  end_read z a = rw (eq-eqb s.refusal.reason 0 z, a)

  -- an end that is not refused had an allowed window
  pub ended_fits : (answered (end_as form (status_of s) W).status).refusal.reason ≡ 0 → row1_in form W ≡ false
  ended_fits h =
      by_test (eqb s.refusal.reason 0)
      (λ e. by_test (row1_in form W) (λ t. absurd (let y : ◌≡◌ {A = ℕ} 1 0 = rw (e, t) at h in omega arith)) (λ t. t))
      (λ e. absurd (eqb-false s.refusal.reason 0 e (rw e at h)))

-- ---- the count

-- an answer without a refusal, with the cells that the marks give
pub recounts : (form : Form) (r : Session) (marks : List ℕ) (l : Loaded) → l ≡ answered (status_of r) → l.refusal.reason ≡ 0
    → record { refusal = l.refusal; header = l.header; entry = l.entry; records = l.records; cells = counted form marks l.cells }
    ≡ answered_in form (status_of r) marks
recounts form r marks l e h =
    by_test (eqb r.refusal.reason 0)
    (λ t. rw t (went (going_of r).known.entry (rw t at e)))
    (λ t. absurd (eqb-false r.refusal.reason 0 t (sym (ap (λ (x : Loaded). x.refusal.reason) (rw t at e)) ∙ h)))
  where
    went : (o : Option Entry) → l ≡ said_by (going_of r) o
        → record { refusal = l.refusal; header = l.header; entry = l.entry; records = l.records; cells = counted form marks l.cells }
        ≡ said_in form marks (going_of r) o
    went none q = absurd (let y : ◌≡◌ {A = ℕ} 14 0 = sym (ap (λ (x : Loaded). x.refusal.reason) q) ∙ h in omega arith)
    went (some x) q = rw q

-- a refused answer counts nothing
pub no_count : (form : Form) (r : Session) (marks : List ℕ) (l : Loaded) → l ≡ answered (status_of r) → (l.refusal.reason ≡ 0 → ⊥)
    → l ≡ answered_in form (status_of r) marks
no_count form r marks l e h =
    by_test (eqb r.refusal.reason 0) (λ t. rw t (went (going_of r).known.entry (rw t at e))) (λ t. rw t (rw t at e))
  where
    went : (o : Option Entry) → l ≡ said_by (going_of r) o → l ≡ said_in form marks (going_of r) o
    went none q = q
    went (some x) q = absurd (h (ap (λ (y : Loaded). y.refusal.reason) q))

-- the record that is not complete is read
module _ (p : Allowed) (goes : p.session.refusal.reason ≡ 0) where
  abbrev s : Session
  s = p.session

  abbrev base : ℕ
  base = p.base

  abbrev memory : List ℕ
  memory = p.memory

  abbrev marks : List ℕ
  marks = p.marks

  abbrev g : Going
  g = going_of s

  -- the stage that the definitions give
  abbrev pub ended : Stage
  ended = end_in (status_of s) (window_of base memory marks)

  -- the characters that are held, with none behind them, and their turn
  abbrev chars : List ℕ
  chars = take 515 (g.held ++ [])

  abbrev turn : Turn
  turn = line_turn base s.place chars memory marks (known_of s.tally s.header)

  held_are : g.held ≡ chars
  held_are = sym (ap (take 515) (append-nil g.held) ∙ take_all 515 g.held (held_short s))

  turned : (t : Turn) → turn ≡ t → ended ≡ conclude (after_turn g memory marks t)
  turned t h =
      going_end
      ∙ ap (λ (x : List ℕ). conclude (after_turn g memory marks (line_turn base s.place x memory marks g.known))) held_are
      ∙ ap (λ (x : Turn). conclude (after_turn g memory marks x)) h
    where
      going_end : ended ≡ conclude (closed base g memory marks)
      going_end = rw (eq-eqb s.refusal.reason 0 goes, p.allowed)

  -- the last record is refused, for a reason
  module _ (f : Refusal) (h : turn ≡ halt f) where
    pub last_halts : ended ≡ stopped f memory marks
    last_halts = turned (halt f) h

    pub last_reason : 0 < f.reason
    last_reason = subst (TurnKeeps (length chars) g.known memory marks) h (line_keeps g.known memory marks (same_length p) base s.place chars)

  -- it is taken
  module _ (y : Tally) (header memory' marks' : List ℕ) (h : turn ≡ next (known_of y header) memory' marks') where
    -- row 14
    pub last_open : y.ended ≡ false → ended ≡ stopped (refusal 14 y.state.number s.total) memory' marks'
    last_open o = turned (next (known_of y header) memory' marks') h ∙ rw o

    -- accepted
    pub last_ended : y.ended ≡ true → ended ≡ stage (going (fresh s.size s.total (known_of y header))) memory' marks'
    last_ended o = turned (next (known_of y header) memory' marks') h ∙ rw o

-- One line more: the buffers keep their lengths, and the numbers grow by no more than its characters.
use mathlib.Core.Path.{◌≡◌, refl, sym, ap, ◌∙◌, subst}
use Prim.Native.Nat.{ℕ, suc, ◌+◌, ◌-◌, ◌≤◌, ◌<◌}
use native.Mathlib.Omega.{arith}
use mathlib.Core.Bool.{false}
use mathlib.Core.List.{List, [], ◌∷◌}
use mathlib.Core.Logic.{⊎_elim}
use mathlib.Core.Option.{Option, none, some}
use lib.Dec.{eqb, lit<}
use lib.ListN.{length, replicate, length-replicate}
use borrow.Author.Tests.{eqb-true, eqb-false}
use Rattle.lists.proofs.TestLaws.{by_test}
use Rattle.window.specs.Entries.{Entry}
use Rattle.window.specs.Plans.{row12}
use Rattle.window.specs.Marks.{claim_row, claimed}
use Rattle.window.proofs.MarkLaws.{granted_inside, over_window}
use Rattle.text.specs.Scan.{State, Step}
use Rattle.text.specs.Scan.Step.{refuse, skip, title, put, finish}
use Rattle.text.proofs.FormatLaws.{IsRefusal, StepOk}
use Rattle.srec.specs.Formats.{srec}
use Rattle.srec.proofs.LimitLaws.{limits}
use Rattle.srec.proofs.SrecFormatLaws.{lawful}
use Rattle.srec_judge.proofs.JudgeLaws.{counting}
use Rattle.parts.specs.Parts.{Known, Turn, stored, step_turn, record_turn, line_turn}
use Rattle.parts.specs.Parts.Turn.{halt, next}

-- ---- one record

-- a refusal has a reason, and data bytes are no more than the characters
abbrev StepGrows : List ℕ → Step → Type 0
StepGrows chars (refuse f) = 0 < f.reason
StepGrows chars skip = Unit {0}
StepGrows chars (title h) = Unit {0}
StepGrows chars (put a ds) = length ds ≤ length chars
StepGrows chars (finish e) = Unit {0}

-- so it is for every record
step_grows : (s : State) (chars : List ℕ) → StepGrows chars (srec.step s chars)
step_grows s chars = go (srec.step s chars) refl
  where
    go : (x : Step) → srec.step s chars ≡ x → StepGrows chars x
    go (refuse f) e = (subst (StepOk limits s) e (lawful.bounded s chars)).0
    go skip e = tt
    go (title h) e = tt
    go (put a ds) e =
        ⊎_elim {C = length ds ≤ length chars} (λ r. absurd (subst IsRefusal e r)) (λ q. counting.roomy chars a ds (sym q ∙ e)) (lawful.says s chars)
    go (finish e) q = tt

-- ---- a turn

-- buffers keep their lengths, and the numbers grow by at most the n characters of the line
pub record Kept (n : ℕ) (k k' : Known) (memory memory' marks marks' : List ℕ) : Type 0 where
  pub memory_long : length memory' ≡ length memory
  pub marks_long : length marks' ≡ length marks
  pub number : k'.state.number ≤ k.state.number + n
  pub records : k'.state.records ≤ k.state.records + n
  pub cells : k'.state.cells ≤ k.state.cells + n

-- a refusal has a reason
abbrev pub TurnKeeps : ℕ → Known → List ℕ → List ℕ → Turn → Type 0
TurnKeeps n k memory marks (halt f) = 0 < f.reason
TurnKeeps n k memory marks (next k' memory' marks') = Kept n k k' memory memory' marks marks'

module _ (k : Known) (memory marks : List ℕ) (same : length memory ≡ length marks) (base place : ℕ) where
  -- a record that has room, or is refused
  stored_keeps : (n : ℕ) (u : State) (a : ℕ) (ds : List ℕ) → u.number ≤ k.state.number + n → u.records ≤ k.state.records + n
      → u.cells ≤ k.state.cells + n → (m : ℕ) → TurnKeeps n k memory marks (stored base m place memory marks u a ds)
  unfolding stored claimed
  stored_keeps n u a ds x y z m =
      by_test (eqb (claim_row base marks a (length ds)) 0)
      (λ t. rw t (let w : row12 base (length marks) a (length ds) ≡ false = granted_inside base marks a (length ds) (eqb-true _ 0 t) in record {
        memory_long = over_window base a memory ds (ap (λ (j : ℕ). row12 base j a (length ds)) same ∙ w);
        marks_long = over_window base a marks (replicate (length ds) 1) (rw length-replicate w);
        number = x;
        records = y;
        cells = z;
      }))
      (λ t. rw t (let z = eqb-false (claim_row base marks a (length ds)) 0 t in omega (arith, z)))

  -- what a step comes to
  step_keeps : (n : ℕ) → 0 < n → (x : Step) → ((a : ℕ) (ds : List ℕ) → x ≡ put a ds → length ds ≤ n) → ((f : _) → x ≡ refuse f → 0 < f.reason)
      → TurnKeeps n k memory marks (step_turn base place memory marks k.state x)
  step_keeps n long (refuse f) h r = r f refl
  step_keeps n long skip h r = record { memory_long = refl; marks_long = refl; number = omega arith; records = omega arith; cells = omega arith }
  step_keeps n long (title t) h r = record { memory_long = refl; marks_long = refl; number = omega arith; records = omega arith; cells = omega arith }
  step_keeps n long (put a ds) h r = stored_keeps n _ a ds (omega arith) (omega arith) (omega (arith, h a ds refl)) (suc k.state.number)
  step_keeps n long (finish e) h r = record { memory_long = refl; marks_long = refl; number = omega arith; records = omega arith; cells = omega arith }

  -- what a line comes to
  pub line_keeps : (chars : List ℕ) → TurnKeeps (length chars) k memory marks (line_turn base place chars memory marks k)
  line_keeps [] = record { memory_long = refl; marks_long = refl; number = omega arith; records = omega arith; cells = omega arith }
  line_keeps (c ∷ cs) = go k.entry
    where
      go : (e : Option Entry) → TurnKeeps (length (c ∷ cs)) k memory marks (record_turn base place (c ∷ cs) memory marks k.state e)
      go (some e) = lit< tt
      go none =
          let g = step_grows k.state (c ∷ cs) in
          step_keeps (length (c ∷ cs)) (omega arith) (srec.step k.state (c ∷ cs)) (λ a ds q. subst (StepGrows (c ∷ cs)) q g)
          (λ f q. subst (StepGrows (c ∷ cs)) q g)

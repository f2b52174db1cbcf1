-- A load in parts keeps flags that are 0 or 1, as many as the window has cells.
use mathlib.Core.Path.{◌≡◌, refl, sym, ap, ◌∙◌}
use Prim.Native.Nat.{ℕ, suc}
use native.Mathlib.Omega.{arith}
use mathlib.Core.Bool.{false}
use mathlib.Core.List.{List, [], ◌∷◌}
use mathlib.Core.Option.{Option, none, some}
use lib.Dec.{eqb}
use lib.ListN.{length, replicate, length-replicate}
use borrow.Author.Tests.{eqb-true}
use Rattle.lists.proofs.TestLaws.{by_test}
use Rattle.window.specs.Entries.{Entry}
use Rattle.window.specs.Windows.{Window, window_of, row1}
use Rattle.window.specs.Plans.{row12}
use Rattle.window.specs.Marks.{claim_row}
use Rattle.window.proofs.RowLaws.{allowed_inv}
use Rattle.window.proofs.MarkLaws.{granted_inside, over_window, claimed_length}
use Rattle.bits.proofs.PackLaws.{Binary, binary_replicate}
use Rattle.claims.proofs.GrantLaws.{claimed_binary}
use Rattle.text.specs.Scan.{State, Step}
use Rattle.text.specs.Scan.Step.{refuse, skip, title, put, finish}
use Rattle.srec.specs.Lines.{is_end}
use Rattle.srec.specs.Formats.{srec}
use Rattle.parts.specs.Parts.{Known, Going, Status, Stage, stage, Turn, stored, step_turn, record_turn, line_turn, after_turn, closed, counted, received, fed, begun, row1_later, row20, feed, lastly, concluded, conclude, end}
use Rattle.parts.specs.Parts.Status.{going, halted}
use Rattle.parts.specs.Parts.Turn.{halt, next}

-- memory and flags of n cells
pub record Flat (n : ℕ) (memory marks : List ℕ) : Type 0 where
  pub memory_long : length memory ≡ n
  pub marks_long : length marks ≡ n
  pub binary : Binary marks

abbrev pub FlatAt : ℕ → Stage → Type 0
FlatAt n w = Flat n w.memory w.marks

abbrev TurnFlat : ℕ → Turn → Type 0
TurnFlat n (halt f) = Unit {0}
TurnFlat n (next k memory marks) = Flat n memory marks

-- cleared flags are
cleared : (n : ℕ) (memory marks : List ℕ) → length memory ≡ n → length marks ≡ n → Flat n memory (replicate (length marks) 0)
cleared n memory marks p q =
    record { memory_long = p; marks_long = length-replicate (length marks) 0 ∙ q; binary = binary_replicate (length marks) 0 (omega arith) }

module _ (n : ℕ) (memory marks : List ℕ) (w : Flat n memory marks) (base place : ℕ) where
  -- a record that has room, or is refused
  stored_flat : (m : ℕ) (s : State) (a : ℕ) (ds : List ℕ) → TurnFlat n (stored base m place memory marks s a ds)
  unfolding stored
  stored_flat m s a ds =
      by_test (eqb (claim_row base marks a (length ds)) 0)
      (λ t. rw t (let i : row12 base (length marks) a (length ds) ≡ false = granted_inside base marks a (length ds) (eqb-true _ 0 t) in record {
        memory_long = over_window base a memory ds (ap (λ (j : ℕ). row12 base j a (length ds)) (w.memory_long ∙ sym w.marks_long) ∙ i) ∙ w.memory_long;
        marks_long = claimed_length base marks a (length ds) ∙ w.marks_long;
        binary = claimed_binary base marks a (length ds) w.binary;
      }))
      (λ t. rw t tt)

  step_flat : (s : State) (x : Step) → TurnFlat n (step_turn base place memory marks s x)
  step_flat s (refuse f) = tt
  step_flat s skip = w
  step_flat s (title h) = w
  step_flat s (put a ds) = stored_flat (suc s.number) _ a ds
  step_flat s (finish e) = w

  line_flat : (chars : List ℕ) (k : Known) → TurnFlat n (line_turn base place chars memory marks k)
  line_flat [] k = w
  line_flat (c ∷ cs) k = go k.entry
    where
      go : (e : Option Entry) → TurnFlat n (record_turn base place (c ∷ cs) memory marks k.state e)
      go none = step_flat k.state (srec.step k.state (c ∷ cs))
      go (some e) = tt

module _ (n : ℕ) (memory marks : List ℕ) (w : Flat n memory marks) where
  -- a refusal clears them
  stopped_flat : Flat n memory (replicate (length marks) 0)
  stopped_flat = cleared n memory marks w.memory_long w.marks_long

  turn_flat : (g : Going) (t : Turn) → TurnFlat n t → FlatAt n (after_turn g memory marks t)
  turn_flat g (halt f) h = stopped_flat
  turn_flat g (next k m k') h = h

  closed_flat : (base : ℕ) (g : Going) → FlatAt n (closed base g memory marks)
  closed_flat base g = turn_flat g (line_turn base g.place g.held memory marks g.known) (line_flat n memory marks w base g.place g.held g.known)

  received_flat : (base : ℕ) (x : Status) (c : ℕ) → FlatAt n (received base x memory marks c)
  received_flat base (halted f) c = w
  received_flat base (going g) c = by_test (is_end c) (λ e. rw e (closed_flat base (counted g))) (λ e. rw e w)

  lastly_flat : (g : Going) (e : Option Entry) → FlatAt n (lastly g memory marks e)
  lastly_flat g none = stopped_flat
  lastly_flat g (some e) = w

  concluded_flat : (x : Status) → FlatAt n (concluded x memory marks)
  concluded_flat (halted f) = w
  concluded_flat (going g) = lastly_flat g g.known.entry

fed_flat : (n base : ℕ) (xs : List ℕ) (w : Stage) → FlatAt n w → FlatAt n (fed base w xs)
fed_flat n base [] w h = h
fed_flat n base (x ∷ xs) w h =
    fed_flat n base xs (received base w.status w.memory w.marks x) (received_flat n w.memory w.marks h base w.status x)

-- ---- the calls

pub feed_flat : (n base : ℕ) (w : Stage) (part : List ℕ) → FlatAt n w → FlatAt n (feed base w part)
feed_flat n base w part h = go w.status
  where
    go : (x : Status) → FlatAt n (feed base (stage x w.memory w.marks) part)
    go (halted f) = h
    go (going g) =
        by_test (row1_later (window_of base w.memory w.marks) g) (λ e. rw e (stopped_flat n w.memory w.marks h))
        (λ e. by_test (row20 g part) (λ d. rw (e, d) (stopped_flat n w.memory w.marks h))
        (λ d. rw (e, d) (fed_flat n base part (stage (going g) w.memory w.marks) h)))

pub end_flat : (n base : ℕ) (w : Stage) → FlatAt n w → FlatAt n (end base w)
end_flat n base w h = go w.status
  where
    last : (v : Stage) → FlatAt n v → FlatAt n (conclude v)
    last v k = concluded_flat n v.memory v.marks k v.status

    go : (x : Status) → FlatAt n (end base (stage x w.memory w.marks))
    go (halted f) = h
    go (going g) =
        by_test (row1_later (window_of base w.memory w.marks) g) (λ e. rw e (stopped_flat n w.memory w.marks h))
        (λ e. rw e (last (closed base g w.memory w.marks) (closed_flat n w.memory w.marks h base g)))

-- begin, in an allowed window
pub begun_flat : (W : Window) → row1 W ≡ false → FlatAt (length W.memory) (begun W)
unfolding begun
begun_flat W e = rw e (cleared (length W.memory) W.memory W.marks refl (allowed_inv W e).0)

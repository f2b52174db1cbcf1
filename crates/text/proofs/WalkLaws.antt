-- A walk over the lines of a text that is accepted: what holds at each kind of line holds of the whole walk.
use mathlib.Core.Path.{◌≡◌, refl, sym}
use Prim.Native.Nat.{ℕ, suc, ◌+◌}
use native.Mathlib.Omega.{arith}
use mathlib.Core.List.{List, [], ◌∷◌}
use lib.ListN.{length}
use Rattle.window.specs.declared.Refusal.{Refusal}
use Rattle.window.specs.Entries.{Entry}
use Rattle.window.specs.Plans.{Summary, refusal, Plan}
use Rattle.window.specs.Plans.Plan.{store, stop, done}
use Rattle.window.proofs.PlanLaws.{stores, final}
use Rattle.window.specs.Cells.{total}
use Rattle.text.specs.Lines.{Line}
use Rattle.text.specs.Scan.{Step, State, more, more_data, summary, ended, located, onward, scan}
use Rattle.text.specs.Scan.Step.{refuse, skip, title, put, finish}

-- a plan that stops is not one that is done
pub no_stop : (t : Summary) (f : Refusal) → stop f ≡ done t → ⊥
no_stop t f q = let z : ◌≡◌ {A = ℕ} 0 1 = cc in omega arith

-- P holds at the last line, and of a line before lines of which it holds; P speaks of a state, the lines behind it and their plan
pub record Inductive (step : State → List ℕ → Step) (t : Summary) (P : State → List Line → Plan → Type 0) : Type 0 where
  pub at_skip : (s : State) (l : Line) (ls : List Line) (p : Plan) → step s l.chars ≡ skip → P (more s s.header) ls p → P s (l ∷ ls) p
  pub at_title : (s : State) (l : Line) (ls : List Line) (p : Plan) (h : List ℕ) → step s l.chars ≡ title h → P (more s h) ls p → P s (l ∷ ls) p
  pub at_put : (s : State) (l : Line) (ls : List Line) (p : Plan) (a : ℕ) (ds : List ℕ) → step s l.chars ≡ put a ds
      → P (more_data s (length ds)) ls p → P s (l ∷ ls) (store (suc s.number) l.place a ds p)
  pub at_finish : (s : State) (l : Line) (e : Entry) → step s l.chars ≡ finish e → t ≡ summary s e → P s (l ∷ []) (done t)

module _ (step : State → List ℕ → Step) (t : Summary) (P : State → List Line → Plan → Type 0) (i : Inductive step t P) (size : ℕ) where
  -- P holds of these lines behind every state from which they are accepted
  abbrev Later : List Line → Type 0
  Later ls = (u : State) → final (scan step size u ls) ≡ done t → P u ls (scan step size u ls)

  -- P holds of a line that is accepted, whatever it does, where it holds of the lines behind it
  turn : (l : Line) (ls : List Line) (s : State) → Later ls → (x : Step) → step s l.chars ≡ x
      → final (onward s l.place (λ u. scan step size u ls) (λ e. ended s e ls) x) ≡ done t
      → P s (l ∷ ls) (onward s l.place (λ u. scan step size u ls) (λ e. ended s e ls) x)
  turn l ls s g (refuse f) e q = absurd (no_stop t (located (suc s.number) l.place f) q)
  turn l ls s g skip e q = i.at_skip s l ls (scan step size (more s s.header) ls) e (g (more s s.header) q)
  turn l ls s g (title h) e q = i.at_title s l ls (scan step size (more s h) ls) h e (g (more s h) q)
  turn l ls s g (put a ds) e q =
      i.at_put s l ls (scan step size (more_data s (length ds)) ls) a ds e (g (more_data s (length ds)) q)
  turn l [] s g (finish a) e q =
      let m : summary s a ≡ t = cc in rw m (i.at_finish s l a e (sym m))
  turn l (k ∷ ls) s g (finish a) e q = absurd (no_stop t (refusal 2 (suc (suc s.number)) k.place) q)

  -- so it holds of every accepted walk
  pub accepted_walk : (ls : List Line) (s : State) → final (scan step size s ls) ≡ done t → P s ls (scan step size s ls)
  accepted_walk [] s q = absurd (no_stop t (refusal 14 s.number size) q)
  accepted_walk (l ∷ ls) s q = turn l ls s (λ u k. accepted_walk ls u k) (step s l.chars) refl q

-- ---- the two counts of any accepted walk

-- the counts at the end are those so far, and those of the stores of the plan
pub record Counts (t : Summary) (s : State) (ls : List Line) (p : Plan) : Type 0 where
  pub records_is : t.records ≡ s.records + length (stores p)
  pub cells_is : t.cells ≡ s.cells + total (stores p)

-- the counts hold at each kind of line
counts_step : (step : State → List ℕ → Step) (t : Summary) → Inductive step t (Counts t)
counts_step step t = record {
  at_skip = λ s l ls p e k. record { records_is = k.records_is; cells_is = k.cells_is };
  at_title = λ s l ls p h e k. record { records_is = k.records_is; cells_is = k.cells_is };
  at_put = λ s l ls p a ds e k. record { records_is = omega (arith, k.records_is); cells_is = omega (arith, k.cells_is) };
  at_finish = λ s l e q m. rw m (record { records_is = omega arith; cells_is = omega arith });
}

-- an accepted walk counts the stores of its plan and their data bytes
pub counts : (step : State → List ℕ → Step) (t : Summary) (size : ℕ) (ls : List Line) (s : State) → final (scan step size s ls) ≡ done t
    → Counts t s ls (scan step size s ls)
counts step t size ls s q = accepted_walk step t (Counts t) (counts_step step t) size ls s q

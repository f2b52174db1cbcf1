-- A text with each of its characters replaced by one that its format takes alike has the same plan.
use mathlib.Core.Path.{◌≡◌, refl, ap}
use Prim.Native.Nat.{ℕ, suc}
use mathlib.Core.Bool.{Bool}
use mathlib.Core.List.{List, [], ◌∷◌, map}
use lib.ListN.{length, length-map}
use Rattle.lists.proofs.TestLaws.{by_test}
use Rattle.window.specs.Entries.{Entry}
use Rattle.window.specs.Plans.{Plan}
use Rattle.window.specs.Plans.Plan.{store}
use Rattle.text.specs.Lines.{Line, front, push, behind, lines}
use Rattle.text.specs.Scan.{State, Step, start, more, more_data, ended, onward, scan}
use Rattle.text.specs.Scan.Step.{refuse, skip, title, put, finish}
use Rattle.text.specs.Formats.{Format, plan}

module _ (f : ℕ → ℕ) where
  -- a line with each of its characters replaced
  abbrev respelled : Line → Line
  respelled l = record { place = l.place; chars = map f l.chars }

  push_respelled : (at : ℕ) (cs : List ℕ) (ls : List Line) → push at (map f cs) (map respelled ls) ≡ map respelled (push at cs ls)
  push_respelled at [] ls = refl
  push_respelled at (c ∷ cs) ls = refl

  module _ (gap : ℕ → Bool) (same : (c : ℕ) → gap (f c) ≡ gap c) where
    front_respelled : (t : List ℕ) → front gap (map f t) ≡ map f (front gap t)
    front_respelled [] = refl
    front_respelled (c ∷ t) = by_test (gap c) (λ e. rw (same c, e)) (λ e. rw (same c, e, front_respelled t))

    behind_respelled : (at : ℕ) (t : List ℕ) → behind gap at (map f t) ≡ map respelled (behind gap at t)
    behind_respelled at [] = refl
    behind_respelled at (c ∷ t) =
        by_test (gap c)
        (λ e. rw (same c, e, front_respelled t, behind_respelled (suc at) t, push_respelled (suc at) (front gap t) (behind gap (suc at) t)))
        (λ e. rw (same c, e, behind_respelled (suc at) t))

    lines_respelled : (at : ℕ) (t : List ℕ) → lines gap at (map f t) ≡ map respelled (lines gap at t)
    lines_respelled at t = rw (front_respelled t, behind_respelled at t) (push_respelled at (front gap t) (behind gap at t))

  module _ (step : State → List ℕ → Step) (same : (s : State) (cs : List ℕ) → step s (map f cs) ≡ step s cs) (size : ℕ) where
    ended_respelled : (s : State) (e : Entry) (ls : List Line) → ended s e (map respelled ls) ≡ ended s e ls
    ended_respelled s e [] = refl
    ended_respelled s e (l ∷ ls) = refl

    onward_alike : (s : State) (at : ℕ) (go go' : State → Plan) (last last' : Entry → Plan) → ((u : State) → go u ≡ go' u) → ((e : Entry) → last e ≡ last' e)
        → (x : Step) → onward s at go last x ≡ onward s at go' last' x
    onward_alike s at go go' last last' g l (refuse h) = refl
    onward_alike s at go go' last last' g l skip = g (more s s.header)
    onward_alike s at go go' last last' g l (title h) = g (more s h)
    onward_alike s at go go' last last' g l (put a ds) = ap (store (suc s.number) at a ds) (g (more_data s (length ds)))
    onward_alike s at go go' last last' g l (finish e) = l e

    scan_respelled : (ls : List Line) (s : State) → scan step size s (map respelled ls) ≡ scan step size s ls
    scan_respelled [] s = refl
    scan_respelled (l ∷ ls) s =
        rw (same s l.chars)
        (onward_alike s l.place (λ u. scan step size u (map respelled ls)) (λ u. scan step size u ls) (λ e. ended s e (map respelled ls))
        (λ e. ended s e ls) (λ u. scan_respelled ls u) (λ e. ended_respelled s e ls) (step s l.chars))

-- where neither separators nor steps tell f c from c, a text and its respelling ask the same of any window
pub plan_respelled : (F : Format) (f : ℕ → ℕ) → ((c : ℕ) → F.gap (f c) ≡ F.gap c) → ((s : State) (cs : List ℕ) → F.step s (map f cs) ≡ F.step s cs)
    → (t : List ℕ) → plan F (map f t) ≡ plan F t
unfolding plan
plan_respelled F f gaps steps t =
    rw (length-map t f, lines_respelled f F.gap gaps 0 t) (scan_respelled f F.step steps (length t) (lines F.gap 0 t) start)

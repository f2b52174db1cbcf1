-- A walk over the lines of a text, one turn after the other, whatever is made of the plan, and whatever it keeps of the image: what is
-- left gives what the whole gives.
use mathlib.Core.Path.{◌≡◌, refl, sym, ap, ◌∙◌}
use Prim.Native.Nat.{ℕ, suc, ◌≤◌, zero-le}
use mathlib.Core.Bool.{false}
use mathlib.Core.List.{List, [], ◌∷◌}
use lib.ListN.{length, drop}
use Rattle.window.specs.Entries.{Entry}
use Rattle.window.specs.Images.{Image, blank}
use Rattle.window.specs.Plans.{refusal, Plan, Outcome, row12, row13, filled, placed}
use Rattle.window.specs.Plans.Plan.{store}
use Rattle.window.specs.Plans.Outcome.{refused}
use Rattle.window.proofs.RoomLaws.{length_blank, fill_length}
use Rattle.std.specs.Prelude.{None}
use Rattle.text.specs.Lines.{lines}
use Rattle.text.specs.Finds.{found}
use Rattle.text.specs.Scan.{Fault, Step, State, start, more, more_data, ended, located, onward, scan}
use Rattle.text.specs.Scan.Step.{refuse, skip, title, put, finish}
use Rattle.text.specs.Formats.{Format, plan}
use Rattle.text.proofs.FindLaws.{part, Next, next_none}

-- the plan of the lines from `at` on, behind a state
abbrev pub plan_from : Format → List ℕ → ℕ → State → Plan
plan_from F text at s = scan F.step (length text) s (lines F.gap at (drop at text))

-- what comes of them where a line before them ends the text
abbrev pub end_from : Format → List ℕ → ℕ → State → Entry → Plan
end_from F text at s e = ended s e (lines F.gap at (drop at text))

-- whatever is made of a plan: of what the step of the next line leads to the same is made as of the lines that are left
pub turned : {C : Type 0} (f : Plan → C) (F : Format) (text : List ℕ) (s : State) (at from to : ℕ) → Next F.gap text at from to
    → (x : Step) → F.step s (part text from to) ≡ x → f (onward s from (plan_from F text to) (end_from F text to s) x) ≡ f (plan_from F text at s)
turned f F text s at from to n x e =
    ap (λ (y : Step). f (onward s from (plan_from F text to) (end_from F text to s) y)) (sym e)
    ∙ ap (λ ls. f (scan F.step (length text) s ls)) (sym n.is)

-- the walk has come to `at`: placing what is left on the image gives what the whole gives
pub record Walk (F : Format) (text : List ℕ) (base size : ℕ) (img : Image) (s : State) (at : ℕ) : Type 0 where
  pub inside : at ≤ length text
  pub long : length img ≡ size
  pub rest : placed base img (plan_from F text at s) ≡ placed base (blank size) (plan F text)

-- before the first line
pub walk_start : (F : Format) (text : List ℕ) (base size : ℕ) → Walk F text base size (blank size) start 0
unfolding plan
walk_start F text base size = record { inside = zero-le; long = length_blank size; rest = refl }

module _ (F : Format) (text : List ℕ) (base size : ℕ) (img : Image) (s : State) (at : ℕ) (w : Walk F text base size img s at) where
  -- what the whole text comes to
  abbrev whole : Outcome
  whole = placed base (blank size) (plan F text)

  -- row 14
  pub walk_none : None ≡ found (lines F.gap at (drop at text)) → refused (refusal 14 s.number (length text)) ≡ whole
  walk_none q = rw (next_none F.gap text at q) at w.rest

  module _ (from to : ℕ) (n : Next F.gap text at from to) where
    -- what the step of this line leads to gives what the whole gives
    turn : (x : Step) → F.step s (part text from to) ≡ x → placed base img (onward s from (plan_from F text to) (end_from F text to s) x) ≡ whole
    turn x e = turned (placed base img) F text s at from to n x e ∙ w.rest

    -- a line that a row refuses decides the outcome
    pub walk_refused : (f : Fault) → F.step s (part text from to) ≡ refuse f → refused (located (suc s.number) from f) ≡ whole
    walk_refused f e = turn (refuse f) e

    -- a line without data for cells: the walk goes on with the same image
    pub walk_skip : F.step s (part text from to) ≡ skip → Walk F text base size img (more s s.header) to
    walk_skip e = record { inside = n.high; long = w.long; rest = turn skip e }

    -- so does a header
    pub walk_title : (h : List ℕ) → F.step s (part text from to) ≡ title h → Walk F text base size img (more s h) to
    walk_title h e = record { inside = n.high; long = w.long; rest = turn (title h) e }

    -- behind the line that ends the text the rest decides
    pub walk_ended : (a : Entry) → F.step s (part text from to) ≡ finish a → placed base img (end_from F text to s a) ≡ whole
    walk_ended a e = turn (finish a) e

    -- the outcome is that of storing the data, and the rest
    pub walk_store : (a : ℕ) (ds : List ℕ) → F.step s (part text from to) ≡ put a ds
        → placed base img (store (suc s.number) from a ds (plan_from F text to (more_data s (length ds)))) ≡ whole
    walk_store a ds e = turn (put a ds) e

    -- a data line that rows 12 and 13 let pass: the walk goes on with the filled image
    pub walk_put : (a : ℕ) (ds : List ℕ) → F.step s (part text from to) ≡ put a ds
        → row12 base (length img) a (length ds) ≡ false → row13 base img a (length ds) ≡ false
        → Walk F text base size (filled base img a ds) (more_data s (length ds)) to
    walk_put a ds e twelve thirteen =
        record {
          inside = n.high;
          long = fill_length base img (record { addr = a; bytes = ds } ∷ []) (twelve, thirteen, tt) ∙ w.long;
          rest = sym (rw (twelve, thirteen) refl) ∙ turn (put a ds) e;
        }

-- What a refused load has stored: the data of the records before the refused one.
use mathlib.Core.Path.{◌≡◌, refl, sym, ap, ◌∙◌, subst}
use Prim.Native.Nat.{ℕ, suc, ◌+◌, ◌-◌, ◌<◌}
use native.Mathlib.Nat.{add-zero}
use native.Mathlib.Omega.{arith}
use mathlib.Core.Bool.{false}
use mathlib.Core.List.{List, [], ◌∷◌, ◌++◌}
use mathlib.Core.Logic.{⊎_elim, ◌⊎◌, inl, inr}
use lib.Dec.{lit<}
use lib.ListN.{length, get_or, drop}
use Rattle.lists.proofs.TestLaws.{by_test, Of, either}
use Rattle.hex_digits.specs.Digits.{bytes}
use Rattle.window.specs.declared.Refusal.{Refusal}
use Rattle.window.specs.Entries.{Entry}
use Rattle.window.specs.Images.{Image, overlaid}
use Rattle.window.specs.Cells.{Run}
use Rattle.window.specs.Plans.{refusal_with, Plan, row12, row13, filled, placed}
use Rattle.window.specs.Plans.Outcome.{refused}
use Rattle.window.proofs.OverlayLaws.{overlaid_filled}
use Rattle.window.proofs.RoomLaws.{fill_length}
use Rattle.text.specs.Lines.{Line}
use Rattle.text.specs.Scan.{State, Step, more, more_data, ended, onward, scan}
use Rattle.text.specs.Scan.Step.{refuse, skip, title, put, finish}
use Rattle.text.specs.Terms.{data_of, data_records}
use Rattle.text.proofs.FormatLaws.{IsRefusal}
use Rattle.srec.specs.Kinds.{Kind, kind_of, known}
use Rattle.srec.specs.Kinds.Kind.{S0, Data, S5, End}
use Rattle.srec.specs.Reading.{Read, row3, row4, row5, row6, row7, read}
use Rattle.srec.specs.Reading.Read.{good, bad}
use Rattle.srec.specs.Judging.{row8, row10, row11, judge, judged}
use Rattle.srec.specs.Formats.{srec}
use Rattle.srec.proofs.SrecFormatLaws.{lawful}
use Rattle.parts.specs.Agreement.{stored_before, laid}

-- a step that is no refusal is what its record carries
part_is : (s : State) (chars : List ℕ) (x : Step) → srec.step s chars ≡ x → (IsRefusal x → ⊥) → srec.part chars ≡ x
part_is s chars x e h = ⊎_elim {C = srec.part chars ≡ x} (λ r. absurd (h (subst IsRefusal e r))) (λ q. sym q ∙ e) (lawful.says s chars)

-- ---- the rows of a record

-- by its characters and the records before it a record is refused by one of rows 3 to 11
abbrev StepRow : Step → Type 0
StepRow (refuse f) = f.reason < 12
StepRow skip = Unit {0}
StepRow (title h) = Unit {0}
StepRow (put a ds) = Unit {0}
StepRow (finish e) = Unit {0}

abbrev ReadRow : Read → Type 0
ReadRow (good k a ds) = Unit {0}
ReadRow (bad f) = f.reason < 12

read_row : (cs : List ℕ) → Of ReadRow (read cs)
unfolding read
read_row cs =
    let k : Kind = known (kind_of (get_or cs 1 0)) in
    let bs : List ℕ = bytes (drop 2 cs) in
    either (row3 cs) (record { got = lit< tt }) (either (row4 cs) (record { got = lit< tt }) (either (row5 cs) (record { got = lit< tt })
    (either (row6 k (length cs) (get_or bs 0 0)) (record { got = lit< tt }) (either (row7 bs) (record { got = lit< tt }) (record { got = tt })))))

judge_row : (s : State) (k : Kind) (a : ℕ) (ds : List ℕ) → Of StepRow (judge s k a ds)
unfolding judge
judge_row s S0 a ds = either (row8 s) (record { got = lit< tt }) (record { got = tt })
judge_row s (Data w) a ds = either (row11 w a (length ds)) (record { got = lit< tt }) (record { got = tt })
judge_row s S5 a ds = either (row10 s a) (record { got = lit< tt }) (record { got = tt })
judge_row s (End w) a ds = record { got = tt }

step_row : (s : State) (cs : List ℕ) → StepRow (srec.step s cs)
step_row s cs = go (read cs) (read_row cs).got
  where
    go : (r : Read) → ReadRow r → StepRow (judged s r)
    go (good k a ds) h = (judge_row s k a ds).got
    go (bad f) h = h

-- ---- what is kept

-- the refusal names the first of the lines that are left, behind n records
pub record Named (f : Refusal) (n : ℕ) (rest : List Line) : Type 0 where
  pub line : Line
  pub others : List Line
  pub rest_is : rest ≡ line ∷ others
  pub ordinal : f.ordinal ≡ suc n
  pub not_14 : f.reason ≡ 14 → ⊥

module _ (base : ℕ) (m₀ : List ℕ) where
  -- n records came before these lines; memory is what they left
  pub record KeptFrom (f : Refusal) (n : ℕ) (memory : List ℕ) (ls : List Line) (memory' : List ℕ) : Type 0 where
    pub before : List Line
    pub rest : List Line
    pub all_lines : ls ≡ before ++ rest
    pub cut : Named f (n + length before) rest ⊎ ((f.reason ≡ 14) × (rest ≡ []))
    pub stored : memory' ≡ laid base memory (data_records srec.part before)

  -- the refusal names the first of the lines
  first_refused : (f : Refusal) (n : ℕ) (memory : List ℕ) (l : Line) (ls : List Line) (reason place want : ℕ) → (reason ≡ 14 → ⊥)
      → refused (refusal_with reason (suc n) place want) ≡ refused f
      → KeptFrom f n memory (l ∷ ls) memory
  first_refused f n memory l ls reason place want z q =
      let e : f.ordinal ≡ suc n = cc in
      let r : reason ≡ f.reason = cc in
      record {
        before = [];
        rest = l ∷ ls;
        all_lines = refl;
        cut = inl (record { line = l; others = ls; rest_is = refl; ordinal = e ∙ ap suc (sym (add-zero n)); not_14 = λ y. z (r ∙ y) });
        stored = refl;
      }

  -- one line more before the refused one
  one_more : (f : Refusal) (n : ℕ) (memory memory₁ memory' : List ℕ) (l : Line) (ls : List Line)
      → ((rs : List Run) → laid base memory (data_of (srec.part l.chars) rs) ≡ laid base memory₁ rs)
      → KeptFrom f (suc n) memory₁ ls memory' → KeptFrom f n memory (l ∷ ls) memory'
  one_more f n memory memory₁ memory' l ls d k =
      record {
        before = l ∷ k.before;
        rest = k.rest;
        all_lines = ap {B = List Line} (λ (x : List Line). l ∷ x) k.all_lines;
        cut = shifted k.cut;
        stored = k.stored ∙ sym (d (data_records srec.part k.before));
      }
    where
      shifted : Named f (suc n + length k.before) k.rest ⊎ ((f.reason ≡ 14) × (k.rest ≡ []))
          → Named f (n + suc (length k.before)) k.rest ⊎ ((f.reason ≡ 14) × (k.rest ≡ []))
      shifted (inl o) =
          inl (record { line = o.line; others = o.others; rest_is = o.rest_is; ordinal = o.ordinal ∙ omega arith; not_14 = o.not_14 })
      shifted (inr o) = inr o

  -- what is stored of a plan that is refused
  abbrev Told : Refusal → ℕ → Image → List Line → Plan → Type 0
  Told f n img ls p = placed base img p ≡ refused f → KeptFrom f n (overlaid m₀ img) ls (overlaid m₀ (stored_before base img p))

  -- behind a terminator
  ended_kept : (f : Refusal) (s : State) (e : Entry) (img : Image) (ls : List Line) → Told f (suc s.number) img ls (ended s e ls)
  ended_kept f s e img [] q = absurd (let z : ◌≡◌ {A = ℕ} 0 1 = cc in omega arith)
  ended_kept f s e img (l ∷ ls) q = first_refused f (suc s.number) (overlaid m₀ img) l ls 2 l.place 0 (λ z. omega arith) q

  module _ (size : ℕ) (f : Refusal) (s : State) (l : Line) (ls : List Line)
      (more-kept : (u : State) (x : Image) → length x ≡ length m₀ → Told f u.number x ls (scan srec.step size u ls)) where
    -- the plan from the step of this line on
    abbrev from_step : Step → Plan
    from_step x = onward s l.place (λ u. scan srec.step size u ls) (λ e. ended s e ls) x

    -- a record without data
    without : (img : Image) (memory' : List ℕ) → ((rs : List Run) → data_of (srec.part l.chars) rs ≡ rs)
        → KeptFrom f (suc s.number) (overlaid m₀ img) ls memory' → KeptFrom f s.number (overlaid m₀ img) (l ∷ ls) memory'
    without img memory' d k =
        one_more f s.number (overlaid m₀ img) (overlaid m₀ img) memory' l ls (λ rs. ap (laid base (overlaid m₀ img)) (d rs)) k

    -- a data record that has room
    with_data : (img : Image) → length img ≡ length m₀ → (a : ℕ) (ds memory' : List ℕ) → srec.part l.chars ≡ put a ds
        → row12 base (length img) a (length ds) ≡ false
        → KeptFrom f (suc s.number) (overlaid m₀ (filled base img a ds)) ls memory' → KeptFrom f s.number (overlaid m₀ img) (l ∷ ls) memory'
    with_data img long a ds memory' d t k =
        one_more f s.number (overlaid m₀ img) (overlaid m₀ (filled base img a ds)) memory' l ls
        (λ rs. ap (λ (x : Step). laid base (overlaid m₀ img) (data_of x rs)) d
        ∙ ap (λ (x : List ℕ). laid base x rs) (sym (overlaid_filled m₀ base img a ds (sym long) t))) k

    step_kept : (img : Image) → length img ≡ length m₀ → (x : Step) → srec.step s l.chars ≡ x → Told f s.number img (l ∷ ls) (from_step x)
    step_kept img long (refuse g) e q =
        let r : g.reason < 12 = subst StepRow e (step_row s l.chars) in
        first_refused f s.number (overlaid m₀ img) l ls g.reason (l.place + g.offset) g.want (λ z. omega arith) q
    step_kept img long skip e q =
        without img _ (λ rs. ap (λ (y : Step). data_of y rs) (part_is s l.chars skip e (λ r. r))) (more-kept (more s s.header) img long q)
    step_kept img long (title h) e q =
        without img _ (λ rs. ap (λ (y : Step). data_of y rs) (part_is s l.chars (title h) e (λ r. r))) (more-kept (more s h) img long q)
    step_kept img long (finish a) e q =
        without img _ (λ rs. ap (λ (y : Step). data_of y rs) (part_is s l.chars (finish a) e (λ r. r))) (ended_kept f s a img ls q)
    step_kept img long (put a ds) e q =
        by_test (row12 base (length img) a (length ds))
        (λ t. rw t (first_refused f s.number (overlaid m₀ img) l ls 12 l.place 0 (λ z. omega arith) (rw t at q)))
        (λ t. by_test (row13 base img a (length ds))
        (λ v. rw (t, v) (first_refused f s.number (overlaid m₀ img) l ls 13 l.place 0 (λ z. omega arith) (rw (t, v) at q)))
        (λ v. rw (t, v) (with_data img long a ds _ (part_is s l.chars (put a ds) e (λ r. r)) t
        (more-kept (more_data s (length ds)) (filled base img a ds)
        (fill_length base img (record { addr = a; bytes = ds } ∷ []) (t, v, tt) ∙ long) (rw (t, v) at q)))))

  -- a plan that is refused stores the records before the refused one
  pub scan_kept : (ls : List Line) (size : ℕ) (f : Refusal) (s : State) (img : Image) → length img ≡ length m₀
      → Told f s.number img ls (scan srec.step size s ls)
  scan_kept [] size f s img long q =
      let e : f.reason ≡ 14 = cc in
      record { before = []; rest = []; all_lines = refl; cut = inr (e, refl); stored = refl }
  scan_kept (l ∷ ls) size f s img long q =
      step_kept size f s l ls (λ u x k. scan_kept ls size f u x k) img long (srec.step s l.chars) refl q

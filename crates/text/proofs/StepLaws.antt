-- What the code's step of a line says of the step that the definitions take, in any format that counts.
use mathlib.Core.Path.{◌≡◌, refl, sym, ap, ◌∙◌, subst}
use Prim.Native.Nat.{ℕ, ◌+◌, ◌-◌, ◌≤◌, ◌<◌}
use native.Mathlib.Omega.{arith}
use mathlib.Core.List.{List, [], ◌∷◌}
use mathlib.Core.Logic.{◌⊎◌, inl, inr}
use lib.ListN.{length, drop}
use Rattle.std.specs.Prelude.{Option, Some, None}
use Rattle.text.specs.declared.Taken.{Taken}
use Rattle.text.specs.Lines.{Line as TextLine, lines}
use Rattle.text.specs.Finds.{found}
use Rattle.text.specs.declared.State.{State}
use Rattle.text.specs.declared.Step.{Step}
use Rattle.text.specs.declared.Step.TheVariants.{Refuse, Pass, Put, Finish}
use Rattle.text.specs.Scan.{Fault, State as ScanState, Step as ScanStep, more, more_data}
use Rattle.text.specs.Scan.Step.{refuse, skip, title, put, finish}
use Rattle.text.specs.Formats.{Format}
use Rattle.text.specs.Steps.{state_with, as_step, taken}
use Rattle.text.proofs.FindLaws.{stands, part, Next, next_long, next_is, next_none}

-- a format whose steps do not look at the header, and whose lines have a character for each data byte: its numbers can be kept and stay small
pub record Counting (F : Format) : Type 0 where
  pub headless : (h : List ℕ) (n : State) (cs : List ℕ) → F.step (state_with h n) cs ≡ F.step (state_with [] n) cs
  pub roomy : (cs : List ℕ) (a : ℕ) (ds : List ℕ) → F.part cs ≡ put a ds → length ds ≤ length cs

-- what a step in numbers says of the definitions' step; the state of its numbers is the walk's next one
abbrev pub Says : ℕ → ScanState → Step → ScanStep → Type 0
Says place s (Refuse reason at want) x = (f : Fault) × (x ≡ refuse f) × (Refuse reason at want ≡ Refuse f.reason (place + f.offset) f.want)
Says place s (Pass n) x = ((x ≡ skip) × (state_with s.header n ≡ more s s.header)) ⊎ ((h : List ℕ) × (x ≡ title h) × (state_with h n ≡ more s h))
Says place s (Put n a c) x = (ds : List ℕ) × (x ≡ put a ds) × (c ≡ length ds) × (state_with s.header n ≡ more_data s (length ds))
Says place s (Finish n e) x = (x ≡ finish e) × (state_with s.header n ≡ more s s.header)

-- a step in numbers says what the step is
says : (place : ℕ) (s : ScanState) (x : ScanStep) → Says place s (as_step place s x) x
says place s (refuse f) = (f, refl, refl)
says place s skip = inl (refl, refl)
says place s (title h) = inr (h, refl, refl)
says place s (put a ds) = (ds, refl, refl, refl)
says place s (finish e) = (refl, refl)

-- the header does not matter to the numbers
plain : (place : ℕ) (h : List ℕ) (n : State) (x : ScanStep) → as_step place (state_with [] n) x ≡ as_step place (state_with h n) x
plain place h n (refuse f) = refl
plain place h n skip = refl
plain place h n (title t) = refl
plain place h n (put a ds) = refl
plain place h n (finish e) = refl

-- the answer for the numbers says what the step is, whatever the header
pub step_says : (F : Format) → Counting F → (place : ℕ) (h : List ℕ) (n : State) (cs : List ℕ) (r : Step)
    → r ≡ as_step place (state_with [] n) (F.step (state_with [] n) cs) → Says place (state_with h n) r (F.step (state_with h n) cs)
step_says F k place h n cs r q =
    subst (λ (y : Step). Says place (state_with h n) y (F.step (state_with h n) cs))
    (sym (q ∙ plain place h n (F.step (state_with [] n) cs) ∙ ap (as_step place (state_with h n)) (sym (k.headless h n cs))))
    (says place (state_with h n) (F.step (state_with h n) cs))

-- ---- the next line as code takes it

-- the answer that a line stands from one place to another and does this
abbrev pub takes : ℕ → ℕ → Step → Option Taken
takes from to step = Some (record { from = from; to = to; step = step })

pub takes_same : (from to from' to' : ℕ) (step step' : Step) → takes from to step ≡ takes from' to' step'
    → (from ≡ from') × (to ≡ to') × (step ≡ step')
takes_same from to from' to' step step' q =
    let r : ◌≡◌ {A = Taken} (record { from = from; to = to; step = step }) (record { from = from'; to = to'; step = step' }) = cc in
    (ap (λ (x : Taken). x.from) r, ap (λ (x : Taken). x.to) r, ap (λ (x : Taken). x.step) r)

module _ (F : Format) (n : State) (text : List ℕ) (at : ℕ) where
  -- the lines that are left
  abbrev left : List TextLine
  left = lines F.gap at (drop at text)

  -- the step of the line from `from` up to `to`
  abbrev pub step_at : ℕ → ℕ → Step
  step_at from to = as_step from (state_with [] n) (F.step (state_with [] n) (part text from to))

  -- no line is left
  pub taken_none : None ≡ found left → None ≡ taken F n left
  taken_none q = rw (next_none F.gap text at q)

  -- the next line, with its step
  pub taken_line : (from to : ℕ) → Next F.gap text at from to → (step : Step) → step ≡ step_at from to → takes from to step ≡ taken F n left
  taken_line from to x step q =
      let e : to ≡ from + length (part text from to) = omega (arith, next_long F.gap x, x.some_chars) in
      rw x.is (λ i. takes from (e i) (q i))

  -- an answer of none: no line is left
  pub none_taken : None ≡ taken F n left → None ≡ found left
  none_taken q = go left q
    where
      go : (ls : List TextLine) → None ≡ taken F n ls → None ≡ found ls
      go [] e = refl
      go (l ∷ ls) e = absurd (let z : ◌≡◌ {A = ℕ} 0 1 = cc in omega arith)

  -- what an answer with a line says
  pub line_taken : (from to : ℕ) (step : Step) → at ≤ length text → takes from to step ≡ taken F n left
      → Next F.gap text at from to × (step ≡ step_at from to)
  line_taken from to step l q =
      let x : Next F.gap text at from to = next_is F.gap text at from to l (go left q) in
      let e : takes from to step ≡ takes from (from + length (part text from to)) (step_at from to) = rw x.is at q in
      (x, (takes_same from to from (from + length (part text from to)) step (step_at from to) e).2)
    where
      go : (ls : List TextLine) → takes from to step ≡ taken F n ls → stands from to ≡ found ls
      go [] e = absurd (let z : ◌≡◌ {A = ℕ} 0 1 = cc in omega arith)
      go (l ∷ ls) e =
          let own : Step = as_step l.place (state_with [] n) (F.step (state_with [] n) l.chars) in
          let same = takes_same from to l.place (l.place + length l.chars) step own e in
          λ i. stands (same.0 i) (same.1 i)

  -- numbers that are not above the place have room for one line more
  pub line_fits : {from to : ℕ} → Next F.gap text at from to → (n.number ≤ at) × (n.records ≤ at) × (n.cells ≤ at)
      → (most : ℕ) → length text < most
      → (from + length (part text from to) < most)
      × ((n.number + 1 < most) × (n.records + 1 < most) × (n.cells + length (part text from to) < most))
  line_fits {from} {to} x few most h =
      let long : length (part text from to) ≡ to - from = next_long F.gap x in (
        omega (arith, long, x.some_chars, x.high),
        (
          omega (arith, few.0, x.low, x.some_chars, x.high),
          omega (arith, few.1, x.low, x.some_chars, x.high),
          omega (arith, few.2, long, x.low, x.some_chars, x.high),
        ),
      )

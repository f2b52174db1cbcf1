-- A walk over the lines of a text by the code's numbers, whatever is made of the plan: `f` of what is left is what was asked of the whole.
use mathlib.Core.Path.{◌≡◌, refl, sym, ap, ◌∙◌, subst}
use Prim.Native.Nat.{ℕ, suc, ◌+◌, ◌≤◌, zero-le}
use native.Mathlib.Omega.{arith}
use mathlib.Core.List.{List, []}
use mathlib.Core.Logic.{⊎_elim}
use lib.ListN.{length, drop}
use Rattle.window.specs.declared.Refusal.{Refusal}
use Rattle.window.specs.Entries.{Entry}
use Rattle.window.specs.Plans.{refusal_with, refusal, Plan}
use Rattle.window.specs.Plans.Plan.{store, stop}
use Rattle.std.specs.Prelude.{None}
use Rattle.text.specs.declared.State.{State}
use Rattle.text.specs.declared.Step.{Step}
use Rattle.text.specs.declared.Step.TheVariants.{Refuse, Pass, Put, Finish}
use Rattle.text.specs.Lines.{lines}
use Rattle.text.specs.Finds.{found}
use Rattle.text.specs.Scan.{State as ScanState, Step as ScanStep, more, more_data, onward}
use Rattle.text.specs.Scan.Step.{refuse, skip, title, put, finish}
use Rattle.text.specs.Steps.{state_with, as_step}
use Rattle.text.specs.Formats.{Format, plan}
use Rattle.text.proofs.FindLaws.{part, Next, next_none, next_long}
use Rattle.text.proofs.FormatLaws.{Limits, Lawful, StepOk, said as carried}
use Rattle.text.proofs.StepLaws.{Counting, Says, step_says}
use Rattle.text.proofs.TurnLaws.{plan_from, end_from, turned}

-- the walk has come to `at` with these numbers, which are small, since each line and each data byte takes a character
pub record Left {C : Type 0} (F : Format) (text : List ℕ) (whole : C) (f : Plan → C) (n : State) (at : ℕ) : Type 0 where
  pub header : List ℕ
  pub inside : at ≤ length text
  pub rest : f (plan_from F text at (state_with header n)) ≡ whole
  pub few : (n.number ≤ at) × (n.records ≤ at) × (n.cells ≤ at)

-- before the first line
pub left_start : {C : Type 0} (F : Format) (text : List ℕ) (f : Plan → C)
    → Left F text (f (plan F text)) f (record { number = 0; records = 0; cells = 0 }) 0
unfolding plan
left_start F text f = record { header = []; inside = zero-le; rest = refl; few = (omega arith, omega arith, omega arith) }

-- a data line from `from` up to `to`: what it carries, and what the walk goes on with behind it
pub record PutOn {C : Type 0} (F : Format) (top : ℕ) (text : List ℕ) (whole : C) (f : Plan → C) (n m : State) (from to a count : ℕ) : Type 0 where
  pub ds : List ℕ
  pub carries : F.part (part text from to) ≡ put a ds
  pub count_is : count ≡ length ds
  pub number_is : m.number ≡ suc n.number
  pub small : a + length ds ≤ top
  pub rest : Plan
  pub stored : f (store (suc n.number) from a ds rest) ≡ whole
  pub goes_on : (f' : Plan → C) → ((p : Plan) → f' p ≡ f (store (suc n.number) from a ds p)) → Left F text whole f' m to

module _ {C : Type 0} {F : Format} {L : Limits} (laws : Lawful F L) (k : Counting F) {text : List ℕ} {whole : C} {f : Plan → C} {n : State} {at : ℕ}
    (g : Left F text whole f n at) where
  -- the state of the walk: the numbers, and the header so far
  abbrev s : ScanState
  s = state_with g.header n

  -- no line is left
  pub left_none : None ≡ found (lines F.gap at (drop at text)) → f (stop (refusal 14 n.number (length text))) ≡ whole
  left_none q = rw (next_none F.gap text at q) at g.rest

  module _ {from to : ℕ} (x : Next F.gap text at from to) where
    -- the characters of the line
    abbrev chars : List ℕ
    chars = part text from to

    -- what the step of this line leads to
    turn : (y : ScanStep) → F.step s chars ≡ y → f (onward s from (plan_from F text to) (end_from F text to s) y) ≡ whole
    turn y e = turned f F text s at from to x y e ∙ g.rest

    module _ {step : Step} (q : step ≡ as_step from (state_with [] n) (F.step (state_with [] n) chars)) where
      -- what the answer says of the step that the definitions take
      said : {r : Step} → step ≡ r → Says from s r (F.step s chars)
      said e = subst (λ (z : Step). Says from s z (F.step s chars)) e (step_says F k from g.header n chars step q)

      -- a line that a row refuses
      pub left_refused : {reason place want : ℕ} → step ≡ Refuse reason place want → f (stop (refusal_with reason (suc n.number) place want)) ≡ whole
      left_refused {reason} {place} {want} e =
          let y : Says from s (Refuse reason place want) (F.step s chars) = said e in
          ap (λ (z : Step). f (stop (refusal_of z))) y.2 ∙ turn (refuse y.0) y.1
        where
          refusal_of : Step → Refusal
          refusal_of (Refuse r p w) = refusal_with r (suc n.number) p w
          refusal_of (Pass m) = refusal 0 0 0
          refusal_of (Put m a c) = refusal 0 0 0
          refusal_of (Finish m e) = refusal 0 0 0

      -- the line that ends the text
      pub left_ended : {m : State} {entry : Entry} → step ≡ Finish m entry → f (end_from F text to s entry) ≡ whole
      left_ended {m} {entry} e = turn (finish entry) (said e).0

      -- the state behind it
      pub left_last : {m : State} {entry : Entry} → step ≡ Finish m entry → state_with g.header m ≡ more s g.header
      left_last {m} {entry} e = (said e).1

      -- the walk goes on with the numbers of a state
      on : {f' : Plan → C} (u : ScanState) (m : State) → state_with u.header m ≡ u → f' (plan_from F text to u) ≡ whole
          → (u.number ≤ to) × (u.records ≤ to) × (u.cells ≤ to) → Left F text whole f' m to
      on {f'} u m e r h =
          record {
            header = u.header;
            inside = x.high;
            rest = subst (λ (y : ScanState). f' (plan_from F text to y) ≡ whole) (sym e) r;
            few = (
              omega (arith, h.0, ap (λ (y : ScanState). y.number) e),
              omega (arith, h.1, ap (λ (y : ScanState). y.records) e),
              omega (arith, h.2, ap (λ (y : ScanState). y.cells) e),
            );
          }

      -- one line more
      few_more : (h : List ℕ) → ((more s h).number ≤ to) × ((more s h).records ≤ to) × ((more s h).cells ≤ to)
      few_more h = (
        omega (arith, g.few.0, x.low, x.some_chars),
        omega (arith, g.few.1, x.low, x.some_chars),
        omega (arith, g.few.2, x.low, x.some_chars),
      )

      -- a line with no data for cells
      pub left_pass : {m : State} → step ≡ Pass m → Left F text whole f m to
      left_pass {m} e =
          ⊎_elim {C = Left F text whole f m to}
          (λ p. on {f' = f} (more s s.header) m p.1 (turn skip p.0) (few_more s.header))
          (λ p. on {f' = f} (more s p.0) m p.2 (turn (title p.0) p.1) (few_more p.0)) (said e)

      -- a data line
      pub left_put : {m : State} {a count : ℕ} → step ≡ Put m a count → PutOn F L.top text whole f n m from to a count
      left_put {m} {a} {count} e =
          let y : Says from s (Put m a count) (F.step s chars) = said e in
          let ds : List ℕ = y.0 in
          let u : ScanState = more_data s (length ds) in
          let own : F.part chars ≡ put a ds
          = carried (F.step s chars) (F.part chars) (laws.says s chars) (put a ds) y.1 (λ r. r) in
          let fits : length ds ≤ length chars = k.roomy chars a ds own in
          record {
            ds = ds;
            carries = own;
            count_is = y.2;
            number_is = ap (λ (z : ScanState). z.number) y.3;
            small = (subst (StepOk L s) y.1 (laws.bounded s chars)).1;
            rest = plan_from F text to u;
            stored = turn (put a ds) y.1;
            goes_on = λ f' same. on {f' = f'} u m y.3 (same (plan_from F text to u) ∙ turn (put a ds) y.1) (
              omega (arith, g.few.0, x.low, x.some_chars),
              omega (arith, g.few.1, x.low, x.some_chars),
              omega (arith, g.few.2, fits, next_long F.gap x, x.low, x.some_chars),
            );
          }

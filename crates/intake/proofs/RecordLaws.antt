-- One record, rows 2 to 13: one law for each way out of `take_step`.
use mathlib.Core.Path.{◌≡◌, refl, sym, ap, ◌∙◌, subst}
use Prim.Native.Nat.{ℕ, suc, ◌+◌}
use native.Mathlib.Numerals.{add-one}
use mathlib.Core.Bool.{true, false}
use mathlib.Core.List.{List, [], ◌∷◌}
use mathlib.Core.Logic.{⊎_elim}
use mathlib.Core.Option.{none, some}
use lib.ListN.{length, take}
use borrow.Author.Tests.{eq-eqb, ne_eqb}
use Rattle.window.specs.Entries.{Entry}
use Rattle.std.specs.Prelude.{None}
use Rattle.window.specs.Plans.{refusal_with, refusal, row12}
use Rattle.window.specs.Marks.{claim_row, claimed}
use Rattle.window.proofs.MarkLaws.{granted_inside}
use Rattle.text.specs.declared.State.{State}
use Rattle.text.specs.declared.Step.{Step}
use Rattle.text.specs.declared.Step.TheVariants.{Refuse, Pass, Put, Finish}
use Rattle.text.specs.Scan.{Fault, State as ScanState, Step as ScanStep, more_data}
use Rattle.text.specs.Scan.Step.{refuse, skip, title, put, finish}
use Rattle.text.specs.Steps.{state_with, as_step}
use Rattle.text.specs.Terms.{header_in}
use Rattle.text.proofs.FormatLaws.{IsRefusal}
use Rattle.text.proofs.StepLaws.{Says, step_says}
use Rattle.srec.specs.Reading.{Read, read}
use Rattle.srec.specs.Reading.Read.{good, bad}
use Rattle.srec.specs.Judging.{carried}
use Rattle.srec.specs.Formats.{srec}
use Rattle.srec.proofs.SrecFormatLaws.{lawful}
use Rattle.srec_judge.proofs.JudgeLaws.{counting}
use Rattle.placing.specs.Stores.{stored_by, Placeable}
use Rattle.parts.specs.Parts.{Known, Turn, stored, step_turn, record_turn, line_turn}
use Rattle.parts.specs.Parts.Turn.{halt, next}
use Rattle.tally.specs.declared.Tally.{Tally}
use Rattle.tally.specs.Tallies.{state_of, entry_of, known_of, IsGood}

module _ (base place : ℕ) (memory marks : List ℕ) (k : Known) where
  -- a line that is not empty is a record
  pub some_line : (chars : List ℕ) → (length chars ≡ 0 → ⊥)
      → line_turn base place chars memory marks k ≡ record_turn base place chars memory marks k.state k.entry
  some_line [] z = absurd (z refl)
  some_line (c ∷ cs) z = refl

-- ---- records

-- what `take_step` is given
pub record Call : Type 0 where
  pub base : ℕ
  pub place : ℕ
  pub chars : List ℕ
  pub tally : Tally
  pub header : List ℕ
  pub memory : List ℕ
  pub marks : List ℕ
  pub step : Step
  pub step_is : step ≡ as_step place (state_with [] tally.state) (srec.step (state_with [] tally.state) chars)

-- the records with one more that does not end the text
abbrev going_on : State → ℕ → Tally
going_on n head = record { state = n; head = head; ended = false; entry = None }

module _ (v : Call) where
  abbrev base : ℕ
  base = v.base

  abbrev place : ℕ
  place = v.place

  abbrev chars : List ℕ
  chars = v.chars

  abbrev t : Tally
  t = v.tally

  abbrev header : List ℕ
  header = v.header

  abbrev memory : List ℕ
  memory = v.memory

  abbrev marks : List ℕ
  marks = v.marks

  abbrev number : ℕ
  number = t.state.number

  abbrev s : ScanState
  s = state_of t header

  -- the turn that the definitions take
  abbrev whole : Turn
  whole = record_turn base place chars memory marks s (entry_of t)

  -- row 2
  pub took_ended : t.ended ≡ true → whole ≡ halt (refusal 2 (number + 1) place)
  took_ended e = rw (e, add-one)

  -- what the step says of the definitions' step
  said : (y : Step) → v.step ≡ y → Says place s y (srec.step s chars)
  said y e =
      subst (λ (z : Step). Says place s z (srec.step s chars)) e
      (step_says srec counting place (take t.head header) t.state chars v.step v.step_is)

  -- a step that is no refusal is what the record carries
  carries : (x : ScanStep) → srec.step s chars ≡ x → (IsRefusal x → ⊥) → carried (read chars) ≡ x
  carries x e z = ⊎_elim {C = carried (read chars) ≡ x} (λ r. absurd (z (subst IsRefusal e r))) (λ q. sym q ∙ e) (lawful.says s chars)

  -- a record of a passed step was read, and what it leaves of a header
  record Passes (n : State) : Type 0 where
    h : List ℕ
    is_next : whole ≡ next (record { state = state_with h n; entry = none }) memory marks
    header_is : header_in (carried (read chars)) (take t.head header) ≡ h
    good_is : IsGood (read chars)

  good_read : (x : ScanStep) → carried (read chars) ≡ x → (IsRefusal x → ⊥) → IsGood (read chars)
  good_read x e z = go (read chars) e
    where
      go : (r : Read) → carried r ≡ x → IsGood r
      go (good k a ds) q = tt
      go (bad f) q = absurd (z (subst IsRefusal q tt))

  module _ (not-ended : t.ended ≡ false) where
    turn : (x : ScanStep) → srec.step s chars ≡ x → whole ≡ step_turn base place memory marks s x
    turn x e = rw not-ended (ap (step_turn base place memory marks s) e)

    -- rows 3 to 8, 10 and 11
    pub took_refused : (reason at want : ℕ) → v.step ≡ Refuse reason at want → whole ≡ halt (refusal_with reason (number + 1) at want)
    took_refused reason at want e =
        let y : Says place s (Refuse reason at want) (srec.step s chars) = said (Refuse reason at want) e in
        let f : Fault = y.0 in
        let q : Refuse reason at want ≡ Refuse f.reason (place + f.offset) f.want = y.2 in
        let reason-is : f.reason ≡ reason = cc in
        let at-is : place + f.offset ≡ at = cc in
        let want_is : f.want ≡ want = cc in
        turn (refuse f) y.1 ∙ (λ i. halt (refusal_with (reason-is i) (sym (add-one number) i) (at-is i) (want_is i)))

    -- a terminator
    pub took_finish : (n : State) (e : Entry) → v.step ≡ Finish n e
        → whole ≡ next (known_of (record { state = n; head = t.head; ended = true; entry = e }) header) memory marks
    took_finish n e q =
        let y : Says place s (Finish n e) (srec.step s chars) = said (Finish n e) q in
        turn (finish e) y.0 ∙ ap (λ (u : ScanState). next (record { state = u; entry = some e }) memory marks) (sym y.1)

    -- S0 and S5
    passes : (n : State) → v.step ≡ Pass n → Passes n
    passes n q =
        ⊎_elim {C = Passes n}
        (λ y. record {
          h = s.header;
          is_next = turn skip y.0 ∙ ap (λ (u : ScanState). next (record { state = u; entry = none }) memory marks) (sym y.1);
          header_is = ap (λ (x : ScanStep). header_in x (take t.head header)) (carries skip y.0 (λ z. z));
          good_is = good_read skip (carries skip y.0 (λ z. z)) (λ z. z);
        })
        (λ y. record {
          h = y.0;
          is_next = turn (title y.0) y.1
              ∙ ap (λ (u : ScanState). next (record { state = u; entry = none }) memory marks) (sym y.2);
          header_is = ap (λ (x : ScanStep). header_in x (take t.head header)) (carries (title y.0) y.1 (λ z. z));
          good_is = good_read (title y.0) (carries (title y.0) y.1 (λ z. z)) (λ z. z);
        })
        (said (Pass n) q)

    pub took_read : (n : State) → v.step ≡ Pass n → IsGood (read chars)
    took_read n q = (passes n q).good_is

    pub took_pass : (n : State) → v.step ≡ Pass n → (head : ℕ) (header' : List ℕ)
        → take head header' ≡ header_in (carried (read chars)) (take t.head header)
        → whole ≡ next (known_of (going_on n head) header') memory marks
    took_pass n q head header' h =
        let p : Passes n = passes n q in
        p.is_next ∙ ap (λ (x : List ℕ). next (record { state = state_with x n; entry = none }) memory marks) (sym (h ∙ p.header_is))

    -- a data record
    module _ (n : State) (a c : ℕ) (q : v.step ≡ Put n a c) (row : ℕ) (claims : row ≡ claim_row base marks a c) where
      abbrev y : Says place s (Put n a c) (srec.step s chars)
      y = said (Put n a c) q

      abbrev ds : List ℕ
      ds = y.0

      row_is : row ≡ claim_row base marks a (length ds)
      row_is = claims ∙ ap (claim_row base marks a) y.2

      turn_put : whole ≡ stored base (suc number) place memory marks (more_data s (length ds)) a ds
      turn_put = turn (put a ds) y.1

      carries_data : carried (read chars) ≡ put a ds
      carries_data = carries (put a ds) y.1 (λ z. z)

      -- rows 12 and 13
      pub took_denied : (row ≡ 0 → ⊥) → whole ≡ halt (refusal row (number + 1) place)
      unfolding stored
      took_denied z = turn_put ∙ rw (← row_is, ne_eqb row 0 z, add-one)

      -- its cells are claimed, so there is room for the data
      pub has_room : length memory ≡ length marks → row ≡ 0 → Placeable base (length memory) (carried (read chars))
      has_room l z =
          subst (Placeable base (length memory)) (sym carries_data)
          (ap (λ (j : ℕ). row12 base j a (length ds)) l ∙ granted_inside base marks a (length ds) (sym row_is ∙ z))

      -- and the data is stored
      pub took_stored : row ≡ 0 → (memory' marks' : List ℕ) → memory' ≡ stored_by base memory (carried (read chars)) → marks' ≡ claimed base marks a c
          → whole ≡ next (known_of (going_on n t.head) header) memory' marks'
      unfolding stored
      took_stored z memory' marks' m k =
          turn_put ∙ rw (← row_is, eq-eqb row 0 z)
          (λ i. next (record { state = sym y.3 i; entry = none }) (sym (m ∙ ap (stored_by base memory) carries_data) i)
          (sym (k ∙ ap (claimed base marks a) y.2) i))

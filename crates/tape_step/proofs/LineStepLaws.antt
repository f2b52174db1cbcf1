-- Rows 7, 10 and 11 by numbers: each answer of `judge`, and what an answer says of the step that the definitions take.
use mathlib.Core.Path.{◌≡◌, refl, sym, ap, ◌∙◌, subst}
use Prim.Native.Nat.{ℕ, ◌+◌, ◌^◌, ◌≤◌, ◌<◌}
use native.Mathlib.Nat.{add-zero}
use native.Mathlib.Omega.{arith}
use mathlib.Core.Bool.{false}
use mathlib.Core.List.{List, [], ◌∷◌}
use lib.Dec.{eqb}
use lib.ListN.{length, take, drop, length-take, length-drop}
use borrow.Author.Tests.{eq-eqb, ne_eqb, lt-ltb, le-ltb}
use Rattle.lists.proofs.TestLaws.{by_test, Of, either}
use Rattle.hex_digits.specs.Digits.{bytes, first_bad}
use Rattle.text.specs.declared.State.{State}
use Rattle.text.specs.declared.Step.{Step}
use Rattle.text.specs.declared.Step.TheVariants.{Refuse, Put, Finish}
use Rattle.text.specs.Scan.{Step as ScanStep, more, more_data}
use Rattle.text.specs.Scan.Step.{refuse, skip, title, put, finish}
use Rattle.text.specs.Steps.{CanCount, numbers, state_with, as_step}
use Rattle.text.proofs.StepLaws.{Counting}
use Rattle.tape.specs.declared.Edition.{Edition}
use Rattle.tape.specs.Reading.{Read, fault, length_in, data_in, covered, check_in, is_last, row3, row4, row5, row6, read}
use Rattle.tape.specs.Reading.Read.{good, bad}
use Rattle.tape.specs.Judging.{check_of, row7, row10, row11, carries, carried, judge, judged}
use Rattle.tape.specs.Formats.{tape}
use Rattle.std.specs.Prelude.{None, Err}
use Rattle.text.specs.declared.Fault.{Fault}
use Rattle.tape_read.specs.Answers.{as_line}
use Rattle.tape_step.specs.Answers.{passing}
use Rattle.tape_read.proofs.LineFieldLaws.{bs, length_data, LineGot}

-- ---- each answer of `judge`

module _ (place : ℕ) (n : State) (a len : ℕ) where
  -- the last line has another number
  pub row_10 : len ≡ 0 → (a ≡ n.records → ⊥) → Refuse 10 place 0 ≡ passing place n a len
  unfolding passing row10
  row_10 z h = rw (eq-eqb len 0 z, ne_eqb a n.records h)

  -- the last line
  pub ended : len ≡ 0 → a ≡ n.records → Finish (numbers (more (state_with [] n) [])) None ≡ passing place n a len
  unfolding passing row10
  ended z h = rw (eq-eqb len 0 z, eq-eqb a n.records h)

  -- the data passes 2^16
  pub row_11 : (len ≡ 0 → ⊥) → 65536 < a + len → Refuse 11 place 0 ≡ passing place n a len
  unfolding passing row11
  row_11 z h = rw (ne_eqb len 0 z, lt-ltb (2 ^ 16) (a + len) h)

  -- a data line
  pub stored : (len ≡ 0 → ⊥) → a + len ≤ 65536 → Put (numbers (more_data (state_with [] n) len)) a len ≡ passing place n a len
  unfolding passing row11
  stored z h = rw (ne_eqb len 0 z, le-ltb (2 ^ 16) (a + len) h)

-- ---- the step of a line

-- no byte is given with a refusal
abbrev NoWant : Read → Type 0
NoWant (good bs) = Unit {0}
NoWant (bad f) = f.want ≡ 0

-- no row of 3 to 6 gives one
no_want : (cs : List ℕ) → Of NoWant (read cs)
unfolding read
no_want cs =
    either (row3 cs) (no 3 0) (either (row4 cs) (no 4 0) (either (row5 cs) (no 5 (1 + first_bad (drop 1 cs)))
    (either (row6 (length cs) (length_in (bytes (drop 1 cs)))) (no 6 0) (record { got = tt }))))
  where
    no : (reason offset : ℕ) → Of NoWant (fault reason offset)
    no reason offset = record { got = refl }

module _ (edition : Edition) (place : ℕ) (n : State) (chars : List ℕ) where
  -- the step that the definitions take
  abbrev whole : Step
  whole = as_step place (state_with [] n) (judged edition (state_with [] n) (read chars))

  -- a line that cannot be read is refused where its row says
  pub step_bad : (f : Fault) → Err f ≡ as_line place (read chars) → Refuse f.row f.place f.want ≡ whole
  step_bad f q = go (read chars) (no_want chars).got q
    where
      go : (r : Read) → NoWant r → Err f ≡ as_line place r → Refuse f.row f.place f.want ≡ as_step place (state_with [] n) (judged edition (state_with [] n) r)
      go (good bs) w e = absurd (let z : ◌≡◌ {A = ℕ} 0 1 = cc in omega arith)
      go (bad g) w e =
          let same : ◌≡◌ {A = Fault} f (record { row = g.reason; place = place + g.offset; want = 0 }) = cc in
          ap (λ (x : Fault). Refuse x.row x.place x.want) same ∙ ap (Refuse g.reason (place + g.offset)) (sym w)

  module _ (a len : ℕ) (g : LineGot chars a len) where
    -- where the numbers have room for a line's characters, they have it for what it adds
    pub judge_fits : CanCount n (length chars)
        → (n.number + 1 < 2 ^ 64) × (n.records + 1 < 2 ^ 64) × (n.cells + len < 2 ^ 64) × (len < 256)
    judge_fits room = (
      omega (arith, room.0, g.long),
      omega (arith, room.1, g.long),
      omega (arith, room.2, g.long),
      omega (arith, g.short, g.long),
    )

    -- a wrong check
    pub row_7 : (given right : ℕ) → given ≡ check_in (bs chars) → right ≡ check_of edition (covered (bs chars)) → (given ≡ right → ⊥)
        → Refuse 7 place 0 ≡ whole
    unfolding judge row7
    row_7 given right e f h =
        rw (g.is, ne_eqb (check_in (bs chars)) (check_of edition (covered (bs chars))) (λ q. h (e ∙ q ∙ sym f)), add-zero)

    -- a line with a right check is judged
    pub step_good : row7 edition (bs chars) ≡ false → passing place n a len ≡ whole
    unfolding passing judge is_last row11 carries
    step_good seven =
        let d : length (data_in (bs chars)) ≡ len = length_data chars len g.len_is g.long in
        by_test (eqb len 0)
        (λ z. by_test (row10 (state_with [] n) a)
        (λ t. rw (g.is, seven, ← g.len_is, z, ← g.address_is, t, add-zero))
        (λ t. rw (g.is, seven, ← g.len_is, z, ← g.address_is, t)))
        (λ z. by_test (row11 a len)
        (λ t. rw (g.is, seven, ← g.len_is, z, ← g.address_is, d, t, add-zero))
        (λ t. rw (g.is, seven, ← g.len_is, z, ← g.address_is, d, t, d)))

-- ---- tapes count

-- a step with at most n data bytes
abbrev StepFits : ℕ → ScanStep → Type 0
StepFits n (refuse f) = Unit {0}
StepFits n skip = Unit {0}
StepFits n (title h) = Unit {0}
StepFits n (put a ds) = length ds ≤ n
StepFits n (finish e) = Unit {0}

-- there are no more bytes than characters
bytes_few : (cs : List ℕ) → length (bytes cs) ≤ length cs
bytes_few [] = omega arith
bytes_few (c ∷ []) = omega arith
bytes_few (c ∷ d ∷ cs) = omega (arith, bytes_few cs)

-- what bytes carry has no more bytes
fits_carries : (n : ℕ) (bs : List ℕ) → length bs ≤ n → Of (StepFits n) (carries bs)
unfolding carries data_in
fits_carries n bs h =
    either (is_last bs) (record { got = tt })
    (record { got = let l : length (take (length_in bs) (drop 3 bs)) ≤ n = rw length-take (omega (arith, length-drop 3 bs)) in l })

-- nor has a line
fits_read : (cs : List ℕ) → Of (λ r. StepFits (length cs) (carried r)) (read cs)
unfolding read
fits_read cs =
    either (row3 cs) (no 3 0) (either (row4 cs) (no 4 0) (either (row5 cs) (no 5 (1 + first_bad (drop 1 cs)))
    (either (row6 (length cs) (length_in (bytes (drop 1 cs)))) (no 6 0)
    (record { got = (fits_carries (length cs) (bytes (drop 1 cs)) (omega (arith, bytes_few (drop 1 cs), length-drop 1 cs))).got }))))
  where
    no : (reason offset : ℕ) → Of (λ r. StepFits (length cs) (carried r)) (fault reason offset)
    no reason offset = record { got = tt }

-- the header so far does not matter to the step
headless : (edition : Edition) (h : List ℕ) (n : State) (r : Read) → judged edition (state_with h n) r ≡ judged edition (state_with [] n) r
unfolding judge row10
headless edition h n (bad f) = refl
headless edition h n (good bs) = refl

-- the numbers of a tape's walk can be kept
pub counting : (edition : Edition) → Counting (tape edition)
counting edition = record {
  headless = λ h n cs. headless edition h n (read cs);
  roomy = λ cs a ds q. subst (StepFits (length cs)) q (fits_read cs).got;
}

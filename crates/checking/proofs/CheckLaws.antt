-- The checking pass over any format: one law for each answer and each way round its loop.
use mathlib.Core.Path.{◌≡◌, refl, sym, ap, ◌∙◌, subst}
use Prim.Native.Nat.{ℕ, zero, suc, ◌+◌, ◌≤◌}
use native.Mathlib.Numerals.{add-one}
use native.Mathlib.Omega.{arith}
use mathlib.Core.Bool.{false}
use mathlib.Core.List.{List, [], ◌∷◌}
use lib.ListN.{length, drop, replicate}
use Rattle.window.specs.declared.Refusal.{Refusal}
use Rattle.window.specs.Entries.{Entry}
use Rattle.window.specs.Images.{Image, blank, marks_of}
use Rattle.window.specs.Plans.{refusal_with, refusal, Outcome, row12, row13, filled, placed}
use Rattle.window.specs.Plans.Outcome.{refused}
use Rattle.window.specs.Marks.{claim_row, claimed}
use Rattle.window.proofs.RoomLaws.{length_blank, fill_length}
use Rattle.window.proofs.ClaimLaws.{claim_refused, claim_granted, claim_marks}
use Rattle.marks.specs.declared.Form.{Form}
use Rattle.marks.specs.Forms.{flags, stored, Tidy, marks_in}
use Rattle.marks.proofs.FormLaws.{flags_are, image_tidy}
use Rattle.std.specs.Prelude.{Result, Ok, Err, None}
use Rattle.text.specs.declared.State.{State}
use Rattle.text.specs.declared.Step.{Step}
use Rattle.text.specs.declared.Step.TheVariants.{Refuse, Pass, Put, Finish}
use Rattle.text.specs.Lines.{Line, lines}
use Rattle.text.specs.Finds.{found}
use Rattle.text.specs.Scan.{State as ScanState, more, ended}
use Rattle.text.specs.Steps.{state_with, as_step}
use Rattle.text.specs.Formats.{Format, plan}
use Rattle.text.proofs.FindLaws.{part, Next}
use Rattle.text.proofs.FormatLaws.{Limits, Lawful}
use Rattle.text.proofs.StepLaws.{Counting}
use Rattle.text.proofs.LeftLaws.{Left, left_start, PutOn, left_none, left_refused, left_ended, left_last, left_pass, left_put}
use Rattle.checking.specs.declared.Accepted.{Accepted}
use Rattle.checking.specs.Answers.{checked_as, MarkedBy, ended_as}

-- the marks show the image of a walk, and what is left is placed on it
pub record Going (F : Format) (form : Form) (text : List ℕ) (base size : ℕ) (marks : List ℕ) (n : State) (at : ℕ) : Type 0 where
  pub img : Image
  pub left : Left F text (placed base (blank size) (plan F text)) (placed base img) n at
  pub long : length img ≡ size
  pub marks_are : marks ≡ marks_in form img

-- the marks of a blank image are all 0
blank_marks : (n : ℕ) → replicate n 0 ≡ marks_of (blank n)
blank_marks zero = refl
blank_marks (suc n) = ap {B = List ℕ} (λ (r : List ℕ). 0 ∷ r) (blank_marks n)

-- before the first line
pub going_start : (F : Format) (form : Form) (text : List ℕ) (base size : ℕ) (marks : List ℕ) → marks ≡ stored form (replicate size 0)
    → Going F form text base size marks (record { number = 0; records = 0; cells = 0 }) 0
going_start F form text base size marks m =
    record {
      img = blank size;
      left = left_start F text (placed base (blank size));
      long = length_blank size;
      marks_are = m ∙ ap (stored form) (blank_marks size);
    }

-- what the walk answers, and the marks that it leaves
abbrev Told : Form → Outcome → Result Accepted Refusal → List ℕ → Type 0
Told form o r marks = record { answer : r ≡ checked_as o; marks : MarkedBy form o marks }

-- an answer that is a refusal
tell : (form : Form) (f : Refusal) (o : Outcome) (marks : List ℕ) → refused f ≡ o → Told form o (Err f) marks
tell form f o marks e = subst (λ (x : Outcome). Told form x (Err f) marks) e (record { answer = refl; marks = tt })

module _ {F : Format} {L : Limits} (laws : Lawful F L)
    (k : Counting F) {form : Form} {text : List ℕ} {base size : ℕ} {marks : List ℕ} {n : State} {at : ℕ}
    (g : Going F form text base size marks n at) where
  -- what the whole text comes to
  abbrev whole : Outcome
  whole = placed base (blank size) (plan F text)

  -- the marks say what the image says
  flags_now : flags form size marks ≡ marks_of g.img
  flags_now = flags_are form g.img size g.long marks g.marks_are

  -- and may be claimed
  pub tidy_now : Tidy form size marks
  tidy_now = image_tidy form g.img size g.long marks g.marks_are

  -- no line is left, and none has ended the text
  pub row_14 : (marks' : List ℕ) → None ≡ found (lines F.gap at (drop at text))
      → Told form whole (Err (refusal 14 n.number (length text))) marks'
  row_14 marks' q = tell form _ whole marks' (left_none laws k g.left q)

  module _ {from to : ℕ} (x : Next F.gap text at from to) {step : Step}
      (q : step ≡ as_step from (state_with [] n) (F.step (state_with [] n) (part text from to))) where
    -- a row of the format
    pub told_refused : (marks' : List ℕ) {reason place want : ℕ} → step ≡ Refuse reason place want
        → Told form whole (Err (refusal_with reason (n.number + 1) place want)) marks'
    told_refused marks' {reason} {place} {want} e =
        tell form _ whole marks'
        (ap (λ (i : ℕ). refused (refusal_with reason i place want)) (add-one n.number) ∙ left_refused laws k g.left x q e)

    -- the line that ends the text
    module _ {m : State} {entry : Entry} (e : step ≡ Finish m entry) where
      -- the state behind it
      behind_last : state_with g.left.header m ≡ more (state_with g.left.header n) g.left.header
      behind_last = left_last laws k g.left x q e

      -- its number is small
      pub last_few : m.number ≤ to
      last_few = omega (arith, ap (λ (u : ScanState). u.number) behind_last, g.left.few.0, x.low, x.some_chars)

      -- behind it: row 2, or the end
      pub told_ended : (marks' : List ℕ) → marks' ≡ marks → Told form whole (ended_as m entry (lines F.gap to (drop to text))) marks'
      told_ended marks' same = go (lines F.gap to (drop to text)) (left_ended laws k g.left x q e)
        where
          go : (ls : List Line) → placed base g.img (ended (state_with g.left.header n) entry ls) ≡ whole → Told form whole (ended_as m entry ls) marks'
          go [] p =
              subst (λ (o : Outcome). Told form o (ended_as m entry []) marks') p
              (record {
                answer = λ i. Ok (record { entry = entry; records = (behind_last i).records; cells = (behind_last i).cells });
                marks = same ∙ g.marks_are;
              })
          go (l ∷ ls) p =
              subst (λ (i : ℕ). Told form whole (Err (refusal 2 (suc i) l.place)) marks')
              (ap (λ (u : ScanState). u.number) (sym behind_last))
              (tell form _ whole marks' p)

    -- a line with no data for the window
    pub going_pass : {m : State} → step ≡ Pass m → Going F form text base size marks m to
    going_pass e = record { img = g.img; left = left_pass laws k g.left x q e; long = g.long; marks_are = g.marks_are }

    -- a data line
    module _ {m : State} {a count : ℕ} (e : step ≡ Put m a count) {row : ℕ} (c : row ≡ claim_row base (flags form size marks) a count) where
      -- what it carries, and how the walk goes on behind it
      data_line : PutOn F L.top text whole (placed base g.img) n m from to a count
      data_line = left_put laws k g.left x q e

      -- its data bytes
      abbrev ds : List ℕ
      ds = data_line.ds

      -- the row is that of the image's marks
      row_is : row ≡ claim_row base (marks_of g.img) a (length ds)
      row_is = c ∙ (λ i. claim_row base (flags_now i) a (data_line.count_is i))

      -- rows 12 and 13
      pub told_claim : (marks' : List ℕ) → (row ≡ 0 → ⊥) → Told form whole (Err (refusal row (n.number + 1) from)) marks'
      told_claim marks' z =
          tell form _ whole marks' (ap (λ (i : ℕ). refused (refusal row i from)) (add-one n.number)
          ∙ sym (claim_refused base g.img a ds row (suc n.number) from data_line.rest row_is z)
          ∙ data_line.stored)

      -- its cells are claimed, and the walk goes on
      pub going_put : (marks' : List ℕ) → row ≡ 0 → marks' ≡ stored form (claimed base (flags form size marks) a count)
          → Going F form text base size marks' m to
      going_put marks' z d =
          let granted : 0 ≡ claim_row base (marks_of g.img) a (length ds) = sym z ∙ row_is in
          let free : (row12 base (length g.img) a (length ds) ≡ false) × (row13 base g.img a (length ds) ≡ false)
          = claim_granted base g.img a ds granted in
          record {
            img = filled base g.img a ds;
            left = data_line.goes_on (placed base (filled base g.img a ds)) (λ p. sym (rw (free.0, free.1) refl));
            long = fill_length base g.img (record { addr = a; bytes = ds } ∷ []) (free.0, free.1, tt) ∙ g.long;
            marks_are = d ∙ ap (stored form) ((λ i. claimed base (flags_now i) a (data_line.count_is i)) ∙ claim_marks base g.img a ds granted);
          }

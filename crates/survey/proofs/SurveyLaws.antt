-- The survey's walk: one law for each answer and each way round its loop.
use mathlib.Core.Path.{◌≡◌, refl, sym, ap, ◌∙◌, subst}
use Prim.Native.Nat.{ℕ, suc}
use native.Mathlib.Omega.{arith}
use mathlib.Core.List.{List, [], ◌∷◌}
use lib.Dec.{eqb}
use lib.ListN.{length}
use borrow.Author.Tests.{eqb-true}
use Rattle.lists.proofs.TestLaws.{by_test}
use Rattle.window.specs.Entries.{Entry}
use Rattle.text.specs.declared.State.{State}
use Rattle.text.specs.Lines.{Line}
use Rattle.text.specs.Scan.{State as ScanState, ended}
use Rattle.text.specs.Steps.{state_with}
use Rattle.text.specs.Formats.{Format, plan}
use Rattle.text.proofs.FindLaws.{part}
use Rattle.text.proofs.LeftLaws.{Left, left_start, PutOn}
use Rattle.spans.specs.declared.Span.{Span}
use Rattle.spans.specs.declared.Origin.{Origin}
use Rattle.spans.specs.Spans.{Store, stores_of, no_span, widened, span_with, nowhere, covers, origin_among, or_else}
use Rattle.spans.proofs.OriginLaws.{origin_more}
use Rattle.data_byte.specs.Places.{bytes_in}
use Rattle.survey.specs.Surveys.{survey_of, store_of, survey_with}

-- an origin without a number is none
abbrev Settled : Origin → Type 0
Settled o = o.ordinal ≡ 0 → o ≡ nowhere

-- the survey so far, with what is left, is that of the whole
pub record Going (F : Format) (text : List ℕ) (A : ℕ) (span : Span) (origin : Origin) (n : State) (at : ℕ) : Type 0 where
  pub left : Left F text (survey_of A (plan F text)) (λ p. survey_with A span origin (stores_of p)) n at
  pub settled : Settled origin

-- before the first line
pub going_start : (F : Format) (text : List ℕ) (A : ℕ) → Going F text A no_span nowhere (record { number = 0; records = 0; cells = 0 }) 0
going_start F text A = record { left = left_start F text (λ p. survey_with A no_span nowhere (stores_of p)); settled = λ e. refl }

-- nothing more is found
nothing_more : (o : Origin) → Settled o → or_else o nowhere ≡ o
nothing_more o h = by_test (eqb o.ordinal 0) (λ t. rw t (sym (h (eqb-true o.ordinal 0 t)))) (λ t. rw t)

-- behind the line that ends the text there are no records
ended_stores : (s : ScanState) (e : Entry) (ls : List Line) → stores_of (ended s e ls) ≡ []
ended_stores s e [] = refl
ended_stores s e (l ∷ ls) = refl

module _ {F : Format} {text : List ℕ} {A : ℕ} {s : Span} {o : Origin} {n : State} {at : ℕ} (g : Going F text A s o n at) where
  -- no record is left
  pub going_end : survey_with A s o [] ≡ survey_of A (plan F text) → record { span = s; origin = o } ≡ survey_of A (plan F text)
  going_end e = ap (λ (x : Origin). record { span = s; origin = x }) (sym (nothing_more o g.settled)) ∙ e

  -- nor behind the line that ends the text
  pub going_ended : (e : Entry) (ls : List Line) → survey_with A s o (stores_of (ended (state_with g.left.header n) e ls)) ≡ survey_of A (plan F text)
      → record { span = s; origin = o } ≡ survey_of A (plan F text)
  going_ended e ls q = going_end (ap (survey_with A s o) (sym (ended_stores (state_with g.left.header n) e ls)) ∙ q)

-- what one record gives
origin_settled : (A : ℕ) (o : Origin) (r : Store) → (r.number ≡ 0 → ⊥) → Settled o → Settled (or_else o (origin_among A (r ∷ [])))
origin_settled A o r k h =
    by_test (eqb o.ordinal 0)
    (λ t. by_test (covers r.addr (length r.bytes) A) (λ c. rw (t, c) (λ e. absurd (k e))) (λ c. rw (t, c) (λ e. refl)))
    (λ t. rw t h)

-- what was made of the plan before a data line
abbrev pub Surveying : Format → List ℕ → ℕ → Span → Origin → ℕ → State → State → ℕ → ℕ → ℕ → ℕ → Type 0
Surveying F text A s o top n m from to a count =
    PutOn F top text (survey_of A (plan F text)) (λ p. survey_with A s o (stores_of p)) n m from to a count

-- a data line is taken into the survey
pub going_put : {F : Format} {text : List ℕ} {A : ℕ} {s : Span} {o : Origin} {n m : State} {at from to a count top : ℕ} → Going F text A s o n at
    → Surveying F text A s o top n m from to a count
    → (s' : Span) (o' : Origin) → s' ≡ widened s a count
    → o' ≡ or_else o (origin_among A (store_of (record { ordinal = m.number; place = from; address = a; count = count })
    (bytes_in (F.part (part text from to))) ∷ []))
    → Going F text A s' o' m to
going_put {F} {text} {A} {s} {o} {n} {m} {at} {from} {to} {a} {count} {top} g x s' o' p q =
    let r : Store = record { number = suc n.number; place = from; addr = a; bytes = x.ds } in
    let k : r.number ≡ 0 → ⊥ = λ e. omega (arith, e) in
    let span-is : s' ≡ widened s a (length x.ds) = p ∙ ap (widened s a) x.count_is in
    let same : store_of (record { ordinal = m.number; place = from; address = a; count = count }) (bytes_in (F.part (part text from to))) ≡ r
    = λ i. record { number = x.number_is i; place = from; addr = a; bytes = bytes_in (x.carries i) } in
    let origin-is : o' ≡ or_else o (origin_among A (r ∷ [])) = q ∙ ap (λ (y : Store). or_else o (origin_among A (y ∷ []))) same in
    record {
      left = x.goes_on (λ t. survey_with A s' o' (stores_of t))
          (λ t. (λ i. survey_with A (span-is i) (origin-is i) (stores_of t))
          ∙ ap (λ (y : Origin). record { span = span_with s (r ∷ stores_of t); origin = y }) (origin_more A o r k (stores_of t)));
      settled = subst Settled (sym origin-is) (origin_settled A o r k g.settled);
    }

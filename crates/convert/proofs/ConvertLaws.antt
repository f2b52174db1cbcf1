-- What the answers of a load and of a write say of the whole: one law for each way out of `convert`.
use mathlib.Core.Path.{◌≡◌, refl, sym, ap, ◌∙◌, subst}
use Prim.Native.Nat.{ℕ, ◌<◌}
use native.Mathlib.Omega.{arith}
use mathlib.Core.Bool.{cond}
use mathlib.Core.List.{List}
use lib.Dec.{lit<}
use lib.ListN.{length, take}
use Rattle.window.specs.declared.Refusal.{Refusal}
use Rattle.window.specs.Windows.{Window, row1, row16, window_of}
use Rattle.window.specs.Images.{Image}
use Rattle.window.specs.Entries.{Entry}
use Rattle.window.specs.Plans.{Summary, Outcome, refusal}
use Rattle.window.specs.Plans.Outcome.{refused, accepted}
use Rattle.lists.proofs.TestLaws.{Of, either}
use Rattle.window.specs.declared.Loaded.{Loaded}
use Rattle.text.specs.Formats.{Format, plan}
use Rattle.text.specs.Load.{load, load_answer, memory_after, marks_after}
use Rattle.text.specs.Write.{WriteOutcome, row17, text_of, write, write_answer, output_after}
use Rattle.text.specs.Write.WriteOutcome.{declined, wrote}
use Rattle.text.specs.Terms.{loaded, Accepted, written_after}
use Rattle.text.proofs.LoadLaws.{accepted_is}
use Rattle.srec.specs.Formats.{row18, srec}
use Rattle.window.specs.Headers.{row15}
use Rattle.tape.specs.Formats.{row19, row11_marks, tape}
use Rattle.formats.specs.declared.Format.{Format as Choice}
use Rattle.formats.specs.declared.Format.TheVariants.{Records, Tape}
use Rattle.formats.specs.Choices.{format_of}
use Rattle.formats.proofs.ChoiceLaws.{limits_of, lawful_of}
use Rattle.std.specs.Prelude.{Result, Ok, Err}
use Rattle.convert.specs.Conversions.{converted_by, output_by, converted, output_of}

-- a refused write has a reason
abbrev Reasoned : WriteOutcome → Type 0
Reasoned (declined f) = 0 < f.reason
Reasoned (wrote text) = Unit {0}

-- row 17 has one
last : (text : List ℕ) (room : ℕ) → Of Reasoned (cond (row17 text room) (declined (refusal 17 0 (length text))) (wrote text))
last text room = either (row17 text room) (record { got = lit< tt }) (record { got = tt })

-- every write gives a text, or is refused for a reason
write_reasoned : (format : Choice) (W : Window) (h : List ℕ) (e : Entry) (room : ℕ) → Of Reasoned (write (format_of format) W h e room)
unfolding write
write_reasoned Records W h e room =
    either (row1 W) (record { got = lit< tt }) (either (row15 h) (record { got = lit< tt }) (either (row16 W.marks) (record { got = lit< tt })
    (either (row18 e) (record { got = lit< tt }) (last (text_of srec W h e) room))))
write_reasoned (Tape edition) W h e room =
    either (row1 W) (record { got = lit< tt }) (either (row16 W.marks) (record { got = lit< tt }) (either (row19 h e) (record { got = lit< tt })
    (either (row11_marks W) (record { got = lit< tt }) (last (text_of (tape edition) W h e) room))))

-- the write behind a load is given what the load returned and left
pub written_is : (F : Format) (W : Window) (text : List ℕ) (room : ℕ) (l : Loaded) (m ms : List ℕ) → l ≡ loaded F W text
    → m ≡ memory_after W.memory (load W (plan F text))
    → ms ≡ marks_after W.marks (load W (plan F text))
    → write F (window_of W.base m ms) (take l.header.len l.header.bytes) l.entry room ≡ written_after F W text room
written_is F W text room l m ms e₀ e₁ e₂ =
    λ i. write F (window_of W.base (e₁ i) (e₂ i)) (take (e₀ i).header.len (e₀ i).header.bytes) (e₀ i).entry room

module _ (format : Choice) (W : Window) (text out : List ℕ) where
  -- the format that was told
  abbrev F : Format
  F = format_of format

  -- the answer and the output of a conversion
  abbrev pub Answers : Result ℕ Refusal → List ℕ → Type 0
  Answers r out' = (r ≡ converted F W text (length out)) × (out' ≡ output_of F out W text)

  -- the load's refusal is the answer, and nothing is written
  pub load_refused : (f : Refusal) → f ≡ (loaded F W text).refusal → (f.reason ≡ 0 → ⊥) → Answers (Err f) out
  load_refused f e z = go (load W (plan F text)) e
    where
      go : (o : Outcome) → f ≡ (load_answer o).refusal
          → (Err f ≡ converted_by o (written_after F W text (length out))) × (out ≡ output_by out o (written_after F W text (length out)))
      go (refused g) q = (ap Err q, refl)
      go (accepted s img) q = absurd (z (ap (λ (x : Refusal). x.reason) q))

  module _ (a : Accepted F W text) (w : WriteOutcome) (is : w ≡ written_after F W text (length out)) where
    -- behind an accepted load the write decides
    by_write : (r : Result ℕ Refusal) (out' : List ℕ) → ((s : Summary) (img : Image) → r ≡ converted_by (accepted s img) w)
        → out' ≡ output_after out w → Answers r out'
    by_write r out' q m =
        let l : (s : Summary) × (img : Image) × (load W (plan F text) ≡ accepted s img) = accepted_is F (limits_of format) (lawful_of format) W text a in
        (q l.0 l.1 ∙ (λ i. converted_by (sym l.2 i) (is i)), m ∙ (λ i. output_by out (sym l.2 i) (is i)))

    -- the write's refusal is the answer
    pub write_refused : (f : Refusal) (out' : List ℕ) → f ≡ (write_answer w).refusal → (f.reason ≡ 0 → ⊥) → out' ≡ output_after out w
        → Answers (Err f) out'
    write_refused f out' e z m = by_write (Err f) out' (λ s img. go s img w e) m
      where
        go : (s : Summary) (img : Image) (x : WriteOutcome) → f ≡ (write_answer x).refusal → Err f ≡ converted_by (accepted s img) x
        go s img (declined g) q = ap Err q
        go s img (wrote t) q = absurd (z (ap (λ (x : Refusal). x.reason) q))

    -- the text's length is the answer
    pub text_written : (n : ℕ) (out' : List ℕ) → (write_answer w).refusal.reason ≡ 0 → n ≡ (write_answer w).length → out' ≡ output_after out w
        → Answers (Ok n) out'
    text_written n out' z e m = by_write (Ok n) out' (λ s img. go s img w z e (subst Reasoned (sym is) (write_reasoned format _ _ _ (length out)).got)) m
      where
        go : (s : Summary) (img : Image) (x : WriteOutcome) → (write_answer x).refusal.reason ≡ 0 → n ≡ (write_answer x).length → Reasoned x
            → Ok n ≡ converted_by (accepted s img) x
        go s img (declined g) q l r = absurd (omega arith)
        go s img (wrote t) q l r = ap Ok l

-- A write in the format that is told, and what one without an output says of the room that is needed.
use mathlib.Core.Path.{◌≡◌, sym, ap, subst, ◌∙◌}
use Prim.Native.Nat.{ℕ}
use native.Mathlib.Omega.{arith}
use mathlib.Core.Bool.{false, cond}
use mathlib.Core.List.{List}
use lib.Dec.{ltb, eqb}
use lib.ListN.{length}
use borrow.Author.Tests.{eq-eqb, ne_eqb, le-ltb}
use Rattle.lists.proofs.TestLaws.{by_test}
use Rattle.window.specs.Entries.{Entry}
use Rattle.window.specs.declared.Written.{Written}
use Rattle.window.specs.Windows.{Window, row1, row16}
use Rattle.window.specs.Headers.{row15}
use Rattle.window.specs.Plans.{refusal}
use Rattle.text.specs.Formats.{Format}
use Rattle.text.specs.Write.{row17, text_of, write, write_answer, output_after}
use Rattle.text.specs.Write.WriteOutcome.{declined, wrote}
use Rattle.srec.specs.Formats.{row18, srec}
use Rattle.tape.specs.Formats.{row19, row11_marks, tape}
use Rattle.formats.specs.declared.Format.{Format as Choice}
use Rattle.formats.specs.declared.Format.TheVariants.{Records, Tape}
use Rattle.formats.specs.Choices.{format_of}
use Rattle.writer.specs.Rooms.{needed}

-- what a write of the chosen format answers and leaves is that of the format
pub write_chosen : (format choice : Choice) → format ≡ choice → (W : Window) (h : List ℕ) (e : Entry) (o out : List ℕ) (r : Written)
    → (r ≡ write_answer (write (format_of choice) W h e (length o))) × (out ≡ output_after o (write (format_of choice) W h e (length o)))
    → (r ≡ write_answer (write (format_of format) W h e (length o))) × (out ≡ output_after o (write (format_of format) W h e (length o)))
write_chosen format choice q W h e o out r p =
    subst (λ (x : Choice). (r ≡ write_answer (write (format_of x) W h e (length o))) × (out ≡ output_after o (write (format_of x) W h e (length o)))) (sym q) p

-- ---- the room that is needed

-- a write of that length
abbrev pub fits : ℕ → Written
fits n = record { refusal = refusal 0 0 0; length = n }

-- row 17 tells the length; every other answer stays
abbrev told : Written → Written
told w = cond (eqb w.refusal.reason 17) (fits w.refusal.place) w

-- a number is not below itself
not_below : (n : ℕ) → ltb n n ≡ false
not_below n = le-ltb n n (omega arith)

-- behind the rows of a format
last : (text : List ℕ) → told (write_answer (cond (row17 text 0) (declined (refusal 17 0 (length text))) (wrote text)))
    ≡ write_answer (cond (row17 text (length text)) (declined (refusal 17 0 (length text))) (wrote text))
unfolding row17
last text = rw (not_below (length text)) (by_test (ltb 0 (length text)) (λ e. rw e) (λ e. rw e))

-- the answer of a write without an output tells the room
room_told : (format : Choice) (W : Window) (h : List ℕ) (e : Entry) → told (write_answer (write (format_of format) W h e 0)) ≡ needed (format_of format) W h e
unfolding write needed
room_told Records W h e =
    by_test (row1 W) (λ a. rw a) (λ a. by_test (row15 h) (λ b. rw (a, b)) (λ b. by_test (row16 W.marks) (λ c. rw (a, b, c))
    (λ c. by_test (row18 e) (λ d. rw (a, b, c, d)) (λ d. rw (a, b, c, d) (last (text_of srec W h e))))))
room_told (Tape edition) W h e =
    by_test (row1 W) (λ a. rw a) (λ a. by_test (row16 W.marks) (λ b. rw (a, b)) (λ b. by_test (row19 h e) (λ c. rw (a, b, c))
    (λ c. by_test (row11_marks W) (λ d. rw (a, b, c, d)) (λ d. rw (a, b, c, d) (last (text_of (tape edition) W h e))))))

module _ (format : Choice) (W : Window) (h : List ℕ) (e : Entry) (w : Written) (is : w ≡ write_answer (write (format_of format) W h e 0)) where
  -- it told the length
  pub room_long : w.refusal.reason ≡ 17 → fits w.refusal.place ≡ needed (format_of format) W h e
  room_long q = sym (rw (eq-eqb _ 17 q)) ∙ ap told is ∙ room_told format W h e

  -- it told another row
  pub room_refused : (w.refusal.reason ≡ 17 → ⊥) → w ≡ needed (format_of format) W h e
  room_refused q = sym (rw (ne_eqb _ 17 q)) ∙ ap told is ∙ room_told format W h e

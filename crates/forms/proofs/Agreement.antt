-- The statements of specs/Agreement hold: packed calls are those of the byte form.
use mathlib.Core.Path.{◌≡◌, refl, sym, ap, ◌∙◌}
use Prim.Native.Nat.{ℕ}
use native.Mathlib.Omega.{arith}
use mathlib.Core.Bool.{Bool, true, false}
use mathlib.Core.List.{List}
use lib.ListN.{length, replicate, length-replicate}
use Rattle.lists.proofs.TestLaws.{by_test}
use Rattle.window.specs.Entries.{Entry}
use Rattle.window.specs.Windows.{Window, window_of}
use Rattle.window.specs.Headers.{row15}
use Rattle.window.specs.Images.{Image, marks_of}
use Rattle.window.specs.Plans.{refusal, Summary, Plan, Outcome}
use Rattle.window.specs.Plans.Outcome.{refused, accepted}
use Rattle.window.proofs.RowLaws.{allowed_is}
use Rattle.bits.specs.Bits.{pack, ones_of}
use Rattle.bits.proofs.PackLaws.{binary_replicate}
use Rattle.bits.proofs.CountLaws.{ones_cells}
use Rattle.marks.specs.declared.Form.TheVariants.{Packed}
use Rattle.marks.specs.Forms.{flags, plain, marks_left, row1_in, row16_in}
use Rattle.marks.proofs.FormLaws.{stored_clear, flags_clear, flags_are, flags_good, pack_clean, image_clean}
use Rattle.marks.proofs.RowLaws.{allowed_in, plain_allowed}
use Rattle.text.specs.Formats.{plan}
use Rattle.text.specs.Load.{load, load_answer, memory_after, marks_after}
use Rattle.text.specs.Formats.{Row, Format as TextFormat}
use Rattle.text.specs.Write.{write_by, write, write_answer}
use Rattle.srec.specs.Formats.{srec}
use Rattle.tape.specs.Formats.{tape}
use Rattle.text.proofs.LoadLaws.{load_inv}
use Rattle.formats.specs.declared.Format.{Format}
use Rattle.formats.specs.declared.Format.TheVariants.{Records, Tape}
use Rattle.formats.specs.Choices.{format_of}
use Rattle.formats.proofs.ChoiceLaws.{limits_of, lawful_of}
use Rattle.forms.specs.Calls.{load_in, answer_in, bad_row_in}
use Rattle.forms.specs.Agreement.{LoadAgrees, OnesAreData, WriteAgrees}

-- ---- loads

module _ (base : ℕ) (memory packed bytes : List ℕ) (allowed : row1_in Packed (window_of base memory packed) ≡ false)
    (same : length bytes ≡ length memory) (p : Plan) where
  -- the load is the byte form's
  same_outcome : load_in Packed (window_of base memory packed) p ≡ load (window_of base memory bytes) p
  unfolding load
  same_outcome = rw (allowed, allowed_is (window_of base memory bytes) same (allowed_in Packed (window_of base memory packed) allowed).1)

-- the ones of an image that a load leaves
pub ones_loaded : (format : Format) (W : Window) (text : List ℕ) (s : Summary) (img : Image) → load W (plan (format_of format) text) ≡ accepted s img
    → ones_of (pack (marks_of img)) ≡ s.cells
ones_loaded format W text s img q =
    ones_cells W.base img ∙ sym (load_inv (format_of format) (limits_of format) (lawful_of format) W text s img q).count

module _ (format : Format) (base : ℕ) (memory packed bytes text : List ℕ) (allowed : row1_in Packed (window_of base memory packed) ≡ false)
    (same : length bytes ≡ length memory) where
  -- the window with these mark bytes
  abbrev W : Window
  W = window_of base memory bytes

  answers : (o : Outcome) → load W (plan (format_of format) text) ≡ o → answer_in Packed o ≡ load_answer o
  answers (refused f) q = refl
  answers (accepted s img) q = rw (ones_loaded format W text s img q)

  -- the marks that are left
  clear_marks : replicate (length packed) 0 ≡ pack (replicate (length bytes) 0)
  clear_marks =
      ap (λ (n : ℕ). replicate n 0) (allowed_in Packed (window_of base memory packed) allowed).0 ∙ stored_clear Packed (length memory)
      ∙ ap (λ (n : ℕ). pack (replicate n 0)) (sym same)

  packed_as : (o : Outcome) → marks_left Packed packed o ≡ pack (marks_after bytes o)
  packed_as (refused f) = clear_marks
  packed_as (accepted s img) = refl

  unpacks : (o : Outcome) → load W (plan (format_of format) text) ≡ o → flags Packed (length memory) (marks_left Packed packed o) ≡ marks_after bytes o
  unpacks (refused f) q =
      ap (λ (k : ℕ). flags Packed (length memory) (replicate k 0)) (allowed_in Packed (window_of base memory packed) allowed).0
      ∙ flags_clear Packed (length memory) ∙ ap (λ (n : ℕ). replicate n 0) (sym same)
  unpacks (accepted s img) q =
      flags_are Packed img (length memory) (sym (load_inv (format_of format) (limits_of format) (lawful_of format) W text s img q).long) _ refl

  -- no spare bit is set
  no_spare_left : (o : Outcome) → load W (plan (format_of format) text) ≡ o → row16_in Packed (length memory) (pack (marks_after bytes o)) ≡ false
  no_spare_left (refused f) q =
      pack_clean (replicate (length bytes) 0) (length memory) (length-replicate (length bytes) 0 ∙ same) (binary_replicate (length bytes) 0 (omega arith))
  no_spare_left (accepted s img) q =
      image_clean img (length memory) (sym (load_inv (format_of format) (limits_of format) (lawful_of format) W text s img q).long)

pub load_agrees : LoadAgrees
load_agrees format base memory packed bytes text allowed same =
    let o : Outcome = load (window_of base memory bytes) (plan (format_of format) text) in
    let e : load_in Packed (window_of base memory packed) (plan (format_of format) text) ≡ o
    = same_outcome base memory packed bytes allowed same (plan (format_of format) text) in
    let packed-is = ap (marks_left Packed packed) e ∙ packed_as format base memory packed bytes text allowed same o in
    record {
      answer = ap (answer_in Packed) e ∙ answers format base memory packed bytes text allowed same o refl;
      memory_same = ap (memory_after memory) e;
      unpacked = ap (λ (x : Outcome). flags Packed (length memory) (marks_left Packed packed x)) e ∙ unpacks format base memory packed bytes text allowed same o refl;
      packed_marks = packed-is;
      no_spare = ap (row16_in Packed (length memory)) packed-is ∙ no_spare_left format base memory packed bytes text allowed same o refl;
    }

pub ones_are_data : OnesAreData
ones_are_data format W text s img q =
    by_test (row1_in Packed W) (λ t. absurd (refuses t))
    (λ t. let zeros : List ℕ = replicate (length W.memory) 0 in
    ones_loaded format (window_of W.base W.memory zeros) text s img
    (sym (same_outcome W.base W.memory W.marks zeros t (length-replicate (length W.memory) 0) (plan (format_of format) text)) ∙ q))
  where
    refuses : row1_in Packed W ≡ true → ⊥
    refuses t = let z : ◌≡◌ {A = Outcome} (refused (refusal 1 0 0)) (accepted s img) = rw t at q in let y : ◌≡◌ {A = ℕ} 0 1 = cc in omega arith

-- ---- writes

-- a write that does not give 1 was not refused by row 1
not_1 : (unfit : Bool) (bad : Row) (F : TextFormat) (V₀ : Window) (header : List ℕ) (entry : Entry) (room : ℕ)
    → ((write_answer (write_by unfit bad F V₀ header entry room)).refusal.reason ≡ 1 → ⊥) → unfit ≡ false
not_1 true bad F V₀ header entry room x = absurd (x refl)
not_1 false bad F V₀ header entry room x = refl

pub write_agrees : WriteAgrees
unfolding write
write_agrees Records W header entry room x y =
    let a = not_1 (row1_in Packed W) (bad_row_in Packed W) srec (plain Packed W) header entry room x in
    by_test (row15 header) (λ l. rw (a, plain_allowed Packed W a, l))
    (λ l. let b = not_given (λ t. y (rw (a, l, t))) in rw (a, plain_allowed Packed W a, l, b, flags_good Packed (length W.memory) W.marks b))
  where
    not_given : (row16_in Packed (length W.memory) W.marks ≡ true → ⊥) → row16_in Packed (length W.memory) W.marks ≡ false
    not_given f = by_test (row16_in Packed (length W.memory) W.marks) (λ t. absurd (f t)) (λ t. t)
write_agrees (Tape edition) W header entry room x y =
    let a = not_1 (row1_in Packed W) (bad_row_in Packed W) (tape edition) (plain Packed W) header entry room x in
    by_test (row16_in Packed (length W.memory) W.marks) (λ t. absurd (y (rw (a, t))))
    (λ b. rw (a, plain_allowed Packed W a, b, flags_good Packed (length W.memory) W.marks b))

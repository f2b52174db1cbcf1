-- "Overlay .. give[s] the byte form's answers .. and memory, and marks that unpack to the same" (Req 08), "where the packed call gives neither" 1
-- nor 16. The proofs are in proofs/Agreement.antt.
use Rattle.std.specs.Prelude.{◌≡◌, ℕ, true, false, length}
use Rattle.window.specs.Windows.{Window}
use Rattle.marks.specs.declared.Form.TheVariants.{Packed}
use Rattle.marks.specs.Forms.{flags, plain, row16_in}
use Rattle.window.specs.Plans.{passes}
use Rattle.overlay.specs.Refusals.{look_refusal_in}
use Rattle.overlay.specs.Looks.{look_source, look_part, look_place}
use Rattle.overlay.specs.Merges.{Lent, merge_answer, memory_after, marks_after}
use Rattle.overlay.specs.Forms.{look_source_in, look_part_in, look_place_in, plain_lent, refusal_in, merge_answer_in, memory_after_in, marks_after_in}

-- a packed look against the byte form's of the unpacked marks; a look has no other rows than 1 and 16
pub record SameLook (B P : Window) (a : ℕ) : Type 0 where
  pub source : look_source_in Packed B P a ≡ look_source (plain Packed B) (plain Packed P) a
  pub part : look_part_in Packed B P a ≡ look_part (plain Packed B) (plain Packed P) a
  pub place : (base patch : ℕ × ℕ) → look_place_in Packed B P a base patch ≡ look_place (plain Packed B) (plain Packed P) a base patch

abbrev pub LookAgrees : Type 0
LookAgrees = (B P : Window) (a : ℕ) → passes (look_refusal_in Packed B P) ≡ true → SameLook B P a

-- a packed merge against the byte form's of the unpacked marks
pub record SameMerge (base : ℕ) (B P : Lent) : Type 0 where
  pub answer : merge_answer_in Packed base B P ≡ merge_answer base (plain_lent Packed B) (plain_lent Packed P)
  pub memory_same : memory_after_in Packed base B P ≡ memory_after base (plain_lent Packed B) (plain_lent Packed P)
  pub unpacked : flags Packed (length B.memory) (marks_after_in Packed base B P) ≡ marks_after base (plain_lent Packed B) (plain_lent Packed P)
  -- an accepted one leaves no spare bit set: row 16 never refuses its marks
  pub no_spare : passes (refusal_in Packed base B P) ≡ true → row16_in Packed (length B.memory) (marks_after_in Packed base B P) ≡ false

-- it may be refused by row 15, as the byte form's is then
abbrev pub MergeAgrees : Type 0
MergeAgrees =
    (base : ℕ) (B P : Lent) → ((refusal_in Packed base B P).reason ≡ 1 → ⊥) → ((refusal_in Packed base B P).reason ≡ 16 → ⊥)
    → SameMerge base B P

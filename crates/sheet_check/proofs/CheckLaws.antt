-- The checking pass over a sheet: a law for each answer, and for a turn of the loop.
use mathlib.Core.Path.{◌≡◌, refl, sym, ap, ◌∙◌, subst}
use Prim.Native.Nat.{ℕ, zero, suc, ◌+◌, ◌-◌, ◌*◌, ◌≤◌}
use native.Mathlib.Omega.{arith}
use mathlib.Core.Bool.{false}
use mathlib.Core.List.{List, ◌∷◌}
use lib.ListN.{length, replicate}
use Rattle.std.specs.Prelude.{Option, Some, None, Result, Ok, Err}
use Rattle.window.specs.declared.Refusal.{Refusal}
use Rattle.window.specs.Images.{Image, blank, marks_of}
use Rattle.window.specs.Plans.{refusal, Outcome, row12, row13, filled}
use Rattle.window.specs.Plans.Outcome.{refused}
use Rattle.window.specs.Marks.{claim_row, claimed}
use Rattle.window.proofs.ClaimLaws.{claim_refused, claim_granted, claim_marks}
use Rattle.symbol_table.specs.Symbols.{Symbol}
use Rattle.operands.specs.Values.{row_of}
use Rattle.sheet_fields.specs.declared.Fault.{Fault}
use Rattle.sheet_fields.specs.declared.Store.{Store}
use Rattle.sheet_fields.specs.Fields.{fields_from}
use Rattle.sheets.specs.Sheets.{planned}
use Rattle.sheet_fields.specs.Pairs.{pair_at}
use Rattle.sheet_check.specs.Checks.{Told}
use Rattle.sheets.proofs.TurnLaws.{bytes_at}
use Rattle.sheets.proofs.WalkLaws.{whole_of, Walk, walk_start, bytes_long, walk_end, walk_bad, bad_which, store_within, walk_store, walk_put}

-- the marks show the image of a walk; the numbers are small, since each field takes its bytes
pub record Going (S : List Symbol) (sheet : List ℕ) (base size : ℕ) (marks : List ℕ) (at k n c : ℕ) : Type 0 where
  pub img : Image
  pub walk : Walk S sheet base size img k n c at
  pub marks_are : marks ≡ marks_of img
  pub few : (3 * k ≤ at) × (n ≤ at) × (c ≤ at)

blank_marks : (n : ℕ) → replicate n 0 ≡ marks_of (blank n)
blank_marks zero = refl
blank_marks (suc n) = ap {B = List ℕ} (λ (r : List ℕ). 0 ∷ r) (blank_marks n)

-- before the first field
pub going_start : (S : List Symbol) (sheet : List ℕ) (base : ℕ) (marks : List ℕ) → marks ≡ replicate (length marks) 0 → Going S sheet base (length marks) marks 0 0 0 0
going_start S sheet base marks m =
    record {
      img = blank (length marks);
      walk = walk_start S sheet base (length marks);
      marks_are = m ∙ blank_marks (length marks);
      few = (omega arith, omega arith, omega arith);
    }

-- an answer that is a refusal
tell : (f : Refusal) (o : Outcome) (marks : List ℕ) → refused f ≡ o → Told o (Err f) marks
tell f o marks e = subst (λ (x : Outcome). Told x (Err f) marks) e refl

module _ {S : List Symbol} {sheet : List ℕ} {base size : ℕ} {marks : List ℕ} {at k n c : ℕ} (g : Going S sheet base size marks at k n c) where
  abbrev whole : Outcome
  whole = whole_of S sheet base size

  -- no field is left
  pub told_end : None ≡ pair_at S sheet at → Told whole (Ok (record { records = n; cells = c })) marks
  told_end q =
      subst (λ (o : Outcome). Told o (Ok (record { records = n; cells = c })) marks) (walk_end S sheet base size g.img k n c at g.walk q) (refl, refl, g.marks_are)

  module _ (b : Fault) (q : Some (Err b) ≡ pair_at S sheet at) where
    -- rows 25, 26 and 27
    pub told_bad : Told whole (Err (refusal (row_of b.error) (k + b.which) b.place)) marks
    told_bad = tell _ whole marks (walk_bad S sheet base size g.img k n c at g.walk b q)

    -- the field's number fits
    pub which_small : b.which ≤ 2
    which_small = bad_which S sheet base size g.img k n c at g.walk b q

  module _ (p : Store) (q : Some (Ok p) ≡ pair_at S sheet at) where
    abbrev bytes : List ℕ
    bytes = bytes_at sheet p.from p.to

    -- where the bytes stand
    pub where_at : (at + 6 ≤ p.from) × (p.from ≤ p.to) × (p.to ≤ length sheet)
    where_at = store_within S sheet base size g.img k n c at g.walk p q

    long : p.to - p.from ≡ length bytes
    long = sym (bytes_long sheet p.from p.to where_at.1 where_at.2)

    module _ (row : ℕ) (d : row ≡ claim_row base marks p.address (p.to - p.from)) where
      row_is : row ≡ claim_row base (marks_of g.img) p.address (length bytes)
      row_is = d ∙ (λ i. claim_row base (g.marks_are i) p.address (long i))

      -- rows 12 and 13
      pub told_claim : (marks' : List ℕ) → (row ≡ 0 → ⊥) → Told whole (Err (refusal row (k + 2) p.place)) marks'
      told_claim marks' z =
          tell _ whole marks'
          (sym (claim_refused base g.img p.address bytes row (k + 2) p.place (planned S (k + 2) (n + 1) (c + length bytes) (fields_from (g.walk.fuel - 1 - 1) sheet p.to)) row_is z)
          ∙ walk_store S sheet base size g.img k n c at g.walk p q)

      -- the cells are claimed, and the walk goes on
      pub going_put : (marks' : List ℕ) → row ≡ 0 → marks' ≡ claimed base marks p.address (p.to - p.from) → Going S sheet base size marks' p.to (k + 2) (n + 1) (c + (p.to - p.from))
      going_put marks' z m =
          let granted : 0 ≡ claim_row base (marks_of g.img) p.address (length bytes) = sym z ∙ row_is in
          let free : (row12 base (length g.img) p.address (length bytes) ≡ false) × (row13 base g.img p.address (length bytes) ≡ false)
          = claim_granted base g.img p.address bytes granted in
          record {
            img = filled base g.img p.address bytes;
            walk = subst (λ (j : ℕ). Walk S sheet base size (filled base g.img p.address bytes) (k + 2) (n + 1) (c + j) p.to) (sym long)
                (walk_put S sheet base size g.img k n c at g.walk p q free.0 free.1);
            marks_are = m ∙ (λ i. claimed base (g.marks_are i) p.address (long i)) ∙ claim_marks base g.img p.address bytes granted;
            few = (
              omega (arith, g.few.0, where_at.0, where_at.1),
              omega (arith, g.few.1, where_at.0, where_at.1),
              omega (arith, g.few.2, where_at.0, where_at.1),
            );
          }

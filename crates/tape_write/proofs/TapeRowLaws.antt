-- The rows of a write of a tape in their order, one law for each return of `write`.
use mathlib.Core.Path.{◌≡◌}
use Prim.Native.Nat.{ℕ, ◌≤◌, ◌<◌}
use mathlib.Core.Bool.{true, false}
use mathlib.Core.List.{List}
use lib.ListN.{length}
use borrow.Author.Tests.{lt-ltb, le-ltb}
use Rattle.window.specs.Cells.{shown}
use Rattle.window.specs.Plans.{refusal}
use Rattle.text.specs.Write.{text_of, row17}
use Rattle.text.specs.Write.WriteOutcome.{declined, wrote}
use Rattle.text.proofs.WriteLaws.{Call, outcome}
use Rattle.tape.specs.declared.Edition.{Edition}
use Rattle.tape.specs.Canonical.{canonical}
use Rattle.tape.specs.Formats.{row19, first_above, row11_marks, tape}

module _ (edition : Edition) (k : Call) (allowed : k.unfit ≡ false) where
  -- the marks of the window
  abbrev marks : List ℕ
  marks = k.window.marks

  -- row 16, at its place
  pub row_16 : (place : ℕ) → (k.bad.applies ≡ true) × (k.bad.refusal ≡ refusal 16 0 place) → outcome (tape edition) k ≡ declined (refusal 16 0 place)
  row_16 place q = rw (allowed, q.0, q.1)

  module _ (none : k.bad.applies ≡ false) where
    -- row 19
    pub row_19 : row19 k.header k.entry ≡ true → outcome (tape edition) k ≡ declined (refusal 19 0 0)
    row_19 q = rw (allowed, none, q)

    module _ (cells-alone : row19 k.header k.entry ≡ false) (above : ℕ) (found : above ≡ first_above k.window.base marks) where
      -- row 11, at its place
      pub row_11 : above < length marks → outcome (tape edition) k ≡ declined (refusal 11 0 above)
      unfolding row11_marks
      row_11 h = rw (allowed, none, cells-alone, ← found, lt-ltb above (length marks) h)

      module _ (low : length marks ≤ above) where
        -- the canonical tape
        abbrev text : List ℕ
        text = canonical edition (shown k.window)

        -- row 17, with the length needed
        pub row_17 : k.room < length text → outcome (tape edition) k ≡ declined (refusal 17 0 (length text))
        unfolding row11_marks row17 text_of
        row_17 h = rw (allowed, none, cells-alone, ← found, le-ltb above (length marks) low, lt-ltb k.room (length text) h)

        -- no row applies
        pub is_written : length text ≤ k.room → outcome (tape edition) k ≡ wrote text
        unfolding row11_marks row17 text_of
        is_written h = rw (allowed, none, cells-alone, ← found, le-ltb above (length marks) low, le-ltb k.room (length text) h)

-- The rows of a write of S-records in their order, one law for each return of `write`.
use mathlib.Core.Path.{◌≡◌, sym}
use Prim.Native.Nat.{ℕ, ◌≤◌, ◌<◌}
use mathlib.Core.Bool.{true, false}
use mathlib.Core.List.{List}
use lib.ListN.{length}
use borrow.Author.Tests.{lt-ltb, le-ltb}
use Rattle.std.specs.Prelude.{None, Some}
use Rattle.window.specs.Windows.{Window}
use Rattle.window.specs.Cells.{shown}
use Rattle.window.specs.Plans.{refusal}
use Rattle.text.specs.Write.{text_of, row17}
use Rattle.text.specs.Write.WriteOutcome.{declined, wrote}
use Rattle.text.proofs.WriteLaws.{Call, outcome}
use Rattle.srec.specs.Canonical.{width_for}
use Rattle.srec.specs.Formats.{row18, srec}
use Rattle.window.specs.Headers.{row15}
use Rattle.formats.specs.declared.Format.TheVariants.{Records}
use Rattle.size.specs.declared.Size.{Size}
use Rattle.size.specs.Sizes.{size_of}
use Rattle.srec_text.specs.Pieces.{length_for}
use Rattle.srec_text.proofs.LengthLaws.{length_canonical}

-- what is computed before the text is written is its length
pub need_is : (W : Window) (header : List ℕ) (e : ℕ) (size : Size) (width need : ℕ) → size ≡ size_of Records (shown W) e
    → width ≡ width_for size.largest
    → need ≡ length_for size.records size.cells (length header) width → need ≡ length (text_of srec W header (Some e))
unfolding text_of
need_is W header e size width need p q r = rw (r, q, p) (sym (length_canonical (shown W) header e))

module _ (k : Call) (allowed : k.unfit ≡ false) where
  -- row 15
  pub row_15 : 252 < length k.header → outcome srec k ≡ declined (refusal 15 0 0)
  unfolding row15
  row_15 h = rw (allowed, lt-ltb 252 (length k.header) h)

  module _ (short : length k.header ≤ 252) where
    -- row 16, at its place
    pub row_16 : (place : ℕ) → (k.bad.applies ≡ true) × (k.bad.refusal ≡ refusal 16 0 place) → outcome srec k ≡ declined (refusal 16 0 place)
    unfolding row15
    row_16 place q = rw (allowed, le-ltb 252 (length k.header) short, q.0, q.1)

    module _ (none : k.bad.applies ≡ false) where
      -- row 18
      pub row_18 : k.entry ≡ None → outcome srec k ≡ declined (refusal 18 0 0)
      unfolding row15 row18
      row_18 q = rw (allowed, le-ltb 252 (length k.header) short, none, q)

      module _ (e : ℕ) (there : k.entry ≡ Some e) where
        -- the canonical text
        abbrev text : List ℕ
        text = text_of srec k.window k.header (Some e)

        -- row 17, with the length needed
        pub row_17 : k.room < length text → outcome srec k ≡ declined (refusal 17 0 (length text))
        unfolding row15 row17 row18
        row_17 h = rw (allowed, le-ltb 252 (length k.header) short, none, there, lt-ltb k.room (length text) h)

        -- no row applies
        pub is_written : length text ≤ k.room → outcome srec k ≡ wrote text
        unfolding row15 row17 row18
        is_written h = rw (allowed, le-ltb 252 (length k.header) short, none, there, le-ltb k.room (length text) h)

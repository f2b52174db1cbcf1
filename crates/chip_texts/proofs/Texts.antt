-- The statements of specs/Texts.antt hold.
use mathlib.Core.Path.{◌≡◌, refl, sym, ap, ◌∙◌, subst}
use Prim.Native.Nat.{ℕ, ◌+◌, ◌*◌, ◌/◌, ◌%◌, ◌^◌, ◌≤◌, ◌<◌}
use native.Mathlib.Nat.{div-le_self}
use native.Mathlib.Omega.{arith}
use mathlib.Core.Bool.{true, false}
use mathlib.Core.List.{List, []}
use mathlib.Core.Logic.{◌↔◌}
use lib.Dec.{ltb}
use lib.ListN.{length, get_or, length-map}
use borrow.Author.Tests.{ltb-true, ltb-false}
use Rattle.lists.proofs.TestLaws.{by_test}
use Rattle.window.specs.Entries.{Entry}
use Rattle.std.specs.Prelude.{Some, None}
use Rattle.window.specs.declared.Loaded.{Loaded}
use Rattle.window.specs.Windows.{Window, Allowed, Marked, row16}
use Rattle.window.specs.Images.{Image, mark}
use Rattle.window.specs.Cells.{Cell, cells, shown}
use Rattle.window.specs.Plans.{passes}
use Rattle.window.specs.Plans.Outcome.{accepted}
use Rattle.window.proofs.CellLaws.{In, in_high}
use Rattle.window.proofs.OrderLaws.{rising_cells, rising_image, in_low}
use Rattle.window.proofs.RowLaws.{allowed_inv, allowed_is}
use Rattle.window.proofs.ViewLaws.{length_overlaid, shown_marked}
use Rattle.text.specs.Formats.{Format, plan}
use Rattle.text.specs.Load.{load, load_answer}
use Rattle.text.specs.Write.{text_of, row17, write}
use Rattle.text.specs.Write.WriteOutcome.{wrote}
use Rattle.text.specs.Terms.{Accepted, HoldsCells, after, text_header, text_entry}
use Rattle.text.proofs.FormatLaws.{Limits, HeaderOk, EntryOk, Storable, Lawful}
use Rattle.text.proofs.LoadLaws.{canonical_summary}
use Rattle.text.proofs.LoadLaws.{write_is, load_inv, marks_are}
use Rattle.text.proofs.RoundTrip.{text_cells, refilled, load_canonical, cells_back}
use Rattle.srec.specs.Formats.{srec}
use Rattle.srec.proofs.LimitLaws.{limits}
use Rattle.srec.proofs.SrecFormatLaws.{lawful}
use Rattle.tape.specs.Formats.{tape}
use Rattle.tape.proofs.TapeLimitLaws.{limits as tape-limits}
use Rattle.tape.proofs.TapeFormatLaws.{lawful as tape-lawful}
use Rattle.chips.specs.Shares.{share}
use Rattle.chips.specs.Boards.{Buffers, Board, chip_at, chip_window}
use Rattle.chips.specs.Refusals.{deal_refusal, collect_refusal}
use Rattle.chips.specs.Calls.{dealt_chip}
use Rattle.chips.specs.Facts.{Fits, SameWindow, SameLengths, collected_window}
use Rattle.chips.proofs.TestLaws.{some_chips, at_most_four}
use Rattle.chips.proofs.ShareLaws.{Even, even, share_least, share_out}
use Rattle.chips.proofs.ImageLaws.{image_clean, length_image, shows}
use Rattle.chips.proofs.FitLaws.{by_four, Has, deal_inv, collect_is}
use Rattle.chips.proofs.Facts.{dealt_has, dealt_shows, deal_by_address, collect_by_address}
use Rattle.chip_texts.specs.Texts.{chip_text, load_window, loaded_chip, loaded_board, Restored, TextsRestore, TapesRestore}

-- what every format needs: its limits hold an empty header, the entry, and the address of each cell on its chip
module _ (F : Format) (L : Limits) (laws : Lawful F L) (e : Entry) (no_header : HeaderOk L []) (has-entry : EntryOk L e)
    (k : ℕ) (W : Window) (b v : Board) (h : passes (deal_refusal k W b) ≡ true) (bytes : (i : ℕ) → get_or W.memory i 0 < 256)
    (low : (A B : ℕ) → Marked W A B → A / k < L.top) (same : SameLengths v b)
  where
    abbrev n : ℕ
    n = length W.memory

    fit : Fits k W b
    fit = (deal_inv k W b h).0

    evenly : Even k n
    evenly = even k n (some_chips k fit.count) fit.even

    module _ (c : ℕ) (u : c < 4) where
      -- the chip that was dealt to, and the one that its text is loaded into
      abbrev C : Window
      C = chip_window k W.base (dealt_chip k W b c)

      abbrev D : Window
      D = load_window k W v c

      abbrev cs : List Cell
      cs = shown C

      mine : (length (chip_at v c).memory ≡ share k c n) × (length (chip_at v c).marks ≡ share k c n)
      mine = ((same c).0 ∙ (fit.shares c u).0, (same c).1 ∙ (fit.shares c u).1)

      reach : W.base / k + share k c n ≤ 2 ^ 32
      reach = omega (arith, (allowed_inv W fit.allowed).1, div-le_self W.base k, share_least k c n, div-le_self n k)

      allowed_C : Allowed C
      allowed_C = let e = dealt_has k W b h c u in allowed_is C (e.1 ∙ sym e.0) (omega (arith, e.0, reach))

      allowed_D : Allowed D
      allowed_D = allowed_is D (mine.1 ∙ sym mine.0) (omega (arith, mine.0, reach))

      clean_C : row16 C.marks ≡ false
      clean_C = (dealt_shows k W b h c u).0.clean

      marked_C : (A B : ℕ) → In A B cs ↔ Marked C A B
      marked_C = shown_marked C allowed_C clean_C

      long_C : length (shows C) ≡ share k c n
      long_C = let e = dealt_has k W b h c u in length_image C.memory C.marks (e.1 ∙ sym e.0) ∙ e.0

      -- a cell of the chip is one of the whole
      whole_cell : (A B : ℕ) → c < k → Marked C A B → Marked W (k * A + c) B
      whole_cell A B l m =
          (deal_by_address k W b h (k * A + c) B).1
          (rw (evenly.its_chip c A l, evenly.its_place c A l) m)

      small : (A B : ℕ) → Marked C A B → (A < L.top) × (B < 256)
      small A B m =
          by_test (ltb c k)
          (λ t. let l = ltb-true c k t in
          let w = whole_cell A B l m in
          (subst (λ (x : ℕ). x < L.top) (evenly.its_place c A l) (low (k * A + c) B w), subst (λ (x : ℕ). x < 256) w.3 (bytes w.0)))
          (λ t. absurd (omega (arith, m.1, (dealt_has k W b h c u).1, share_out k c n (ltb-false c k t))))

      storable : Storable L cs [] e
      storable = record {
        rising = rising_image C.base (shows C);
        small = λ A B i. small A B ((marked_C A B).0 i);
        header = no_header;
        entry = has-entry;
      }

      -- its text, in the other window
      abbrev t : List ℕ
      t = F.canonical cs [] e

      holds : HoldsCells F D t
      holds A B i =
          let j : In A B cs = (text_cells F L laws cs [] e storable A B).1 i in
          (in_low A B C.base cs (rising_cells C.base (shows C)) j, omega (arith, in_high A B C.base (shows C) j, long_C, mine.0))

      abbrev img : Image
      img = refilled F L laws cs [] e storable D

      loads_as : load D (plan F t) ≡ accepted (canonical_summary F L laws cs [] e) img
      loads_as = load_canonical F L laws cs [] e storable D allowed_D holds

      loads : Accepted F D t
      loads = ap (λ (x : Loaded). x.refusal.reason) (ap load_answer loads_as)

      -- its header and entry are those it was written with
      titled : text_header F t ≡ []
      titled = sym (load_inv F L laws D t (canonical_summary F L laws cs [] e) img loads_as).header

      entered : text_entry F t ≡ e
      entered = sym (load_inv F L laws D t (canonical_summary F L laws cs [] e) img loads_as).entry

      -- the writer gives it
      writes : (room : ℕ) → row17 (text_of F C [] e) room ≡ false → write F C [] e room ≡ wrote (text_of F C [] e)
      writes room r = write_is F L laws C [] e room allowed_C clean_C storable r

      long_img : length D.memory ≡ length img
      long_img = (load_inv F L laws D t (canonical_summary F L laws cs [] e) img loads_as).long

      -- what it leaves: as long as before, marks of 0 and 1, and the chip's cells
      left_has : (length (after F D t).memory ≡ share k c n) × (length (after F D t).marks ≡ share k c n)
      left_has = rw loads_as (length_overlaid D.memory img ∙ mine.0, length-map img mark ∙ sym long_img ∙ mine.0)

      left_clean : row16 (after F D t).marks ≡ false
      left_clean = rw loads_as (image_clean img)

      left_cells : (A B : ℕ) → Marked (after F D t) A B ↔ Marked C A B
      left_cells A B =
          let back : cells D.base img ≡ cs = cells_back F L laws cs [] e storable D loads_as in
          let m = marks_are F L laws D t (canonical_summary F L laws cs [] e) img loads_as A B in
          (λ x. (marked_C A B).0 (subst (In A B) back (m.0 x)), λ x. m.1 (subst (In A B) (sym back) ((marked_C A B).1 x)))

    -- what holds of each loaded chip holds of those of the board
    of_loaded : (P : ℕ → Buffers → Type 0) → ((c : ℕ) → c < 4 → P c (loaded_chip F e k W b v c)) → (c : ℕ) → c < 4 → P c (chip_at (loaded_board F e k W b v) c)
    of_loaded P p = by_four (λ c. P c (chip_at (loaded_board F e k W b v) c)) (p 0 (omega arith)) (p 1 (omega arith)) (p 2 (omega arith)) (p 3 (omega arith))

    module _ (R : Window) (z : SameWindow R W) where
      loaded_fits : Fits k R (loaded_board F e k W b v)
      unfolding loaded_chip chip_text text_of
      loaded_fits =
          let a = allowed_inv W fit.allowed in
          record {
            count = fit.count;
            base = rw z.base fit.base;
            even = rw z.memory fit.even;
            allowed = allowed_is R (z.marks ∙ a.0 ∙ sym z.memory) (omega (arith, z.base, z.memory, a.1));
            shares = rw z.memory (of_loaded (λ c x. Has (share k c n) x) left_has);
          }

      loaded_clean : (c : ℕ) → c < 4 → row16 (chip_at (loaded_board F e k W b v) c).marks ≡ false
      unfolding loaded_chip chip_text text_of
      loaded_clean = of_loaded (λ c x. row16 x.marks ≡ false) left_clean

      loaded_cells : (c : ℕ) → c < 4 → (A B : ℕ)
          → Marked (chip_window k W.base (chip_at (loaded_board F e k W b v) c)) A B ↔ Marked (chip_window k W.base (dealt_chip k W b c)) A B
      unfolding loaded_chip chip_text text_of
      loaded_cells = of_loaded (λ c x. (A B : ℕ) → Marked (chip_window k W.base x) A B ↔ Marked (chip_window k W.base (dealt_chip k W b c)) A B) left_cells

      collects : passes (collect_refusal k R (loaded_board F e k W b v)) ≡ true
      collects = rw (collect_is k R (loaded_board F e k W b v) loaded_fits loaded_clean)

      same_cells : (A B : ℕ) → Marked (collected_window k R (loaded_board F e k W b v)) A B ↔ Marked W A B
      same_cells A B =
          let c : ℕ = A % k in
          let u : c < 4 = omega (arith, evenly.chip A, at_most_four k fit.count) in
          let x = collect_by_address k R (loaded_board F e k W b v) collects A B in
          let y = loaded_cells c u (A / k) B in
          let w = deal_by_address k W b h A B in
          let to : Marked (chip_window k R.base (chip_at (loaded_board F e k W b v) c)) (A / k) B → Marked (chip_window k W.base (chip_at (loaded_board F e k W b v) c)) (A / k) B
          = λ m. subst (λ (base : ℕ). Marked (chip_window k base (chip_at (loaded_board F e k W b v) c)) (A / k) B) z.base m in
          let from : Marked (chip_window k W.base (chip_at (loaded_board F e k W b v) c)) (A / k) B → Marked (chip_window k R.base (chip_at (loaded_board F e k W b v) c)) (A / k) B
          = λ m. subst (λ (base : ℕ). Marked (chip_window k base (chip_at (loaded_board F e k W b v) c)) (A / k) B) (sym z.base) m in
          (λ m. w.1 (y.0 (to (x.0 m))), λ m. x.1 (from (y.1 (w.0 m))))

      restored : Restored F e k R W b v
      unfolding chip_text text_of
      restored = record {
        writes = λ c room u r. writes c u room r;
        no_header = titled;
        its_entry = entered;
        loads = loads;
        collects = collects;
        same_cells = same_cells;
      }

-- the chips' texts restore the image
pub texts_restore : TextsRestore
texts_restore k R W b v h bytes z same =
    restored srec limits lawful (Some 0) (record { bytes = tt; short = omega arith }) (record { present = refl; small = omega arith })
    k W b v h bytes below same R z
  where
    below : (A B : ℕ) → Marked W A B → A / k < 2 ^ 32
    below A B w = let a = allowed_inv W (deal_inv k W b h).0.allowed in omega (arith, div-le_self A k, a.0, a.1, w.1, w.4)

-- so do their tapes
pub tapes_restore : TapesRestore
tapes_restore edition k R W b v h bytes low z same =
    restored (tape edition) tape-limits (tape-lawful edition) None (record { bytes = tt; short = omega arith }) (record { present = refl; small = omega arith })
    k W b v h bytes low same R z

-- The texts of chips (Req 12): "a text by a separate call of 01's writer", loaded again and collected. The request asks for S-records; tapes
-- come with the same proof. The proofs are in proofs/Texts.antt.
use Rattle.std.specs.Prelude.{◌≡◌, ℕ, ◌/◌, ◌^◌, ◌<◌, true, false, List, [], ◌↔◌, get_or}
use Rattle.window.specs.Entries.{Entry}
use Rattle.std.specs.Prelude.{Some, None}
use Rattle.window.specs.Windows.{Window, Marked}
use Rattle.window.specs.Plans.{passes}
use Rattle.text.specs.Formats.{Format}
use Rattle.text.specs.Write.{text_of, row17, write}
use Rattle.text.specs.Write.WriteOutcome.{wrote}
use Rattle.text.specs.Terms.{Accepted, after, text_header, text_entry}
use Rattle.srec.specs.Formats.{srec}
use Rattle.tape.specs.declared.Edition.{Edition}
use Rattle.tape.specs.Formats.{tape}
use Rattle.chips.specs.Boards.{Buffers, Board, buffers_of, chip_at, chip_window}
use Rattle.chips.specs.Refusals.{deal_refusal, collect_refusal}
use Rattle.chips.specs.Calls.{dealt_chip}
use Rattle.chips.specs.Facts.{SameWindow, SameLengths, collected_window}

-- the canonical text of a chip of a board that was dealt to, with an empty header and this entry
unfoldable pub chip_text : Format → Entry → ℕ → Window → Board → ℕ → List ℕ
chip_text F e k W b chip = text_of F (chip_window k W.base (dealt_chip k W b chip)) [] e

-- the window that it is loaded into: a chip of another board v, at the same base, whatever its buffers hold
abbrev pub load_window : ℕ → Window → Board → ℕ → Window
load_window k W v chip = chip_window k W.base (chip_at v chip)

-- its buffers after the chip's text was loaded there
unfoldable pub loaded_chip : Format → Entry → ℕ → Window → Board → Board → ℕ → Buffers
loaded_chip F e k W b v chip = let D = after F (load_window k W v chip) (chip_text F e k W b chip) in buffers_of D.memory D.marks

abbrev pub loaded_board : Format → Entry → ℕ → Window → Board → Board → Board
loaded_board F e k W b v =
    record { first = loaded_chip F e k W b v 0; second = loaded_chip F e k W b v 1; third = loaded_chip F e k W b v 2; fourth = loaded_chip F e k W b v 3 }

-- the writer gives each chip's text where the output has room, row 17 being the only one left; it has an empty header and the entry; the
-- texts load into any buffers of the chips' lengths, and what they load to, collected in any window R of the whole's base and length, is
-- the image
pub record Restored (F : Format) (e : Entry) (k : ℕ) (R W : Window) (b v : Board) : Type 0 where
  pub writes : (chip room : ℕ) → chip < 4 → row17 (chip_text F e k W b chip) room ≡ false
      → write F (chip_window k W.base (dealt_chip k W b chip)) [] e room ≡ wrote (chip_text F e k W b chip)
  pub no_header : (chip : ℕ) → chip < 4 → text_header F (chip_text F e k W b chip) ≡ []
  pub its_entry : (chip : ℕ) → chip < 4 → text_entry F (chip_text F e k W b chip) ≡ e
  pub loads : (chip : ℕ) → chip < 4 → Accepted F (load_window k W v chip) (chip_text F e k W b chip)
  pub collects : passes (collect_refusal k R (loaded_board F e k W b v)) ≡ true
  pub same_cells : (A B : ℕ) → Marked (collected_window k R (loaded_board F e k W b v)) A B ↔ Marked W A B

-- of S-records: "a chip's text has an empty header and entry 0". The whole's memory holds bytes
abbrev pub TextsRestore : Type 0
TextsRestore =
    (k : ℕ) (R W : Window) (b v : Board) → passes (deal_refusal k W b) ≡ true → ((i : ℕ) → get_or W.memory i 0 < 256)
    → SameWindow R W → SameLengths v b → Restored srec (Some 0) k R W b v

-- of tapes, of either edition, which have no entry, where no marked cell of a chip lies above FFFF
abbrev pub TapesRestore : Type 0
TapesRestore =
    (edition : Edition) (k : ℕ) (R W : Window) (b v : Board) → passes (deal_refusal k W b) ≡ true → ((i : ℕ) → get_or W.memory i 0 < 256)
    → ((A B : ℕ) → Marked W A B → A / k < 2 ^ 16) → SameWindow R W → SameLengths v b → Restored (tape edition) None k R W b v

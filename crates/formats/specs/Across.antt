-- Tapes as S-record text or of the other edition, and S-record text as tapes: the cells are the same on both sides. The proofs are in proofs/AcrossFormats.antt.
use Rattle.std.specs.Prelude.{◌≡◌, ℕ, ◌^◌, ◌<◌, false, List, []}
use Rattle.std.specs.Prelude.{None, Some}
use Rattle.window.specs.Windows.{Window}
use Rattle.text.specs.Write.{text_of, row17}
use Rattle.text.specs.Terms.{CellOf, loaded, Accepted, after, header_bytes}
use Rattle.text.specs.Across.{CarriedOver}
use Rattle.srec.specs.Formats.{srec}
use Rattle.tape.specs.declared.Edition.{Edition}
use Rattle.tape.specs.Formats.{tape}

-- what was loaded from a tape can be written as S-record text once an entry is given, where there is room
abbrev pub TapeToRecords : Type 0
TapeToRecords =
    (edition : Edition) (W : Window) (t : List ℕ) (a room : ℕ) → Accepted (tape edition) W t → a < 2 ^ 32
    → row17 (text_of srec (after (tape edition) W t) (header_bytes (loaded (tape edition) W t)) (Some a)) room ≡ false
    → CarriedOver (tape edition) srec W t (header_bytes (loaded (tape edition) W t)) (Some a) room

-- and as a tape of the other edition
abbrev pub TapeToTape : Type 0
TapeToTape =
    (edition other : Edition) (W : Window) (t : List ℕ) (room : ℕ) → Accepted (tape edition) W t
    → row17 (text_of (tape other) (after (tape edition) W t) (header_bytes (loaded (tape edition) W t)) None) room ≡ false
    → CarriedOver (tape edition) (tape other) W t (header_bytes (loaded (tape edition) W t)) None room

-- a loaded S-record text can be written as a tape when its header is empty, its entry is dropped and no cell lies above FFFF, where
-- there is room
abbrev pub RecordsToTape : Type 0
RecordsToTape =
    (edition : Edition) (W : Window) (t : List ℕ) (room : ℕ) → Accepted srec W t → header_bytes (loaded srec W t) ≡ []
    → ((A B : ℕ) → CellOf srec t A B → A < 2 ^ 16)
    → row17 (text_of (tape edition) (after srec W t) (header_bytes (loaded srec W t)) None) room ≡ false
    → CarriedOver srec (tape edition) W t (header_bytes (loaded srec W t)) None room

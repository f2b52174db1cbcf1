-- The room that a canonical text needs.
use Rattle.std.specs.Prelude.{ℕ, List, length}
use Rattle.window.specs.Entries.{Entry}
use Rattle.window.specs.declared.Written.{Written}
use Rattle.window.specs.Windows.{Window}
use Rattle.text.specs.Formats.{Format}
use Rattle.text.specs.Write.{text_of, write, write_answer}

-- the answer of a write whose output is just as long as the canonical text: its length, or the row that refuses it, never 17
unfoldable pub needed : Format → Window → List ℕ → Entry → Written
needed F W header entry = write_answer (write F W header entry (length (text_of F W header entry)))

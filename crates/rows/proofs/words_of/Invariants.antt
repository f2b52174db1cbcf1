-- The loop's invariant: the first i numbers have the bytes of their cells.
use Rattle.std.proofs.Common.{◌≡◌, length}
use Rattle.rows.specs.Rows.{WordsOf}
use Rattle.rows.proofs.words_of.Given as goal

abbrev pub invariant-loop-i : goal.invariant-loop-i
invariant-loop-i g l = (length l.words ≡ 16) × WordsOf g.row.K l.i l.cells l.words

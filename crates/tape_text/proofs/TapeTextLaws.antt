-- The canonical tape as its pieces, and its length.
use mathlib.Core.Path.{◌≡◌, sym, ap, ◌∙◌}
use Prim.Native.Nat.{ℕ, ◌+◌, ◌*◌}
use native.Mathlib.Omega.{arith}
use mathlib.Core.List.{List, [], ◌++◌, append-nil}
use lib.ListN.{length, length-append}
use Rattle.window.specs.Cells.{Cell, Run, total}
use Rattle.window.proofs.CellLaws.{total_flat}
use Rattle.text.specs.Runs.{runs}
use Rattle.text.proofs.RunLaws.{flat_runs}
use Rattle.text.proofs.WriteLaws.{lines_before, length_lines}
use Rattle.tape.specs.declared.Edition.{Edition}
use Rattle.tape.specs.Canonical.{follow, line, data_line, canonical}
use Rattle.tape_encode.proofs.TapeEncodeLaws.{length_line, line_before}
use Rattle.formats.specs.declared.Format.TheVariants.{Tape}
use Rattle.size.specs.declared.Size.{Size}
use Rattle.size.specs.Sizes.{size_of}
use Rattle.data_lines.specs.Pieces.{data_text}
use Rattle.tape_text.specs.Pieces.{length_for}

-- the data lines and the last line, with their number
pub tape_pieces : (edition : Edition) (cs : List Cell) (n : ℕ) → n ≡ length (runs follow cs)
    → canonical edition cs ≡ data_text (Tape edition) 2 cs ++ (line edition n [] [] ++ [])
unfolding canonical
tape_pieces edition cs n e =
    rw (← e) (lines_before (data_line edition) (λ r rest. line_before edition r.addr r.bytes rest) (runs follow cs) (line edition n [] [])
    ∙ ap (λ (l : List ℕ). data_text (Tape edition) 2 cs ++ l) (sym (append-nil (line edition n [] []))))

-- a data line before the rest
length_before : (edition : Edition) (r : Run) (rest : List ℕ) → length (data_line edition r rest) ≡ 13 + 2 * length r.bytes + length rest
length_before edition r rest =
    ap length (line_before edition r.addr r.bytes rest) ∙ length-append (line edition r.addr r.bytes []) rest
    ∙ ap (λ (n : ℕ). n + length rest) (length_line edition r.addr r.bytes)

-- the formula is the length: row 17
length_canonical : (edition : Edition) (cs : List Cell) → length (canonical edition cs) ≡ length_for (length (runs follow cs)) (length cs)
unfolding canonical length_for
length_canonical edition cs =
    let rs : List Run = runs follow cs in
    let t : total rs ≡ length cs = total_flat rs ∙ ap length (flat_runs follow cs) in
    length_lines (data_line edition) 13 (length_before edition) rs (line edition (length rs) [] [])
    ∙ omega (arith, length_line edition (length rs) [], t)

-- what is computed before the tape is written is its length
pub need_is : (edition : Edition) (cs : List Cell) (size : Size) (need : ℕ) → size ≡ size_of (Tape edition) cs 0
    → need ≡ length_for size.records size.cells
    → need ≡ length (canonical edition cs)
need_is edition cs size need p q = rw (q, p) (sym (length_canonical edition cs))

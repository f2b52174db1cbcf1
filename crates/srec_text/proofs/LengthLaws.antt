-- The length of the canonical text.
use mathlib.Core.Path.{◌≡◌, ap, ◌∙◌}
use Prim.Native.Nat.{ℕ, ◌+◌, ◌*◌, ◌^◌, ◌≤◌}
use native.Mathlib.Nat.{mul-le-mul_left, mul-le-mul_right, le_trans}
use native.Mathlib.Omega.{arith}
use mathlib.Core.Bool.{cond}
use mathlib.Core.List.{List, []}
use lib.Dec.{leb}
use lib.ListN.{length, length-append}
use Rattle.lists.proofs.TestLaws.{by_test}
use Rattle.window.specs.Cells.{Cell, Run, total}
use Rattle.std.specs.Prelude.{Some}
use Rattle.window.proofs.CellLaws.{total_flat}
use Rattle.text.specs.Runs.{runs, data_lines}
use Rattle.text.proofs.RunLaws.{flat_runs}
use Rattle.text.proofs.WriteLaws.{length_lines}
use Rattle.srec.specs.Kinds.{Kind, type_of, width}
use Rattle.srec.specs.Kinds.Kind.{S0, Data, S5, End}
use Rattle.srec.specs.Canonical.{follow, largest, width_for, line, data_line, count_line, canonical}
use Rattle.srec_encode.specs.Records.{line_of}
use Rattle.srec_encode.proofs.EncodeLaws.{length_line, line_before}
use Rattle.srec_text.specs.Pieces.{length_for}

-- the records of a text of at most 2 ^ 32 cells take less than 2 ^ 36 characters
pub records_fit : (records width : ℕ) → records ≤ 2 ^ 32 → width ≤ 4 → records * (7 + 2 * width) ≤ 2 ^ 32 * 15
records_fit records width h l =
    let e : 7 + 2 * width ≤ 15 = omega arith in
    le_trans (mul-le-mul_left records e) (mul-le-mul_right 15 h)

-- ---- the length of each

-- a line before the rest
length_before : (k : Kind) (a : ℕ) (ds rest : List ℕ) → length (line k a ds rest) ≡ 7 + 2 * width k + 2 * length ds + length rest
length_before k a ds rest =
    ap length (line_before k a ds rest) ∙ length-append (line_of (type_of k) (width k) a ds) rest
    ∙ ap (λ (n : ℕ). n + length rest) (length_line (type_of k) (width k) a ds)

-- the data records before the rest
length_data : (w : ℕ) (rs : List Run) (rest : List ℕ) → length (data_lines (data_line w) rs rest) ≡ length rs * (7 + 2 * w) + 2 * total rs + length rest
length_data w = length_lines (data_line w) (7 + 2 * w) (λ r rest. length_before (Data w) r.addr r.bytes rest)

-- S5, if it is written, before the rest
length_count : (n : ℕ) (rest : List ℕ) → length (count_line n rest) ≡ cond (leb n 65535) 11 0 + length rest
unfolding count_line
length_count n rest = by_test (leb n 65535) (λ e. rw e (length_before S5 n [] rest)) (λ e. rw e (omega arith))

-- the formula is the length: row 17
pub length_canonical : (cs : List Cell) (header : List ℕ) (e : ℕ)
    → length (canonical cs header (Some e)) ≡ length_for (length (runs follow cs)) (length cs) (length header) (width_for (largest e cs))
unfolding canonical length_for
length_canonical cs header e =
    let w : ℕ = width_for (largest e cs) in
    let n : ℕ = length (runs follow cs) in
    let last : List ℕ = line (End w) e [] [] in
    let t : total (runs follow cs) ≡ length cs = total_flat (runs follow cs) ∙ ap length (flat_runs follow cs) in
    length_before S0 0 header (data_lines (data_line w) (runs follow cs) (count_line n last))
    ∙ omega (arith, length_data w (runs follow cs) (count_line n last), length_count n last, length_before (End w) e [] [], t)

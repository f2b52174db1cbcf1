-- The data lines of a text: each before the rest, and how far they are written.
use mathlib.Core.Path.{◌≡◌, refl, sym, ap, ◌∙◌, subst}
use Prim.Native.Nat.{ℕ, ◌+◌, ◌*◌, ◌-◌, ◌≤◌, ◌<◌}
use mathlib.Core.List.{List, [], ◌++◌, append-nil}
use lib.ListN.{length, take, drop}
use Rattle.lists.specs.Lists.{over}
use Rattle.lists.proofs.PendingLaws.{Pending, pending_start, pending_room, pending_more, pending_end}
use Rattle.window.specs.Windows.{window_of}
use Rattle.window.specs.Cells.{Cell, Run, shown}
use Rattle.window.specs.Walks.{unmarked}
use Rattle.text.specs.Runs.{data_lines}
use Rattle.text.proofs.RunWalkLaws.{cells_from, NextAt, from_next, from_zero, from_end, EndsAt, runs_at}
use Rattle.srec.specs.Kinds.Kind.{Data}
use Rattle.srec_encode.specs.Records.{line_of}
use Rattle.srec_encode.proofs.EncodeLaws.{length_line as length-record, line_before as record-before}
use Rattle.tape.specs.declared.Edition.{Edition}
use Rattle.tape.specs.Canonical.{line}
use Rattle.tape_encode.proofs.TapeEncodeLaws.{length_line as length-tape, line_before as tape-before}
use Rattle.formats.specs.declared.Format.{Format}
use Rattle.formats.specs.declared.Format.TheVariants.{Records, Tape}
use Rattle.formats.specs.Choices.{follow_of, data_line_of}
use Rattle.data_lines.specs.Pieces.{run_text, data_text}

-- a data record as its numbers describe it
record_text : (width a : ℕ) (ds : List ℕ) → run_text Records width a ds ≡ line_of (47 + width) width a ds
record_text width a ds = record-before (Data width) a ds [] ∙ append-nil (line_of (47 + width) width a ds)

-- a data line is put before the rest
pub line_before : (format : Format) (width : ℕ) (r : Run) (rest : List ℕ)
    → data_line_of format width r rest ≡ run_text format width r.addr r.bytes ++ rest
line_before Records width r rest =
    record-before (Data width) r.addr r.bytes rest ∙ ap (λ (l : List ℕ). l ++ rest) (sym (record_text width r.addr r.bytes))
line_before (Tape edition) width r rest = tape-before edition r.addr r.bytes rest

-- ---- a line in the format that is told: what `put_run` writes

module _ (format : Format) (w a : ℕ) (ds : List ℕ) where
  -- a record
  pub record_chosen : format ≡ Records → line_of (47 + w) w a ds ≡ run_text format w a ds
  record_chosen e = sym (record_text w a ds) ∙ ap (λ (x : Format). run_text x w a ds) (sym e)

  pub record_length : format ≡ Records → 7 + 2 * w + 2 * length ds ≡ length (run_text format w a ds)
  record_length e = sym (length-record (47 + w) w a ds) ∙ ap length (record_chosen e)

  -- a line of a tape
  pub tape_chosen : (edition : Edition) → format ≡ Tape edition → line edition a ds [] ≡ run_text format w a ds
  tape_chosen edition e = ap (λ (x : Format). run_text x w a ds) (sym e)

  pub tape_length : (edition : Edition) → format ≡ Tape edition → 13 + 2 * length ds ≡ length (run_text format w a ds)
  tape_length edition e = sym (length-tape edition a ds) ∙ ap length (tape_chosen edition e)

-- ---- the data lines, run by run

module _ (format : Format) (base : ℕ) (memory marks : List ℕ) (w : ℕ) (e : length memory ≡ length marks) where
  -- all data lines
  abbrev all : List ℕ
  all = data_text format w (shown (window_of base memory marks))

  -- the data lines of the cells from index i on
  abbrev rest : ℕ → List ℕ
  rest i = data_text format w (cells_from base memory marks i)

  -- before the first run
  pub data_start : (i start : ℕ) (o : List ℕ) → NextAt marks 0 i → Pending all (rest i) start start o o
  data_start i start o q = pending_start all (rest i) start o
      (ap (data_text format w) (sym (from_next base memory marks 0 i q ∙ from_zero base memory marks)))

  module _ (i j : ℕ) (h : i < length marks) (g : unmarked (drop i marks) ≡ 0) (q : EndsAt (follow_of format) base marks i j)
      (start at : ℕ) (o out : List ℕ) (fits : start + length all ≤ length o) (d : Pending all (rest i) start at o out) where
    -- the data line of the run from i to j
    abbrev own : List ℕ
    own = run_text format w (base + i) (take (j - i) (drop i memory))

    -- the line of the run at i, and those behind it
    next : (n : ℕ) → NextAt marks j n → Pending all (own ++ rest n) start at o out
    next n p =
        subst (λ (l : List ℕ). Pending all l start at o out)
        (ap (λ (rs : List Run). data_lines (data_line_of format w) rs []) (runs_at (follow_of format) base memory marks i j e h g q)
        ∙ line_before format w (record { addr = base + i; bytes = take (j - i) (drop i memory) }) (rest j)
        ∙ ap (λ (cs : List Cell). own ++ data_text format w cs) (sym (from_next base memory marks j n p))) d

    -- it has room: what `put_run` requires in `put_cells`
    pub data_room : at + length own ≤ length out
    data_room = pending_room all own (rest (j + unmarked (drop j marks))) start at o out fits (next (j + unmarked (drop j marks)) refl)

    -- it is written: a turn of `put_cells`
    pub data_more : (n p : ℕ) (out' : List ℕ) → NextAt marks j n → p ≡ at + length own → out' ≡ over out at own → length out' ≡ length out
        → Pending all (rest n) start p o out'
    data_more n p out' m = pending_more all own (rest n) start at p o out out' fits (next n m)

  -- behind the last run: the return of `put_cells`
  pub data_end : (i start at : ℕ) (o out : List ℕ) → length marks ≤ i → Pending all (rest i) start at o out
      → (at ≡ start + length all) × (out ≡ over o start all)
  data_end i start at o out h d =
      pending_end all start at o out
      (subst (λ (l : List ℕ). Pending all l start at o out) (ap (data_text format w) (from_end base memory marks i e h)) d)

-- A text's own refusals are by none of the window's rows, and its records are numbered in their order.
use Prim.Native.Nat.{ℕ, suc, ◌≤◌}
use native.Mathlib.Omega.{arith}
use mathlib.Core.Bool.{not, ◌&&◌}
use mathlib.Core.List.{List, [], ◌∷◌}
use lib.Dec.{lit≤}
use lib.ListN.{length, get_or, drop}
use Rattle.hex_digits.specs.Digits.{bytes}
use Rattle.lists.proofs.TestLaws.{Of, either}
use Rattle.window.specs.Entries.{Entry}
use Rattle.text.specs.Lines.{Line, lines}
use Rattle.text.specs.Scan.{Step, State, start, more, more_data, ended, onward, scan}
use Rattle.text.specs.Scan.Step.{refuse, skip, title, put, finish}
use Rattle.text.specs.Formats.{plan}
use Rattle.srec.specs.Kinds.{Kind, kind_of, known}
use Rattle.srec.specs.Kinds.Kind.{S0, Data, S5, End}
use Rattle.srec.specs.Reading.{Read, row3, row4, row5, row6, row7, read}
use Rattle.srec.specs.Reading.Read.{good, bad}
use Rattle.srec.specs.Judging.{row8, row10, row11, judge, judged}
use Rattle.tape.specs.declared.Edition.{Edition}
use Rattle.tape.specs.Reading.{Read as LineRead, row3 as lineRow3, row4 as lineRow4, row5 as lineRow5, row6 as lineRow6, length_in, address_in, data_in, is_last, read as readLine}
use Rattle.tape.specs.Reading.Read.{good as goodLine, bad as badLine}
use Rattle.tape.specs.Judging.{row7 as lineRow7, row10 as lineRow10, row11 as lineRow11, carries, judge as judgeLine, judged as judgedLine}
use Rattle.formats.specs.declared.Format.{Format}
use Rattle.formats.specs.declared.Format.TheVariants.{Records, Tape}
use Rattle.formats.specs.Choices.{format_of}
use Rattle.spans.specs.Facts.{Windowless, Numbered}

-- ---- the rows of a line

-- a line is refused by one of rows 1 to 11
abbrev LowRow : Step → Type 0
LowRow (refuse f) = f.reason ≤ 11
LowRow skip = Unit {0}
LowRow (title h) = Unit {0}
LowRow (put a ds) = Unit {0}
LowRow (finish e) = Unit {0}

-- so is a record that cannot be read
abbrev ReadLow : Read → Type 0
ReadLow (good k a ds) = Unit {0}
ReadLow (bad f) = f.reason ≤ 11

read_low : (cs : List ℕ) → Of ReadLow (read cs)
unfolding read
read_low cs =
    let bs : List ℕ = bytes (drop 2 cs) in
    let k : Kind = known (kind_of (get_or cs 1 0)) in
    either (row3 cs) (record { got = lit≤ tt }) (either (row4 cs) (record { got = lit≤ tt }) (either (row5 cs) (record { got = lit≤ tt })
    (either (row6 k (length cs) (get_or bs 0 0)) (record { got = lit≤ tt })
    (either (row7 bs) (record { got = lit≤ tt }) (record { got = tt })))))

judge_low : (s : State) (k : Kind) (a : ℕ) (ds : List ℕ) → Of LowRow (judge s k a ds)
unfolding judge
judge_low s S0 a ds = either (row8 s) (record { got = lit≤ tt }) (record { got = tt })
judge_low s (Data w) a ds = either (row11 w a (length ds)) (record { got = lit≤ tt }) (record { got = tt })
judge_low s S5 a ds = either (row10 s a) (record { got = lit≤ tt }) (record { got = tt })
judge_low s (End w) a ds = record { got = tt }

record_low : (s : State) (r : Read) → ReadLow r → LowRow (judged s r)
record_low s (good k a ds) h = (judge_low s k a ds).got
record_low s (bad f) h = h

-- the same of a tape
abbrev LineLow : LineRead → Type 0
LineLow (goodLine bs) = Unit {0}
LineLow (badLine f) = f.reason ≤ 11

line_low : (cs : List ℕ) → Of LineLow (readLine cs)
unfolding readLine
line_low cs =
    either (lineRow3 cs) (record { got = lit≤ tt }) (either (lineRow4 cs) (record { got = lit≤ tt }) (either (lineRow5 cs) (record { got = lit≤ tt })
    (either (lineRow6 (length cs) (length_in (bytes (drop 1 cs)))) (record { got = lit≤ tt }) (record { got = tt }))))

judge_line_low : (edition : Edition) (s : State) (bs : List ℕ) → Of LowRow (judgeLine edition s bs)
unfolding judgeLine carries
judge_line_low edition s bs =
    either (lineRow7 edition bs) (record { got = lit≤ tt })
    (either (is_last bs && lineRow10 s (address_in bs)) (record { got = lit≤ tt })
    (either (not (is_last bs) && lineRow11 (address_in bs) (length (data_in bs))) (record { got = lit≤ tt })
    (either (is_last bs) (record { got = tt }) (record { got = tt }))))

tape_low : (edition : Edition) (s : State) (r : LineRead) → LineLow r → LowRow (judgedLine edition s r)
tape_low edition s (goodLine bs) h = (judge_line_low edition s bs).got
tape_low edition s (badLine f) h = h

-- of every format
low_row : (format : Format) (s : State) (cs : List ℕ) → LowRow ((format_of format).step s cs)
low_row Records s cs = record_low s (read cs) (read_low cs).got
low_row (Tape edition) s cs = tape_low edition s (readLine cs) (line_low cs).got

-- ---- the plan of lines

-- neither row 2 nor row 14 is one of the window's
ended_free : (s : State) (e : Entry) (ls : List Line) → Windowless (ended s e ls)
ended_free s e [] = tt
ended_free s e (l ∷ ls) = (λ q. omega (arith, q), λ q. omega (arith, q))

module _ (step : State → List ℕ → Step) (size : ℕ) where
  module _ (low : (s : State) (cs : List ℕ) → LowRow (step s cs)) where
    onward_free : (at : ℕ) (s : State) (ls : List Line) → ((u : State) → Windowless (scan step size u ls)) → (x : Step) → LowRow x
        → Windowless (onward s at (λ u. scan step size u ls) (λ e. ended s e ls) x)
    onward_free at s ls g (refuse f) h = (λ q. omega (arith, q, h), λ q. omega (arith, q, h))
    onward_free at s ls g skip h = g (more s s.header)
    onward_free at s ls g (title t) h = g (more s t)
    onward_free at s ls g (put a ds) h = g (more_data s (length ds))
    onward_free at s ls g (finish e) h = ended_free s e ls

    -- the lines stop by none of the window's rows
    scan_free : (s : State) (ls : List Line) → Windowless (scan step size s ls)
    scan_free s [] = (λ q. omega (arith, q), λ q. omega (arith, q))
    scan_free s (l ∷ ls) = onward_free l.place s ls (λ u. scan_free u ls) (step s l.chars) (low s l.chars)

  ended_numbered : (n : ℕ) (s : State) (e : Entry) (ls : List Line) → Numbered n (ended s e ls)
  ended_numbered n s e [] = tt
  ended_numbered n s e (l ∷ ls) = tt

  onward_numbered : (n at : ℕ) (s : State) (ls : List Line) → n ≤ s.number → ((m : ℕ) (u : State) → m ≤ u.number → Numbered m (scan step size u ls))
      → (x : Step) → Numbered n (onward s at (λ u. scan step size u ls) (λ e. ended s e ls) x)
  onward_numbered n at s ls h g (refuse f) = tt
  onward_numbered n at s ls h g skip = g n (more s s.header) (omega arith)
  onward_numbered n at s ls h g (title t) = g n (more s t) (omega arith)
  onward_numbered n at s ls h g (put a ds) = (omega arith, g (suc s.number) (more_data s (length ds)) (omega arith))
  onward_numbered n at s ls h g (finish e) = ended_numbered n s e ls

  -- the lines are numbered in their order
  scan_numbered : (n : ℕ) (s : State) (ls : List Line) → n ≤ s.number → Numbered n (scan step size s ls)
  scan_numbered n s [] h = tt
  scan_numbered n s (l ∷ ls) h = onward_numbered n l.place s ls h (λ m u k. scan_numbered m u ls k) (step s l.chars)

-- the plan of a text stops by none of the window's rows
pub plan_free : (format : Format) (text : List ℕ) → Windowless (plan (format_of format) text)
unfolding plan
plan_free format text =
    let F = format_of format in
    scan_free F.step (length text) (low_row format) start (lines F.gap 0 text)

-- its records are numbered in their order, from 1 on
pub plan_numbered : (format : Format) (text : List ℕ) → Numbered 0 (plan (format_of format) text)
unfolding plan
plan_numbered format text =
    let F = format_of format in
    scan_numbered F.step (length text) 0 start (lines F.gap 0 text) (omega arith)

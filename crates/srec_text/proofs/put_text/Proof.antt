-- `put_text` meets its contract: the pieces that it writes are the canonical text.
use Prim.Native.Nat.{ℕ, ◌+◌, ◌-◌, ◌≤◌}
use native.Mathlib.Omega.{arith}
use mathlib.Core.List.{List, [], ◌++◌}
use lib.ListN.{length}
use borrow.Author.Rules.{rules}
use Rattle.std.specs.Prelude.{Some}
use Rattle.window.specs.Windows.{Window, window_of}
use Rattle.text.specs.Write.{text_of}
use Rattle.srec.specs.Canonical.{largest}
use Rattle.srec.specs.Formats.{srec}
use Rattle.srec.proofs.FitLaws.{width_is}
use Rattle.srec_encode.specs.Records.{line_of}
use Rattle.window.specs.Cells.{shown}
use Rattle.marks.specs.Forms.{plain}
use Rattle.formats.specs.declared.Format.TheVariants.{Records}
use Rattle.data_lines.specs.Pieces.{data_text}
use Rattle.srec_text.specs.Pieces.{count_text}
use Rattle.lists.proofs.PendingLaws.{Pending, pending_start, pending_room, pending_more, pending_end}
use Rattle.srec_text.proofs.PieceLaws.{text_pieces, line_room, line_more}
use Rattle.srec_text.proofs.put_text.Statement.{statement}
use Rattle.srec_text.proofs.put_text.Tie as tie

-- the pieces of the text behind the header, and what is left of the text of a call
module _ (s : tie.Start) where
  abbrev window : Window
  window = plain s.args.form (window_of s.args.base s.args.memory.now s.args.marks.now)

  abbrev last : List ℕ
  last = line_of (59 - s.args.width) s.args.width s.args.entry []

  abbrev from-count : List ℕ
  from-count = count_text s.args.records ++ (last ++ [])

  abbrev from-data : List ℕ
  from-data = data_text Records s.args.width (shown window) ++ from-count

  abbrev whole : List ℕ
  whole = text_of srec window s.args.header.now (Some s.args.entry)

  abbrev Left : List ℕ → ℕ → List ℕ → Type 0
  Left rest at out = Pending whole rest 0 at s.args.out.now out

  fits : 0 + length whole ≤ length s.args.out.now
  fits = omega (arith, s.requires.1.1.1)

  narrow : s.args.width ≤ 4
  narrow = rw s.requires.1.1.0 (width_is (largest s.args.entry (shown window))).small

  at_start : Left (line_of 48 2 0 s.args.header.now ++ from-data) 0 s.args.out.now
  at_start =
      pending_start whole (line_of 48 2 0 s.args.header.now ++ from-data) 0 s.args.out.now
      (text_pieces window s.args.header.now s.args.entry s.args.records s.args.width s.requires.1.0 s.requires.1.1.0)

-- the call, from behind each piece
abbrev behind-header : tie.After-put_line-behind_header → tie.Start
behind-header c = c.before.before.before.before.before.before

abbrev behind-data : tie.After-put_cells-behind_data → tie.Start
behind-data c = behind-header c.before.before.before.before

abbrev behind-count : tie.After-put_count-behind_count → tie.Start
behind-count c = behind-data c.before.before.before.before

abbrev behind_last : tie.After-put_line → tie.Start
behind_last c = behind-count c.before.before.before.before.before

-- each piece is written
after-header : (c : tie.After-put_line-behind_header) → Left (behind-header c) (from-data (behind-header c)) c.put_line-behind_header.result c.put_line-behind_header.new.out
after-header c =
    let s = behind-header c in
    line_more (whole s) 48 2 0 s.args.header.now (from-data s) 0 0 s.args.out.now s.args.out.now (fits s) (at_start s)
    c.put_line-behind_header.result c.put_line-behind_header.new.out c.put_line-behind_header.ensures.0 c.put_line-behind_header.ensures.1 c.put_line-behind_header.auto.out

after_data : (c : tie.After-put_cells-behind_data) → Left (behind-data c) (from-count (behind-data c)) c.put_cells-behind_data.result c.put_cells-behind_data.new.out
after_data c =
    let at-put-line = c.before.before.before.before in
    let s = behind-data c in
    let p = at-put-line.put_line-behind_header in
    pending_more (whole s) (data_text Records s.args.width (shown (window s))) (from-count s) 0 p.result c.put_cells-behind_data.result
    s.args.out.now p.new.out c.put_cells-behind_data.new.out
    (fits s) (after-header at-put-line) c.put_cells-behind_data.ensures.0 c.put_cells-behind_data.ensures.1 c.put_cells-behind_data.auto.out

after-count : (c : tie.After-put_count-behind_count) → Left (behind-count c) (last (behind-count c) ++ []) c.put_count-behind_count.result c.put_count-behind_count.new.out
after-count c =
    let at-put-cells = c.before.before.before.before in
    let s = behind-count c in
    let p = at-put-cells.put_cells-behind_data in
    pending_more (whole s) (count_text s.args.records) (last s ++ []) 0 p.result c.put_count-behind_count.result s.args.out.now
    p.new.out c.put_count-behind_count.new.out
    (fits s) (after_data at-put-cells) c.put_count-behind_count.ensures.0 c.put_count-behind_count.ensures.1 c.put_count-behind_count.auto.out

after_last : (c : tie.After-put_line) → Left (behind_last c) [] c.put_line.result c.put_line.new.out
after_last c =
    let at-put-count = c.before.before.before.before.before in
    let s = behind_last c in
    let p = at-put-count.put_count-behind_count in
    line_more (whole s) (59 - s.args.width) s.args.width s.args.entry [] [] 0 p.result s.args.out.now p.new.out
    (fits s) (after-count at-put-count)
    c.put_line.result c.put_line.new.out c.put_line.ensures.0 c.put_line.ensures.1 c.put_line.auto.out

put-line-requires : tie.Need-put_line-behind_header-requires
put-line-requires c κs =
    let s = c.before.before.before.before.before in (
      (omega arith, omega (arith, s.requires.0)),
      line_room (whole s) 48 2 0 s.args.header.now (from-data s) 0 0 s.args.out.now s.args.out.now (fits s) (at_start s),
    )

put-cells-requires : tie.Need-put_cells-behind_data-requires
put-cells-requires c κs =
    let at-put-line = c.before.before.before in
    let s = behind-header at-put-line in
    let p = at-put-line.put_line-behind_header in (
      (narrow s, s.requires.0.0, s.requires.0.1),
      pending_room (whole s) (data_text Records s.args.width (shown (window s))) (from-count s) 0 p.result s.args.out.now p.new.out
          (fits s) (after-header at-put-line),
    )

put-count-requires : tie.Need-put_count-behind_count-requires
put-count-requires c κs =
    let at-put-cells = c.before.before.before in
    let s = behind-data at-put-cells in
    let p = at-put-cells.put_cells-behind_data in
    pending_room (whole s) (count_text s.args.records) (last s ++ []) 0 p.result s.args.out.now p.new.out (fits s)
    (after_data at-put-cells)

sub-kind : tie.Need-overflow_sub-kind
sub-kind c =
    let s = behind-count c.before.before in
    omega (arith, narrow s)

cast-kind : tie.Need-overflow_cast-kind
cast-kind c =
    let s = behind-count c.before.before in
    omega (arith, narrow s)

put-line-requires-2 : tie.Need-put_line-requires
put-line-requires-2 c κs =
    let at-put-count = c.before.before.before.before in
    let s = behind-count at-put-count in
    let p = at-put-count.put_count-behind_count in (
      (narrow s, omega (arith, narrow s)),
      line_room (whole s) (59 - s.args.width) s.args.width s.args.entry [] [] 0 p.result s.args.out.now p.new.out
          (fits s) (after-count at-put-count),
    )

returns : tie.Need-returns
returns c =
    let at-put-line2 = c.before.before in
    let s = behind_last at-put-line2 in
    let p = at-put-line2.put_line in
    (pending_end (whole s) 0 p.result s.args.out.now p.new.out (after_last at-put-line2)).1

pub put_text_spec : {M : Type 1} → statement M
put_text_spec =
    tie.close
    (tie.spec
    put-line-requires
    put-cells-requires
    put-count-requires
    cast-kind
    sub-kind
    (λ c. search rules)
    put-line-requires-2
    (λ c. search rules)
    returns)

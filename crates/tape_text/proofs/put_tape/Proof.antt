-- `put_tape` meets its contract: the pieces that it writes are the canonical tape.
use Prim.Native.Nat.{ℕ, ◌+◌, ◌≤◌}
use native.Mathlib.Omega.{arith}
use mathlib.Core.List.{List, [], ◌++◌}
use lib.ListN.{length}
use Rattle.lists.proofs.PendingLaws.{Pending, pending_start, pending_room, pending_more, pending_end}
use Rattle.window.specs.Windows.{window_of}
use Rattle.window.specs.Cells.{Cell, shown}
use Rattle.marks.specs.Forms.{plain}
use Rattle.tape.specs.Canonical.{line, canonical}
use Rattle.tape_encode.proofs.TapeEncodeLaws.{length_line}
use Rattle.formats.specs.declared.Format.TheVariants.{Tape}
use Rattle.data_lines.specs.Pieces.{data_text}
use Rattle.tape_text.proofs.TapeTextLaws.{tape_pieces}
use borrow.Author.Rules.{rules}
use Rattle.tape_text.proofs.put_tape.Statement.{statement}
use Rattle.tape_text.proofs.put_tape.Tie as tie

-- the pieces of the tape of a call, and what is left of it
module _ (s : tie.Start) where
  abbrev cells : List Cell
  cells = shown (plain s.args.form (window_of s.args.base s.args.memory.now s.args.marks.now))

  abbrev whole : List ℕ
  whole = canonical s.args.edition cells

  abbrev data-text : List ℕ
  data-text = data_text (Tape s.args.edition) 2 cells

  abbrev last : List ℕ
  last = line s.args.edition s.args.records [] []

  abbrev Left : List ℕ → ℕ → List ℕ → Type 0
  Left rest at out = Pending whole rest 0 at s.args.out.now out

  fits : 0 + length whole ≤ length s.args.out.now
  fits = omega (arith, s.requires.1.1)

  at_start : Left (data-text ++ (last ++ [])) 0 s.args.out.now
  at_start =
      pending_start whole (data-text ++ (last ++ [])) 0 s.args.out.now
      (tape_pieces s.args.edition cells s.args.records s.requires.1.0.0)

-- the call, from behind each piece
abbrev behind-data : tie.After-put_cells-behind_data → tie.Start
behind-data c = c.before.before.before.before.before

abbrev behind_last : tie.After-put_line → tie.After-put_cells-behind_data
behind_last c = c.before.before.before.before.before

-- each piece is written
after_data : (c : tie.After-put_cells-behind_data) → Left (behind-data c) (last (behind-data c) ++ []) c.put_cells-behind_data.result c.put_cells-behind_data.new.out
after_data c =
    let s = behind-data c in
    let p = c.put_cells-behind_data in
    pending_more (whole s) (data-text s) (last s ++ []) 0 0 p.result s.args.out.now s.args.out.now
    p.new.out (fits s) (at_start s) p.ensures.0 p.ensures.1 p.auto.out

after_last : (c : tie.After-put_line) → Left (behind-data (behind_last c)) [] c.put_line.result c.put_line.new.out
after_last c =
    let at-data = behind_last c in
    let s = behind-data at-data in
    let p = at-data.put_cells-behind_data in
    let q = c.put_line in
    pending_more (whole s) (last s) [] 0 p.result q.result s.args.out.now p.new.out q.new.out (fits s)
    (after_data at-data) (rw (length_line s.args.edition s.args.records []) q.ensures.0) q.ensures.1 q.auto.out

put-cells-requires : tie.Need-put_cells-behind_data-requires
put-cells-requires c κs =
    let s = c.before.before.before.before in (
      (omega arith, s.requires.0.0, s.requires.0.1),
      pending_room (whole s) (data-text s) (last s ++ []) 0 0 s.args.out.now s.args.out.now (fits s)
          (at_start s),
    )

put-line-requires : tie.Need-put_line-requires
put-line-requires c κs =
    let at-data = c.before.before.before.before in
    let s = behind-data at-data in
    let p = at-data.put_cells-behind_data in (
      omega arith,
      rw (← (length_line s.args.edition s.args.records []))
          (pending_room (whole s) (last s) [] 0 p.result s.args.out.now p.new.out (fits s) (after_data at-data)),
    )

returns : tie.Need-returns
returns c =
    let at_last = c.before.before in
    let s = behind-data (behind_last at_last) in
    let p = at_last.put_line in
    (pending_end (whole s) 0 p.result s.args.out.now p.new.out (after_last at_last)).1

pub put_tape_spec : {M : Type 1} → statement M
put_tape_spec =
    tie.close
    (tie.spec
    put-cells-requires
    (λ c. search rules)
    (λ c. search rules)
    put-line-requires
    (λ c. search rules)
    returns)

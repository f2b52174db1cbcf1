-- `put_cells` meets its contract: what is written and what is left make up the data lines. A whole row is a run like any other.
use mathlib.Core.Path.{◌≡◌, sym, ap, ◌∙◌}
use mathlib.Core.List.{List}
use Prim.Native.Nat.{ℕ, ◌+◌, ◌-◌, ◌*◌, ◌≤◌, ◌<◌}
use native.Mathlib.Omega.{arith}
use lib.ListN.{length, take, drop}
use Rattle.lists.specs.Lists.{over}
use Rattle.window.specs.Windows.{window_of}
use Rattle.window.specs.Cells.{shown}
use Rattle.marks.specs.Forms.{flags}
use Rattle.window.specs.Walks.{unmarked}
use Rattle.marks.proofs.FormLaws.{flags_length}
use Rattle.formats.specs.Choices.{follow_of}
use Rattle.formats.proofs.ChoiceLaws.{follow_small}
use Rattle.marks.specs.Forms.{plain}
use Rattle.size.specs.Rows.{IsRow}
use Rattle.data_lines.specs.Pieces.{run_text, data_text}
use Rattle.text.proofs.RunWalkLaws.{cells_from, NextAt, EndsAt, next_bounds, run_bounds, length_run}
use Rattle.lists.proofs.PendingLaws.{Pending}
use Rattle.data_lines.proofs.DataLineLaws.{record_chosen, record_length, data_start, data_room, data_more, data_end}
use borrow.Author.Rules.{rules}
use Rattle.data_lines.proofs.put_cells.Statement.{statement}
use Rattle.data_lines.proofs.put_cells.Tie as tie

abbrev invariant-loop : tie.invariant-loop-from
invariant-loop format out₀ start base memory form marks width table at₀ cells from₀ out at from =
    (from ≤ length memory) × (unmarked (drop from (flags form (length memory) marks)) ≡ 0)
    × Pending (data_text format width (shown (plain form (window_of base memory marks))))
    (data_text format width (cells_from base memory (flags form (length memory) marks) from)) start at out₀ out

abbrev decreases-loop : tie.decreases-loop-from
decreases-loop format out₀ start base memory form marks width table at₀ cells from₀ out at from = length memory - from

-- the flags of a call's marks, one for each cell
module _ (s : tie.Start invariant-loop decreases-loop) where
  abbrev own : List ℕ
  own = flags s.args.form (length s.args.memory.now) s.args.marks.now

  long : length s.args.memory.now ≡ length own
  long = sym (flags_length s.args.form (length s.args.memory.now) s.args.marks.now s.requires.0.1)

next-marked-requires : tie.Need-next_marked-from-requires invariant-loop decreases-loop
next-marked-requires c κs = (omega arith, c.requires.0.1)

loop-holds : tie.Need-loop-from-init invariant-loop decreases-loop
loop-holds c =
    let s = c.before.before.before.before.before in
    let a = s.args in
    let n = next_bounds (own s) 0 c.next_marked-from.result (omega arith) c.next_marked-from.ensures in (
      omega (arith, n.1, long s),
      n.2,
      data_start a.format a.base a.memory.now (own s) a.width (long s) c.next_marked-from.result
          a.start a.out.now c.next_marked-from.ensures,
    )

-- ---- a run, from the loop's index to j

module _ (c : tie.In-loop-from invariant-loop decreases-loop) where
  abbrev call : tie.Start invariant-loop decreases-loop
  call = c.before.before.before.before.before.before.before

  abbrev from : ℕ
  from = c.loop-from.from

module _ (c : tie.In-loop-from invariant-loop decreases-loop) (j : ℕ)
    (q : EndsAt (follow_of (call c).args.format) (call c).args.base (own (call c)) (from c) j) where
  -- it has 1 to 24 cells
  stays : (from c < j) × (j ≤ length (call c).args.memory.now) × (j ≤ from c + 24)
  stays =
      let s = call c in
      let b = run_bounds (follow_of s.args.format) s.args.base (own s) (from c) j (omega (arith, long s)) c.loop-from.invariant.1 q in
      (b.0, omega (arith, b.1, long s), omega (arith, b.2, follow_small s.args.format (s.args.base + from c)))

  -- its bytes, and its line
  abbrev bytes : List ℕ
  bytes = take (j - from c) (drop (from c) (call c).args.memory.now)

  abbrev line : List ℕ
  line = run_text (call c).args.format (call c).args.width ((call c).args.base + from c) bytes

  as_long : length bytes ≡ j - from c
  as_long = length_run (call c).args.memory.now (from c) j stays.1

  room : c.loop-from.at + length line ≤ length c.loop-from.out
  room =
      let s = call c in
      let a = s.args in
      let l = c.loop-from in
      data_room a.format a.base a.memory.now (own s) a.width (long s) l.from j (omega (arith, long s)) l.invariant.1 q
      a.start l.at a.out.now l.out s.requires.1 l.invariant.2

  -- what is skipped after it, up to n
  skipped : (n : ℕ) → NextAt (own (call c)) j n → (j ≤ n) × (n ≤ length (call c).args.memory.now) × (unmarked (drop n (own (call c))) ≡ 0)
  skipped n p =
      let b = next_bounds (own (call c)) j n (omega (arith, stays, long (call c))) p in
      (b.0, omega (arith, b.1, long (call c)), b.2)

  -- its line is written, and the loop goes on from there
  turn : (n at' : ℕ) (out' : List ℕ) → NextAt (own (call c)) j n → at' ≡ c.loop-from.at + length line
      → out' ≡ over c.loop-from.out c.loop-from.at line → length out' ≡ length c.loop-from.out
      → (n ≤ length (call c).args.memory.now) × (unmarked (drop n (own (call c))) ≡ 0)
      × Pending (data_text (call c).args.format (call c).args.width (shown (plain (call c).args.form (window_of (call c).args.base (call c).args.memory.now (call c).args.marks.now))))
      (data_text (call c).args.format (call c).args.width (cells_from (call c).args.base (call c).args.memory.now (own (call c)) n))
      (call c).args.start at' (call c).args.out.now out'
  turn n at' out' p e f g =
      let s = call c in
      let a = s.args in
      let l = c.loop-from in (
        (skipped n p).1,
        (skipped n p).2,
        data_more a.format a.base a.memory.now (own s) a.width (long s) l.from j (omega (arith, long s)) l.invariant.1 q
            a.start l.at a.out.now l.out s.requires.1 l.invariant.2 n at' out' p e f g,
      )

-- ---- a whole row

is-row-requires : tie.Need-is_row-requires invariant-loop decreases-loop
is-row-requires c κs = let s = call c in (omega arith, s.requires.0.2, s.requires.0.1)

row : (c : tie.Then-is_row invariant-loop decreases-loop) → let i = c.before.before in let a = (call i).args in
    IsRow a.format a.base (own (call i)) (length a.memory.now) (from i)
row c = c.is_row.ensures c.if-is_row.true

-- the place before it
abbrev row_at : tie.After-put_row-arg-then-is_row-1 invariant-loop decreases-loop → tie.Then-is_row invariant-loop decreases-loop
row_at c = c.before.before.before

row-length : (c : tie.Then-is_row invariant-loop decreases-loop) → let i = c.before.before in let a = (call i).args in
    7 + 2 * a.width + 2 * length (bytes i (from i + 16) (row c).1) ≡ length (line i (from i + 16) (row c).1)
row-length c =
    let i = c.before.before in
    let a = (call i).args in
    record_length a.format a.width (a.base + from i) (bytes i (from i + 16) (row c).1) (row c).2

put-row-requires : tie.Need-put_row-at-requires invariant-loop decreases-loop
put-row-requires c κs =
    let t = row_at c in
    let i = t.before.before in
    let q = (row t).1 in
    (((call i).requires.0.0, as_long i _ q ∙ omega arith), omega (arith, room i _ q, row-length t))

next-run-requires : tie.Need-next_run-from-requires invariant-loop decreases-loop
next-run-requires c κs =
    let t = row_at c.before.before.before in
    ((row t).0, (call t.before.before).requires.0.1)

abbrev row_put : tie.After-next_run-from invariant-loop decreases-loop → tie.After-put_row-at invariant-loop decreases-loop
row_put c = c.before.before.before

loop-less : tie.Need-loop-from-smaller-then-is_row invariant-loop decreases-loop
loop-less c =
    let t = row_at (row_put c).before in
    let i = t.before.before in
    omega (arith, stays i _ (row t).1, skipped i _ (row t).1 _ c.next_run-from.ensures)

loop-again : tie.Need-loop-from-preserved-then-is_row invariant-loop decreases-loop
loop-again c =
    let p = (row_put c).put_row-at in
    let t = row_at (row_put c).before in
    let i = t.before.before in
    let a = (call i).args in
    turn i _ (row t).1 c.next_run-from.result p.result p.new.out c.next_run-from.ensures
    (p.ensures.0 ∙ ap (λ (n : ℕ). i.loop-from.at + n) (row-length t))
    (p.ensures.1 ∙ ap (over i.loop-from.out i.loop-from.at)
    (record_chosen a.format a.width (a.base + from i) (bytes i _ (row t).1) (row t).2))
    p.auto.out

-- ---- any other run

-- the place where its end is known
abbrev at-run : tie.After-run_end-to invariant-loop decreases-loop → tie.In-loop-from invariant-loop decreases-loop
at-run c = c.before.before.before

run-end-requires : tie.Need-run_end-to-requires invariant-loop decreases-loop
run-end-requires c κs = let s = call c.before.before in (omega arith, s.requires.0.2, s.requires.0.1)

ends : (c : tie.After-run_end-to invariant-loop decreases-loop)
    → (from (at-run c) < c.run_end-to.result) × (c.run_end-to.result ≤ length (call (at-run c)).args.memory.now)
    × (c.run_end-to.result ≤ from (at-run c) + 24)
ends c = stays (at-run c) _ c.run_end-to.ensures

put-run-requires : tie.Need-put_run-at-requires invariant-loop decreases-loop
put-run-requires c κs =
    let r = c.before.before in
    let i = at-run r in
    (((call i).requires.0.0, omega (arith, ends r, as_long i _ r.run_end-to.ensures)), room i _ r.run_end-to.ensures)

next-run-requires-2 : tie.Need-next_run-from-requires-in-loop-from invariant-loop decreases-loop
next-run-requires-2 c κs =
    let r = c.before.before.before.before.before in
    ((ends r).1, (call (at-run r)).requires.0.1)

abbrev run-put : tie.After-next_run-from-in-loop-from invariant-loop decreases-loop → tie.After-put_run-at invariant-loop decreases-loop
run-put c = c.before.before.before

abbrev ran : tie.After-next_run-from-in-loop-from invariant-loop decreases-loop → tie.After-run_end-to invariant-loop decreases-loop
ran c = (run-put c).before.before.before

loop-less-2 : tie.Need-loop-from-smaller invariant-loop decreases-loop
loop-less-2 c = omega (arith, ends (ran c), skipped (at-run (ran c)) _ (ran c).run_end-to.ensures _ c.next_run-from-in-loop-from.ensures)

loop-again-2 : tie.Need-loop-from-preserved invariant-loop decreases-loop
loop-again-2 c =
    let p = (run-put c).put_run-at in
    turn (at-run (ran c)) _ (ran c).run_end-to.ensures c.next_run-from-in-loop-from.result p.result p.new.out c.next_run-from-in-loop-from.ensures
    p.ensures.0 p.ensures.1 p.auto.out

-- ---- the end

same_length : tie.Need-shape_of-out invariant-loop decreases-loop
same_length c = c.loop-from.invariant.2.same

returns : tie.Need-returns invariant-loop decreases-loop
returns c =
    let s = c.before.before.before.before.before.before.before in
    let a = s.args in
    let l = c.loop-from in
    data_end a.format a.base a.memory.now (own s) a.width (long s) l.from a.start l.at a.out.now l.out
    (omega (arith, long s, c.loop-from-test.false)) l.invariant.2

pub put_cells_spec : {M : Type 1} → statement M
put_cells_spec =
    tie.close
    (tie.spec
    invariant-loop
    decreases-loop
    (λ c κs. search rules)
    next-marked-requires
    loop-holds
    (λ c. omega arith)
    (λ c. omega arith)
    is-row-requires
    (λ c. omega (arith, (row c).0))
    (λ c. search rules)
    (λ c. search rules)
    (λ c. omega arith)
    (λ c. omega arith)
    (λ c. omega (arith, (row c.before.before).0))
    put-row-requires
    next-run-requires
    loop-less
    loop-again
    run-end-requires
    (λ c. omega (arith, ends c.before))
    (λ c. omega (arith, ends c.before))
    (λ c. omega (arith, ends c.before))
    put-run-requires
    next-run-requires-2
    loop-less-2
    loop-again-2
    same_length
    returns)

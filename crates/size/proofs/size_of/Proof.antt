-- `size_of` meets its contract: what is counted and what is left make up the whole, whatever the memory holds.
use mathlib.Core.Path.{◌≡◌, sym, ◌∙◌}
use Prim.Native.Nat.{ℕ, ◌-◌, ◌≤◌, ◌<◌}
use native.Mathlib.Omega.{arith}
use mathlib.Core.List.{List}
use lib.ListN.{length, drop}
use borrow.Author.Rules.{rules}
use Rattle.window.specs.Windows.{window_of}
use Rattle.window.specs.Cells.{shown}
use Rattle.marks.specs.Forms.{flags}
use Rattle.window.specs.Walks.{unmarked}
use Rattle.marks.proofs.FormLaws.{flags_length}
use Rattle.text.proofs.RunWalkLaws.{cells_from, NextAt, next_bounds, run_bounds}
use Rattle.formats.specs.Choices.{follow_of}
use Rattle.size.proofs.RowLaws.{rows_inside}
use Rattle.size.proofs.SizeLaws.{Measured, measured_start, measured_more, measured_stretch, measured_end}
use Rattle.size.proofs.size_of.Statement.{statement}
use Rattle.size.proofs.size_of.Tie as tie

abbrev invariant-loop : tie.invariant-loop-i
invariant-loop format base form marks cells entry records₀ marked₀ largest₀ i₀ records marked largest i =
    (i ≤ cells) × (records ≤ marked) × (marked ≤ i) × (unmarked (drop i (flags form cells marks)) ≡ 0)
    × ((memory : List ℕ) → length memory ≡ cells
    → Measured format (shown (window_of base memory (flags form cells marks)))
    (cells_from base memory (flags form cells marks) i) entry records marked largest)

abbrev decreases-loop : tie.decreases-loop-i
decreases-loop format base form marks cells entry records₀ marked₀ largest₀ i₀ records marked largest i = cells - i

-- the flags of a call's marks, one for each cell
module _ (s : tie.Start invariant-loop decreases-loop) where
  abbrev own : List ℕ
  own = flags s.args.form s.args.cells s.args.marks.now

  long : length own ≡ s.args.cells
  long = flags_length s.args.form s.args.cells s.args.marks.now s.requires.1

next-marked-requires : tie.Need-next_marked-i-requires invariant-loop decreases-loop
next-marked-requires c κs = (omega arith, c.requires.1)

loop-holds : tie.Need-loop-i-init invariant-loop decreases-loop
loop-holds c =
    let s = c.before.before in
    let a = s.args in
    let b = next_bounds (own s) 0 c.next_marked-i.result (omega arith) c.next_marked-i.ensures in (
      omega (arith, b.1, long s),
      omega arith,
      omega arith,
      b.2,
      λ memory e. measured_start a.format a.base memory (own s) a.entry c.next_marked-i.result c.next_marked-i.ensures,
    )

-- what is skipped after index j, up to n
skipped : (s : tie.Start invariant-loop decreases-loop) (j n : ℕ) → j ≤ s.args.cells → NextAt (own s) j n
    → (j ≤ n) × (n ≤ s.args.cells) × (unmarked (drop n (own s)) ≡ 0)
skipped s j n h q = let b = next_bounds (own s) j n (omega (arith, h, long s)) q in (b.0, omega (arith, b.1, long s), b.2)

-- the call
abbrev call : tie.After-rows_end-rows invariant-loop decreases-loop → tie.Start invariant-loop decreases-loop
call c = c.before.before.before.before.before

-- the index at hand
abbrev index : tie.After-rows_end-rows invariant-loop decreases-loop → ℕ
index c = c.loop-i.i

rows-end-requires : tie.Need-rows_end-rows-requires invariant-loop decreases-loop
rows-end-requires c κs = let s = c.before.before.before.before in (omega arith, s.requires.0, s.requires.1)

-- ---- whole rows

-- they have a cell, and stay in the window
rows_stay : (c : tie.Then-rows-i invariant-loop decreases-loop) → let r = c.before in
    (index r < r.rows_end-rows.result) × (r.rows_end-rows.result ≤ (call r).args.cells)
rows_stay c =
    let r = c.before in
    let n = r.rows_end-rows.ensures.0 in
    (omega (arith, r.rows_end-rows.ensures.1, c.if-rows-i.true), rows_inside _ _ _ _ _ _ r.rows_end-rows.ensures)

next-marked-requires-2 : tie.Need-next_marked-i-requires-then-rows-i invariant-loop decreases-loop
next-marked-requires-2 c κs = let t = c.before in ((rows_stay t).1, (call t.before).requires.1)

abbrev after-rows : tie.After-next_marked-i-then-rows-i invariant-loop decreases-loop → tie.Then-rows-i invariant-loop decreases-loop
after-rows c = c.before.before

next-rows : (c : tie.After-next_marked-i-then-rows-i invariant-loop decreases-loop) → let r = (after-rows c).before in let n = c.next_marked-i-then-rows-i.result in
    (r.rows_end-rows.result ≤ n) × (n ≤ (call r).args.cells) × (unmarked (drop n (own (call r))) ≡ 0)
next-rows c = skipped (call (after-rows c).before) _ _ (rows_stay (after-rows c)).1 c.next_marked-i-then-rows-i.ensures

loop-less : tie.Need-loop-i-smaller-then-rows-i invariant-loop decreases-loop
loop-less c = omega (arith, rows_stay (after-rows c), next-rows c)

loop-again : tie.Need-loop-i-preserved-then-rows-i invariant-loop decreases-loop
loop-again c =
    let t = after-rows c in
    let r = t.before in
    let s = call r in
    let a = s.args in
    let l = r.loop-i in
    let n = next-rows c in (
      n.1,
      omega (arith, rows_stay t),
      omega (arith, n.0, rows_stay t),
      n.2,
      λ memory e. rw c.larger-largest.ensures
          (measured_stretch a.format a.base memory (own s) (e ∙ sym (long s)) (shown (window_of a.base memory (own s))) a.entry
          l.i r.rows_end-rows.result c.next_marked-i-then-rows-i.result l.records l.marked l.largest
          (rw (long s) r.rows_end-rows.ensures) t.if-rows-i.true c.next_marked-i-then-rows-i.ensures (l.invariant.4 memory e)),
    )

-- ---- any run

abbrev seen : tie.After-run_end-j invariant-loop decreases-loop → tie.After-rows_end-rows invariant-loop decreases-loop
seen c = c.before.before

run-end-requires : tie.Need-run_end-j-requires invariant-loop decreases-loop
run-end-requires c κs = let s = call c.before in (omega arith, s.requires.0, s.requires.1)

-- it has a cell, and stays in the window
run-stays : (c : tie.After-run_end-j invariant-loop decreases-loop)
    → (index (seen c) < c.run_end-j.result) × (c.run_end-j.result ≤ (call (seen c)).args.cells)
run-stays c =
    let s = call (seen c) in
    let l = (seen c).loop-i in
    let b = run_bounds (follow_of s.args.format) s.args.base (own s) l.i c.run_end-j.result (omega (arith, long s)) l.invariant.3
    c.run_end-j.ensures in
    (b.0, omega (arith, b.1, long s))

next-run-requires : tie.Need-next_run-i-requires invariant-loop decreases-loop
next-run-requires c κs = ((run-stays c.before).1, (call (seen c.before)).requires.1)

abbrev after_run : tie.After-next_run-i invariant-loop decreases-loop → tie.After-run_end-j invariant-loop decreases-loop
after_run c = c.before.before

next : (c : tie.After-next_run-i invariant-loop decreases-loop) → let s = call (seen (after_run c)) in let n = c.next_run-i.result in
    ((after_run c).run_end-j.result ≤ n) × (n ≤ s.args.cells) × (unmarked (drop n (own s)) ≡ 0)
next c = skipped (call (seen (after_run c))) _ _ (run-stays (after_run c)).1 c.next_run-i.ensures

loop-less-2 : tie.Need-loop-i-smaller invariant-loop decreases-loop
loop-less-2 c = omega (arith, run-stays (after_run c), next c)

loop-again-2 : tie.Need-loop-i-preserved invariant-loop decreases-loop
loop-again-2 c =
    let r = after_run c in
    let s = call (seen r) in
    let a = s.args in
    let l = (seen r).loop-i in
    let n = next c in (
      n.1,
      omega (arith, n.0, run-stays r),
      omega (arith, n.0, run-stays r),
      n.2,
      λ memory e. rw c.larger-largest-in-loop-i.ensures
          (measured_more a.format a.base memory (own s) l.i r.run_end-j.result (e ∙ sym (long s)) (omega (arith, long s)) l.invariant.3
          r.run_end-j.ensures (shown (window_of a.base memory (own s))) a.entry l.records l.marked l.largest c.next_run-i.result
          c.next_run-i.ensures (l.invariant.4 memory e)),
    )

returns : tie.Need-returns invariant-loop decreases-loop
returns c =
    let s = c.before.before.before.before in
    let a = s.args in
    let l = c.loop-i in (
      λ memory e. measured_end a.format a.base memory (own s) a.entry l.records l.marked l.largest l.i (e ∙ sym (long s))
          (omega (arith, long s, c.loop-i-test.false)) (l.invariant.4 memory e),
      (omega arith, omega arith),
    )

pub size_of_spec : {M : Type 1} → statement M
size_of_spec =
    tie.close
    (tie.spec
    invariant-loop
    decreases-loop
    next-marked-requires
    loop-holds
    rows-end-requires
    (λ c. omega (arith, rows_stay c))
    (λ c. omega (arith, rows_stay c))
    (λ c. omega (arith, rows_stay c))
    (λ c. omega (arith, rows_stay c))
    (λ c. omega (arith, rows_stay c))
    (λ c. omega (arith, rows_stay c))
    (λ c. omega (arith, rows_stay c))
    (λ c κs. search rules)
    next-marked-requires-2
    loop-less
    loop-again
    run-end-requires
    (λ c. omega arith)
    (λ c. omega (arith, run-stays c))
    (λ c. omega (arith, run-stays c))
    (λ c. omega (arith, run-stays c))
    (λ c. omega (arith, run-stays c))
    (λ c. omega (arith, run-stays c))
    (λ c κs. search rules)
    next-run-requires
    loop-less-2
    loop-again-2
    returns)

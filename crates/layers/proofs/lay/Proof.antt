-- `lay` meets its contract. The loop's invariant: the marked cells below `at` are laid, the others are as they were.
use mathlib.Core.Path.{◌≡◌, sym, ap, ◌∙◌, subst}
use Prim.Native.Nat.{ℕ, ◌-◌, ◌≤◌, ◌<◌}
use native.Mathlib.Omega.{arith}
use mathlib.Core.List.{List}
use lib.ListN.{length, take, drop, length-drop}
use Rattle.lists.specs.Lists.{over}
use Rattle.lists.proofs.PartLaws.{part_long}
use Rattle.lists.proofs.OverLaws.{lent_over}
use Rattle.window.proofs.WalkLaws.{gap_inside}
use Rattle.marks.specs.Forms.{flags}
use Rattle.marks.proofs.FormLaws.{flags_length}
use Rattle.layers.proofs.ShownLaws.{Laid, lay_none, lay_all, inside, further, lay_turn}
use borrow.Author.Rules.{rules}
use Rattle.layers.proofs.lay.Statement.{statement}
use Rattle.layers.proofs.lay.Tie as tie

abbrev invariant-loop : tie.invariant-loop-at
invariant-loop memory₀ bytes form marks cells at₀ memory at = (at ≤ length memory₀) × Laid memory₀ bytes (flags form (length memory₀) marks) at memory

abbrev decreases-loop : tie.decreases-loop-at
decreases-loop memory₀ bytes form marks cells at₀ memory at = length memory₀ - at

-- a turn whose run is known
module _ (c : tie.After-run_end-to invariant-loop decreases-loop) where
  abbrev loop : tie.At-loop-at invariant-loop decreases-loop
  loop = c.before.before.before

  abbrev call : tie.Start invariant-loop decreases-loop
  call = loop.before.before.before.before

  abbrev memory : List ℕ
  memory = call.args.memory.now

  abbrev own : List ℕ
  own = flags call.args.form (length memory) call.args.marks.now

  abbrev from : ℕ
  from = c.next_marked-from.result

  abbrev to : ℕ
  to = c.run_end-to.result

  own-long : length own ≡ length memory
  own-long = flags_length call.args.form (length memory) call.args.marks.now call.requires.1

  more : loop.loop-at.at < length memory
  more = c.loop-at-test.true

  run_inside : (from ≤ to) × (to ≤ length memory)
  run_inside =
      inside memory call.args.bytes.now own call.requires.0 own-long loop.loop-at.at from to (length memory) loop.loop-at.memory
      loop.loop-at.invariant.1 more (omega (arith, more)) c.next_marked-from.ensures c.run_end-to.ensures

  run-further : loop.loop-at.at < to
  run-further =
      further memory call.args.bytes.now own call.requires.0 own-long loop.loop-at.at from to (length memory) loop.loop-at.memory
      loop.loop-at.invariant.1 more (omega (arith, more)) c.next_marked-from.ensures c.run_end-to.ensures

  run-laid : Laid memory call.args.bytes.now own to (over loop.loop-at.memory from (take (to - from) (drop from call.args.bytes.now)))
  run-laid =
      lay_turn memory call.args.bytes.now own call.requires.0 own-long loop.loop-at.at from to (length memory) loop.loop-at.memory
      loop.loop-at.invariant.1 more (omega (arith, more)) c.next_marked-from.ensures c.run_end-to.ensures

  -- the parts that are copied are as long as the run
  bytes_long : length (take (to - from) (drop from call.args.bytes.now)) ≡ to - from
  bytes_long = part_long call.args.bytes.now from to run_inside.0 (omega (arith, run_inside.1, call.requires.0))

  memory_long : length (take (to - from) (drop from loop.loop-at.memory)) ≡ to - from
  memory_long = part_long loop.loop-at.memory from to run_inside.0 (omega (arith, run_inside.1, loop.loop-at.invariant.1.long))

run-end-requires : tie.Need-run_end-to-requires invariant-loop decreases-loop
run-end-requires c κs =
    let s = c.before.before.before.before.before.before in
    let n = length s.args.memory.now in
    let fs = flags s.args.form n s.args.marks.now in
    let l = c.loop-at in
    let e = flags_length s.args.form n s.args.marks.now s.requires.1 in
    (omega (arith, gap_inside (drop l.at fs), length-drop l.at fs, e, c.next_marked-from.ensures, l.invariant.0), s.requires.1)

part-copy-end : tie.Need-slice_bounds-copy_from_slice-end invariant-loop decreases-loop
part-copy-end c = let e = (run_inside c).1 in let l = (loop c).loop-at.invariant.1.long in search rules

part-copy-end-2 : tie.Need-slice_bounds-copy_from_slice-end-in-loop-at invariant-loop decreases-loop
part-copy-end-2 c = let e = (run_inside c.before).1 in let p = (call c.before).requires.0 in search rules

loop-again : tie.Need-loop-at-preserved invariant-loop decreases-loop
loop-again c =
    let at_copy = c.before.before in
    let d = at_copy.before.before.before in
    let part = at_copy.copy_from_slice.ensures.1 in (
      (run_inside d).1,
      subst (Laid (memory d) (call d).args.bytes.now (own d) (to d))
          (sym (lent_over (from d) (to d - from d) (loop d).loop-at.memory _ (sym (ap length part ∙ bytes_long d)) ∙ ap (over (loop d).loop-at.memory (from d)) part))
          (run-laid d),
    )

returns : tie.Need-returns invariant-loop decreases-loop
returns c =
    let k = c.before in
    let a = k.args in
    lay_all a.memory.now a.bytes.now (flags a.form (length a.memory.now) a.marks.now) k.loop-at.at k.loop-at.memory
    (omega (arith, c.loop-at-test.false, k.loop-at.invariant.0)) k.loop-at.invariant.1

pub lay_spec : {M : Type 1} → statement M
lay_spec =
    tie.close
    (tie.spec
    invariant-loop
    decreases-loop
    (λ c. (omega arith, lay_none _ _ _))
    (λ c κs. search rules)
    run-end-requires
    (λ c. (run_inside c).0)
    (λ c. search rules)
    part-copy-end
    (λ c. (run_inside c.before).0)
    (λ c. search rules)
    part-copy-end-2
    (λ c κs. (search rules, memory_long c.before.before ∙ sym (bytes_long c.before.before)))
    (λ c. omega (arith, run-further c.before.before.before.before.before, (run_inside c.before.before.before.before.before).1))
    loop-again
    (λ c. search rules)
    returns)

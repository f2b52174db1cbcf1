-- `first_above` meets its contract: the first mark behind the cells that a tape can hold.
use mathlib.Core.Path.{◌≡◌, sym, ap, ◌∙◌}
use Prim.Native.Nat.{ℕ, ◌+◌, ◌≤◌}
use native.Mathlib.Omega.{arith}
use lib.ListN.{length, drop}
use Rattle.window.specs.Walks.{unmarked}
use Rattle.marks.specs.Forms.{flags}
use Rattle.marks.proofs.FormLaws.{flags_length}
use Rattle.tape_text.specs.Pieces.{low_cells}
use Rattle.tape_text.proofs.AboveLaws.{above_is}
use borrow.Author.Rules.{rules}
use Rattle.tape_text.proofs.first_above.Statement.{statement}
use Rattle.tape_text.proofs.first_above.Tie as tie

-- the low cells are cells of the window
inside : (base cells low : ℕ) → low ≡ low_cells base cells → low ≤ cells
unfolding low_cells
inside base cells low e = omega (arith, e)

next-marked-requires : tie.Need-next_marked-requires
next-marked-requires c κs =
    let s = c.before.before in
    (inside s.args.base s.args.cells c.low_cells-low.result c.low_cells-low.ensures, s.requires)

returns : tie.Need-returns
returns c =
    let at_low = c.before in
    let s = at_low.before.before in
    let a = s.args in
    let ms = flags a.form a.cells a.marks.now in
    let long : length ms ≡ a.cells = flags_length a.form a.cells a.marks.now s.requires in
    let low = at_low.low_cells-low.ensures ∙ ap (low_cells a.base) (sym long) in
    c.next_marked.ensures ∙ ap (λ (n : ℕ). n + unmarked (drop n ms)) low ∙ above_is a.base ms

pub first_above_spec : {M : Type 1} → statement M
first_above_spec = tie.close (tie.spec (λ c κs. search rules) next-marked-requires returns)

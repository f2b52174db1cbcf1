-- `run_end` meets its contract: a run has at most as many cells as its data line has room for.
use mathlib.Core.Path.{ap, ◌∙◌}
use Prim.Native.Nat.{ℕ, ◌+◌}
use lib.ListN.{drop}
use Rattle.window.specs.Walks.{run_on}
use Rattle.marks.specs.Forms.{flags}
use borrow.Author.Rules.{rules}
use Rattle.size.proofs.run_end.Statement.{statement}
use Rattle.size.proofs.run_end.Tie as tie

returns : tie.Need-returns
returns c =
    let at_most = c.before in
    let a = at_most.args in
    c.run_end.ensures
    ∙ ap (λ (n : ℕ). a.at + run_on n (drop a.at (flags a.form a.cells a.marks.now))) at_most.most_cells-most.ensures

pub run_end_spec : {M : Type 1} → statement M
run_end_spec = tie.close (tie.spec (λ c. search rules) (λ c κs. search rules) (λ c κs. search rules) returns)

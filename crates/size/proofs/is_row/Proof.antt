-- `is_row` meets its contract: a block of marks that are all 1 is a run, and as long as a row may be.
use mathlib.Core.Path.{◌≡◌, sym, ap, ◌∙◌}
use Prim.Native.Nat.{ℕ, suc, ◌+◌}
use native.Mathlib.Omega.{arith}
use lib.ListN.{length}
use Rattle.formats.specs.Choices.{follow_of}
use Rattle.marks.proofs.FormLaws.{bytes_long}
use Rattle.marks.proofs.FlagLaws.{run_bytes}
use Rattle.lists.proofs.TestLaws.{no_says}
use borrow.Author.Rules.{rules}
use Rattle.size.proofs.is_row.Statement.{statement}
use Rattle.size.proofs.is_row.Tie as tie

-- the call, where the format is known
abbrev call : tie.In-Records → tie.Start
call c = c.before.before

-- and where the form of the marks is
abbrev past : tie.In-Bytes → tie.Else-most_cells-ne-ROW
past c = c.before

long : (c : tie.In-Bytes) → let a = (call (past c).before.before).args in length a.marks.now ≡ a.cells
long c =
    let s = call (past c).before.before in
    bytes_long s.args.form s.args.cells s.args.marks.now s.requires.2 c.in-Bytes.is

is-row-requires : tie.Need-is_row-requires
is-row-requires c κs = omega (arith, (call (past c).before.before).requires.0, long c)

returns-3 : tie.Need-returns-in-Bytes
returns-3 c e =
    let told = c.before in
    let at_most = (past told).before in
    let s = call at_most.before in
    let a = s.args in
    let row = c.is_row.ensures e in
    let sixteen : 16 ≡ suc (follow_of a.format (a.base + a.at)) = sym (past told).if-most_cells-ne-ROW.false ∙ at_most.most_cells.ensures in (
      omega (arith, long told, row.0),
      rw (← sixteen, told.in-Bytes.is)
          (run_bytes a.cells a.marks.now a.at 16 16 (a.at + 16) s.requires.0 (omega (arith, long told, row.0)) (long told)
          (ap (λ (n : ℕ). a.at + n) (sym row.1))),
      at_most.in-Records.is,
    )

pub is_row_spec : {M : Type 1} → statement M
is_row_spec =
    tie.close
    (tie.spec
    (λ c. search rules)
    (λ c. search rules)
    (λ c e. no_says e)
    (λ c. search rules)
    (λ c κs. search rules)
    (λ c e. no_says e)
    (λ c. search rules)
    is-row-requires
    (λ c. search rules)
    returns-3
    (λ c e. no_says e))

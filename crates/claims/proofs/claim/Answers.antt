-- `claim` meets its contract: each way out is one law of GrantLaws.
use Rattle.std.proofs.Common.{◌≡◌, ◌-◌, true, false, take, drop, sym, ◌∙◌, arith}
use native.Mathlib.Nat.{add-sub_cancel_left}
use Rattle.window.specs.Marks.{is_free}
use Rattle.marks.specs.Forms.{flags}
use Rattle.marks.proofs.FormLaws.{tidy_length}
use Rattle.claims.proofs.GrantLaws.{no_cells, row_12_low, row_12_high, row_13, granted}
use Rattle.claims.proofs.claim.Goals as goal

pub returns-then-count-eq0 : goal.returns-then-count-eq0
returns-then-count-eq0 c =
    let a = c.args in no_cells a.form a.cells a.marks.now c.requires a.base a.address a.count (omega arith)

pub returns-then-address-base : goal.returns-then-address-base
returns-then-address-base c =
    let a = c.args in row_12_low a.form a.cells a.marks.now c.requires a.base a.address a.count (λ e. omega arith) (omega arith)

pub returns-then-cells-from : goal.returns-then-cells-from
returns-then-cells-from c =
    let a = c.args in row_12_high a.form a.cells a.marks.now c.requires a.base a.address a.count (λ e. omega arith) (omega arith) (omega arith)

pub returns-then-cells-from-2 : goal.returns-then-cells-from-2
returns-then-cells-from-2 c =
    let a = c.args in row_12_high a.form a.cells a.marks.now c.requires a.base a.address a.count (λ e. omega arith) (omega arith) (omega arith)

pub are_free-requires : goal.are_free-requires
are_free-requires c = (omega arith, omega arith, tidy_length c.args.form c.args.cells c.args.marks.now c.requires)

pub returns-then-not-are_free : goal.returns-then-not-are_free
returns-then-not-are_free c =
    let a = c.args in
    let taken : is_free (take a.count (drop (a.address - a.base) (flags a.form a.cells a.marks.now))) ≡ false
    = rw add-sub_cancel_left at (sym c.are_free.ensures ∙ c.if-not-are_free.true) in
    row_13 a.form a.cells a.marks.now c.requires a.base a.address a.count (λ e. omega arith) (omega arith) (omega arith) taken

pub returns : goal.returns
returns c =
    let a = c.args in
    let free : is_free (take a.count (drop (a.address - a.base) (flags a.form a.cells a.marks.now))) ≡ true
    = rw add-sub_cancel_left at (sym c.are_free.ensures ∙ c.if-not-are_free.false) in
    granted a.form a.cells a.marks.now c.requires a.base a.address a.count (λ e. omega arith) (omega arith) (omega arith) free _
    (rw add-sub_cancel_left at c.mark.ensures)

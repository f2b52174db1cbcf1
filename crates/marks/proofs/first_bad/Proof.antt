-- `first_bad` meets its contract: row 16 of the form, and its place.
use mathlib.Core.Path.{◌≡◌, sym, ◌∙◌}
use lib.ListN.{length}
use Rattle.bits.specs.Bits.{byte_count}
use native.Mathlib.Omega.{arith}
use borrow.Author.Tests.{not-true, not-false}
use Rattle.marks.proofs.FormLaws.{packed_long}
use Rattle.marks.proofs.FlagLaws.{spare_set, spare_clear}
use borrow.Author.Rules.{rules}
use Rattle.marks.proofs.first_bad.Statement.{statement}
use Rattle.marks.proofs.first_bad.Tie as tie

returns : tie.Need-returns-then-not-has_bad
returns c = let m = c.before in rw (m.in-Bytes.is, sym m.has_bad.ensures ∙ c.if-not-has_bad.true)

returns-2 : tie.Need-returns-in-Bytes
returns-2 c =
    let e = c.before in
    rw (e.in-Bytes.is, sym e.has_bad.ensures ∙ e.if-not-has_bad.false, c.bad_byte.ensures)

-- how many mark bytes there are, where they are packed
long : (c : tie.In-Packed) → length c.args.marks.now ≡ byte_count c.args.cells
long c = let s = c.before in packed_long s.args.form s.args.cells s.args.marks.now s.requires.1 c.in-Packed.is

returns-3 : tie.Need-returns-then-next_set-end
returns-3 c =
    let m = c.before in
    let a = m.args in
    rw (
      m.in-Packed.is,
      spare_clear a.cells a.marks.now m.next_set.result (long m.before) m.next_set.ensures c.if-next_set-end.true,
    )

returns-4 : tie.Need-returns-in-Packed
returns-4 c =
    let m = c.before in
    let a = m.args in
    rw (
      m.in-Packed.is,
      spare_set a.cells a.marks.now m.next_set.result (long m.before) m.next_set.ensures c.if-next_set-end.false,
    )

pub first_bad_spec : {M : Type 1} → statement M
first_bad_spec =
    tie.close
    (tie.spec
    (λ c. search rules)
    (λ c κs. search rules)
    returns
    (λ c κs. search rules)
    returns-2
    (λ c. search rules)
    (λ c. omega (arith, long c))
    (λ c κs. omega (arith, long c))
    returns-3
    returns-4)

-- `mark` meets its contract in either form.
use Rattle.std.proofs.Common.{◌-◌, refl, subst, arith}
use Rattle.lists.proofs.OverLaws.{lent_filled}
use Rattle.bits.proofs.SpanLaws.{painted}
use Rattle.marks.specs.declared.Form.{Form}
use Rattle.marks.specs.Forms.{Tidy}
use Rattle.marks.proofs.FormLaws.{tidy_length, bytes_long, packed_long}
use Rattle.claims.proofs.mark.Goals as goal

pub set_bits-requires : goal.set_bits-requires
set_bits-requires c =
    let a = c.args in
    let long = packed_long a.form a.cells a.marks.now (tidy_length a.form a.cells a.marks.now c.requires.2) c.in-Packed.is in
    omega arith

pub returns-in-Bytes : goal.returns-in-Bytes
returns-in-Bytes c =
    let a = c.args in
    let long = bytes_long a.form a.cells a.marks.now (tidy_length a.form a.cells a.marks.now c.requires.2) c.in-Bytes.is in
    rw c.in-Bytes.is (lent_filled a.from _ (a.to - a.from) 1 a.marks.now _ refl (omega arith) c.cover.ensures)

pub returns-in-Packed : goal.returns-in-Packed
returns-in-Packed c =
    let a = c.args in
    let tidy = subst (λ (f : Form). Tidy f a.cells a.marks.now) c.in-Packed.is c.requires.2 in
    rw c.in-Packed.is
    (painted a.cells a.marks.now a.from (a.to - a.from) a.to (omega arith) (omega arith) _ tidy.1 c.set_bits.ensures c.set_bits.auto.marks)

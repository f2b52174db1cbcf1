-- The weights of two characters, modulo 256, are their byte.
use Rattle.std.proofs.Common.{arith}
use Rattle.hex_digits.proofs.DigitTableLaws.{weight_byte}
use Rattle.hex_read.proofs.EntryLaws.{entry_at, entry_most}
use Rattle.hex_read.proofs.DigitTable.byte_of.Goals as goal

pub overflow_mul-result : goal.overflow_mul-result
overflow_mul-result c =
    let t = c.args.self.now in
    record { fits = omega (arith, entry_most t.entries c.args.c t.right, entry_most t.entries c.args.d t.right) }

pub overflow_add-result : goal.overflow_add-result
overflow_add-result c =
    let t = c.args.self.now in
    record { fits = omega (arith, entry_most t.entries c.args.c t.right, entry_most t.entries c.args.d t.right) }

pub returns : goal.returns
returns c =
    let a = c.args in
    let t = a.self.now in
    let e = entry_at t.entries a.c t.right (omega arith) in
    let f = entry_at t.entries a.d t.right (omega arith) in
    rw (e, f) (weight_byte a.c a.d)

use Rattle.std.proofs.Common.{arith, get_or, ◌*◌, ◌+◌}
use Rattle.hex_digits.proofs.DigitTableLaws.{weight_most, weigh_turn, weigh_end}
use Rattle.hex_read.proofs.EntryLaws.{entry_at}
use Rattle.hex_read.proofs.DigitTable.weigh.Goals as goal

pub overflow_add-high : goal.overflow_add-high
overflow_add-high c =
    let t = c.args.self.now in
    let d = get_or c.args.chars.now (2 * c.loop-k.k) 0 in
    record { fits = omega (arith, entry_at t.entries d t.right (omega (arith, c.type_inv.chars (2 * c.loop-k.k))), weight_most d) }

pub overflow_add-low-in-loop-k : goal.overflow_add-low-in-loop-k
overflow_add-low-in-loop-k c =
    let t = c.args.self.now in
    let d = get_or c.args.chars.now (2 * c.loop-k.k + 1) 0 in
    record { fits = omega (arith, entry_at t.entries d t.right (omega (arith, c.type_inv.chars (2 * c.loop-k.k + 1))), weight_most d) }

pub loop-k-preserved : goal.loop-k-preserved
loop-k-preserved c =
    let t = c.args.self.now in
    let l = c.loop-k in
    let cs = c.args.chars.now in
    let a = get_or cs (2 * l.k) 0 in
    let b = get_or cs (2 * l.k + 1) 0 in
    let e = entry_at t.entries a t.right (omega (arith, c.type_inv.chars (2 * l.k))) in
    let f = entry_at t.entries b t.right (omega (arith, c.type_inv.chars (2 * l.k + 1))) in
    let m = weight_most a in
    let n = weight_most b in
    let w = weigh_turn cs l.k (omega arith) in
    (omega arith, omega arith, omega arith)

pub returns : goal.returns
returns c = let e = weigh_end c.args.chars.now c.loop-k.k (omega arith) in (omega arith, omega arith)

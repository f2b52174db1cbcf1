-- `store_bytes` meets its contract: nothing for no bytes, and otherwise they are copied into a part of memory that is lent.
use mathlib.Core.Path.{sym, ap, ◌∙◌}
use native.Mathlib.Nat.{add-sub_cancel_left}
use lib.ListN.{length}
use Rattle.std.proofs.Common.{◌+◌, ◌-◌, arith}
use Rattle.lists.specs.Lists.{over}
use Rattle.lists.proofs.PartLaws.{lent_length}
use Rattle.lists.proofs.OverLaws.{lent_over}
use Rattle.sheet_store.proofs.StoreLaws.{over_none, in_window}
use Rattle.sheet_store.proofs.store_bytes.Goals as goal

pub returns-then-is_empty : goal.returns-then-is_empty
returns-then-is_empty c = over_none _ _ _ c.if-is_empty.ensures

pub overflow_sub-from : goal.overflow_sub-from
overflow_sub-from c = (in_window _ _ _ _ c.requires c.if-is_empty.ensures).0

pub overflow_add-from : goal.overflow_add-from
overflow_add-from c = omega (arith, in_window _ _ _ _ c.requires c.if-is_empty.ensures)

pub slice_bounds-copy_from_slice-end : goal.slice_bounds-copy_from_slice-end
slice_bounds-copy_from_slice-end c = omega (arith, in_window _ _ _ _ c.requires c.if-is_empty.ensures)

pub returns : goal.returns
returns c =
    let a = c.args in
    let i = a.address - a.base in
    let n = length a.bytes.now in
    let stored = c.copy_from_slice.ensures.after in
    lent_over i (i + n - i) a.memory.now c.copy_from_slice.new.self (add-sub_cancel_left i n ∙ ap length (sym stored))
    ∙ ap (over a.memory.now i) stored

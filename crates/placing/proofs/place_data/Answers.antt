-- The part of memory that is lent has a byte for each data byte, and comes back with them.
use mathlib.Core.Path.{sym, ap, ◌∙◌}
use Prim.Native.Nat.{◌+◌, ◌-◌}
use native.Mathlib.Nat.{add-sub_cancel_left}
use Rattle.lists.specs.Lists.{over}
use Rattle.lists.proofs.PartLaws.{lent_length}
use Rattle.lists.proofs.OverLaws.{lent_over}
use Rattle.placing.proofs.place_data.Goals as goal

pub returns : goal.returns
returns c =
    let a = c.args in
    let lent = lent_length a.memory.now a.from a.count c.requires.digits_bound.1 in
    lent_over a.from (a.from + a.count - a.from) a.memory.now _ (add-sub_cancel_left a.from a.count ∙ sym (c.store_data.auto.part ∙ lent))
    ∙ ap (over a.memory.now a.from) (rw lent at c.store_data.ensures)

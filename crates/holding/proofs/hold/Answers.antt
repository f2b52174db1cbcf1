-- As many characters as there is room for are copied behind those that were held.
use mathlib.Core.Path.{sym, ◌∙◌}
use Prim.Native.Nat.{ℕ, ◌+◌, ◌-◌}
use native.Mathlib.Omega.{arith}
use mathlib.Core.List.{List, [], append-nil}
use lib.ListN.{length, take}
use lib.Seq.{take_all}
use Rattle.session.proofs.HoldLaws.{held_now}
use Rattle.holding.proofs.hold.Goals as goal

pub returns : goal.returns
returns c =
    let a = c.args in
    let from = c.smaller-from.result in
    let count = c.smaller-count.result in
    let part : List ℕ = take count a.chars.now in (
      held_now a.line.now c.requires a.held a.chars.now from count (from + count - from) _ [] c.smaller-from.ensures c.smaller-count.ensures
          (c.copy_from_slice.ensures.after ∙ sym (append-nil (take (length part) part) ∙ take_all (length part) part (omega arith))),
      omega (arith, c.smaller-from.ensures, c.smaller-count.ensures),
    )

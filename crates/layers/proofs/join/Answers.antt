-- One more mark is joined, and behind the last one all are.
use Rattle.std.proofs.Common.{◌≡◌, ◌<◌, length, get_or, bit_or, ap, ◌∙◌, arith}
use Rattle.lists.proofs.RenewLaws.{still_old, renew_turn, renew_end}
use Rattle.layers.specs.Layers.{joined}
use Rattle.layers.proofs.LayerLaws.{joined_at, joined_length}
use Rattle.layers.proofs.join.Goals as goal

pub loop-i-preserved : goal.loop-i-preserved
loop-i-preserved c =
    let marks = c.args.marks.now in
    let others = c.args.others.now in
    let i = c.loop-i.i in
    let h : i < length marks = omega arith in
    let long : length (joined marks others) ≡ length marks = joined_length marks others c.requires in
    let old : get_or c.loop-i.marks i 0 ≡ get_or marks i 0 = ap (λ xs. get_or xs i 0) c.loop-i.invariant ∙ still_old marks (joined marks others) i long h in
    renew_turn marks (joined marks others) c.loop-i.marks i _ long h c.loop-i.invariant
    (ap (λ x. bit_or x (get_or others i 0)) old ∙ joined_at marks others i c.requires h)

pub returns : goal.returns
returns c = renew_end _ _ _ c.loop-i.i (joined_length _ _ c.requires) (omega arith) c.loop-i.invariant

-- The next character is still the old one, and is stored as it is shown.
use Rattle.std.proofs.Common.{ℕ, ◌<◌, List, map, length, get_or, ap, ◌∙◌, arith}
use lib.ListN.{length-map}
use Rattle.lists.proofs.RenewLaws.{still_old, renew_turn}
use Rattle.session.specs.Sessions.{visible}
use Rattle.holding.proofs.VisibleLaws.{shown_at}
use Rattle.holding.proofs.hide_ends.Goals as goal

pub loop-c-preserved : goal.loop-c-preserved
loop-c-preserved c =
    let l = c.loop-c in
    let cs = c.args.chars.now in
    let i = l.c-index in
    let h : i < length cs = omega arith in
    let old = ap (λ (xs : List ℕ). get_or xs i 0) l.invariant ∙ still_old cs (map visible cs) i (length-map cs visible) h in
    let shown = c.seen.ensures ∙ ap visible old ∙ shown_at cs i h in
    renew_turn cs (map visible cs) l.chars i c.seen.result (length-map cs visible) h l.invariant shown

-- The fold is the or of all marks.
use Rattle.std.proofs.Common.{◌≡◌, rules, bit_or, fold}
use Rattle.mark_bytes.proofs.OrLaws.{or_free, or_bad}
use Rattle.mark_bytes.proofs.any_of.Goals as goal

pub returns : goal.returns
returns c =
    let e : c.fold.result ≡ fold bit_or 0 c.args.part.now = search rules in
    (rw e (or_free 0 c.args.part.now), rw e (or_bad 0 c.args.part.now))

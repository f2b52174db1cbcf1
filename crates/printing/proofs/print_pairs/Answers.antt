use Rattle.std.proofs.Common.{◌≡◌, ◌*◌, take, ◌∙◌, ap, subst, OnOk}
use Rattle.std.specs.Io.KnownBytes.{Appends}
use Rattle.hex_digits.specs.Digits.{digits_of}
use Rattle.printing.proofs.PairLaws.{pairs_front}
use Rattle.printing.proofs.print_pairs.Goals as goal

pub returns : goal.returns
returns g c =
    let n = c.min-n.result in
    let digits : take (2 * n) c.put_pairs.new.out ≡ digits_of (take 1024 c.args.bytes.now) =
    ap (take (2 * n)) c.put_pairs.ensures ∙ pairs_front _ c.args.bytes.now n c.min-n.ensures in
    let before = g.W.Write.contents c.args.out.now in
    let behind = g.W.Write.contents c.write_all.new.self in
    subst (λ ds. OnOk c.write_all.result (Appends before behind ds)) digits c.write_all.ensures.bytes

use Rattle.std.proofs.Common.{◌≡◌, ◌∷◌, [], ◌++◌, ◌∙◌, subst, codes}
use Rattle.std.proofs.KnownBytes.{Appends-trans}
use Rattle.std.specs.Io.KnownBytes.{Appends}
use Rattle.hex_digits.specs.Digits.{digits_of}
use Rattle.report.proofs.PairLaws.{pair_over}
use Rattle.report.proofs.print_wanted.Goals as goal

pub returns-in_ok-write_all : goal.returns-in_ok-write_all
returns-in_ok-write_all g c =
    let digits : c.put_pair.new.out ≡ digits_of (c.args.refusal.want ∷ []) = c.put_pair.ensures ∙ pair_over _ in
    let text : Appends (g.W.Write.contents c.args.out.now) (g.W.Write.contents c.write_all.new.self) (codes " want " ++ digits_of (c.args.refusal.want ∷ [])) = Appends-trans _ _ _ _ _ c.in_ok-write.ensures.bytes (subst (Appends _ _) digits c.in_ok-write_all.ensures.bytes) in
    rw c.if-refusal-eq-MISMATCH.true text

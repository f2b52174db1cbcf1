use Rattle.std.proofs.Common.{◌≡◌, ◌%◌, ◌/◌, [], ◌∷◌, ap, arith, ◌∙◌}
use Rattle.lists.specs.Lists.{over}
use Rattle.lists.proofs.OverLaws.{lent_over}
use Rattle.hex_write.proofs.store_pair.Goals as goal

pub returns : goal.returns
returns c =
    let a = c.args in
    let e : a.pair / 256 % 256 ≡ a.pair / 256 = omega arith in
    let part : c.copy_from_slice.new.self ≡ a.pair % 256 ∷ a.pair / 256 ∷ []
    = c.copy_from_slice.ensures.after ∙ c.to_le_bytes.ensures ∙ ap (λ n. a.pair % 256 ∷ n ∷ []) e in
    lent_over _ _ _ _ (rw part (omega arith)) ∙ ap (over a.out.now a.at) part

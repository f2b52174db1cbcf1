-- `check_lengths` divides by a number of chips that row 21 lets pass.
use Rattle.std.proofs.Common.{sym, ◌∙◌}
use Rattle.chips.proofs.LengthLaws.{row_21_some}
use Rattle.chips.proofs.check_lengths.Goals as goal

pub is_unfit-requires : goal.is_unfit-requires
is_unfit-requires c = row_21_some _ _ _ (sym c.is_uneven.ensures ∙ c.if-is_uneven.false)

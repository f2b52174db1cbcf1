-- The checker computes the whole table from its rule, and compares.
use Rattle.std.proofs.Common.{refl}
use Rattle.hex_digits.specs.Digits.{digit}
use Rattle.hex_digits.specs.Tables.{pair_of, pair_table}
use Rattle.hex_write.proofs.PairTable.new.Goals as goal

pub invariant_of-result : goal.invariant_of-result
unfolding pair_table pair_of digit
invariant_of-result c = record { right = refl }

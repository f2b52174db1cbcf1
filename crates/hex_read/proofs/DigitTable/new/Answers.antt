-- The checker computes the whole table from its rule, and compares.
use Rattle.std.proofs.Common.{refl}
use Rattle.hex_digits.specs.Digits.{between, is_hex, value}
use Rattle.hex_digits.specs.Tables.{weight, digit_table}
use Rattle.hex_read.proofs.DigitTable.new.Goals as goal

pub invariant_of-result : goal.invariant_of-result
unfolding digit_table weight is_hex value between
invariant_of-result c = record { right = refl }

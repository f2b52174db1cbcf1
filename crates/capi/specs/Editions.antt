-- The editions of tapes by number, as C names them.
use Rattle.std.specs.Prelude.{ℕ, cond, eqb}
use Rattle.tape.specs.declared.Edition.{Edition}
use Rattle.tape.specs.declared.Edition.TheVariants.{Repeat, Sum}

-- 0 for the number again, any other number for the sum
unfoldable pub edition_of : ℕ → Edition
edition_of number = cond (eqb number 0) Repeat Sum

-- `text_length` meets its contract: nothing wraps, and its test is the definition's.
use Prim.Native.Nat.{◌+◌, ◌*◌, ◌^◌, ◌≤◌}
use native.Mathlib.Nat.{add-zero}
use native.Mathlib.Omega.{arith}
use borrow.Author.Tests.{le-leb, lt-leb}
use Rattle.srec_text.specs.Pieces.{length_for}
use Rattle.srec_text.proofs.LengthLaws.{records_fit}
use borrow.Author.Rules.{rules}
use Rattle.srec_text.proofs.text_length.Statement.{statement}
use Rattle.srec_text.proofs.text_length.Tie as tie

-- what the data records take fits
fits : (c : tie.Start) → c.args.size.records * (7 + 2 * c.args.width) ≤ 2 ^ 32 * 15
fits c = records_fit c.args.size.records c.args.width c.requires.0 c.requires.3

mul-least-2 : tie.Need-overflow_mul-least-2
mul-least-2 c = omega (arith, fits c)

add-least-2 : tie.Need-overflow_add-least-2
add-least-2 c = omega (arith, fits c.before)

add-least-3 : tie.Need-overflow_add-least-3
add-least-3 c = omega (arith, fits c.before)

add-least-4 : tie.Need-overflow_add-least-4
add-least-4 c = omega (arith, fits c.before)

add-result : tie.Need-overflow_add-result
add-result c = omega (arith, fits c.before.before)

returns : tie.Need-returns-then-records-le-MOST_COUNTED
unfolding length_for
returns c = rw (le-leb c.args.size.records 65535 c.if-records-le-MOST_COUNTED.true)

returns-2 : tie.Need-returns
unfolding length_for
returns-2 c = rw (lt-leb c.args.size.records 65535 c.if-records-le-MOST_COUNTED.false, add-zero)

pub text_length_spec : {M : Type 1} → statement M
text_length_spec =
    tie.close
    (tie.spec
    (λ c. search rules)
    (λ c. search rules)
    (λ c. search rules)
    (λ c. search rules)
    mul-least-2
    (λ c. search rules)
    add-least-2
    add-least-3
    add-least-4
    add-result
    returns
    returns-2)

-- `read_line` meets its contract: each way out is one law of LineReadLaws.
use Rattle.std.proofs.Common.{◌≡◌, ◌+◌, ◌≤◌, ◌∙◌, ℕ, List, length, drop, length-drop, ap, arith}
use Rattle.lists.proofs.PartLaws.{rest}
use Rattle.hex_digits.specs.Digits.{first_bad}
use Rattle.tape_read.proofs.LineFieldLaws.{length_at_lem, address_at}
use Rattle.tape_read.proofs.LineReadLaws.{row_3, row_4_short, row_4_first, LineHead, row_5, row_6, read_good}
use Rattle.tape_read.proofs.read_line.Goals as goal

-- where no character behind ; is wrong, all are digits
all_digits : (chars : List ℕ) (wrong : ℕ) → wrong ≡ first_bad (drop 1 chars) → length chars ≤ wrong + 1 → length (drop 1 chars) ≤ first_bad (drop 1 chars)
all_digits chars wrong e h = omega (arith, length-drop 1 chars)

pub returns-then-n-gt-MOST_CHARS : goal.returns-then-n-gt-MOST_CHARS
returns-then-n-gt-MOST_CHARS c = rw c.fault.ensures (row_3 c.args.place c.args.chars.now (omega arith))

pub returns-then-n-lt-LEAST_CHARS : goal.returns-then-n-lt-LEAST_CHARS
returns-then-n-lt-LEAST_CHARS c =
    rw c.fault-then-n-lt-LEAST_CHARS.ensures (row_4_short c.args.place c.args.chars.now (omega arith) (omega arith))

pub returns-then-chars-ne59 : goal.returns-then-chars-ne59
returns-then-chars-ne59 c =
    rw c.fault-then-chars-ne59.ensures (row_4_first c.args.place c.args.chars.now (omega arith) (omega arith) c.if-chars-ne59.true)

pub returns-then-wrong-n : goal.returns-then-wrong-n
returns-then-wrong-n c =
    let a = c.args in
    let head : LineHead a.chars.now = record { short = omega arith; three = omega arith; letter = omega arith } in
    let bad = c.first_bad-wrong.ensures ∙ ap first_bad (rest 1 a.chars.now) in
    rw c.fault-then-wrong-n.ensures (row_5 a.chars.now head a.place _ bad (omega arith))

pub returns-then-n-len : goal.returns-then-n-len
returns-then-n-len c =
    let a = c.args in
    let head : LineHead a.chars.now = record { short = omega arith; three = omega arith; letter = omega arith } in
    let bad = c.first_bad-wrong.ensures ∙ ap first_bad (rest 1 a.chars.now) in
    let len = c.byte_of-len.ensures ∙ length_at_lem a.chars.now (omega arith) in
    rw c.fault-then-n-len.ensures (row_6 a.chars.now head (all_digits a.chars.now _ bad (omega arith)) _ len a.place (λ e. omega arith))

pub returns : goal.returns
returns c =
    let a = c.args in
    let head : LineHead a.chars.now = record { short = omega arith; three = omega arith; letter = omega arith } in
    let bad = c.first_bad-wrong.ensures ∙ ap first_bad (rest 1 a.chars.now) in
    let len = c.byte_of-len.ensures ∙ length_at_lem a.chars.now (omega arith) in
    read_good a.chars.now head (all_digits a.chars.now _ bad (omega arith)) _ len a.place (omega arith) _
    (c.number_of-address.ensures ∙ address_at a.chars.now)

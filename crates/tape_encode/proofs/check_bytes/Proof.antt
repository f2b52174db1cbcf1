-- `check_bytes` meets its contract: what the rule of the check is given is what the check is about.
use mathlib.Core.Path.{◌≡◌, ap, ◌∙◌}
use Prim.Native.Nat.{ℕ}
use native.Mathlib.Omega.{arith}
use mathlib.Core.List.{List}
use lib.ListN.{take, drop}
use Rattle.hex_digits.specs.Numbers.{in_bytes, sum}
use Rattle.hex_write.proofs.PutLaws.{address_field}
use Rattle.tape_encode.proofs.TapeEncodeLaws.{check_given}
use borrow.Author.Rules.{rules}
use Rattle.tape_encode.proofs.check_bytes.Statement.{statement}
use Rattle.tape_encode.proofs.check_bytes.Tie as tie

-- the call, where all sums are known, and the sum of the two address bytes
abbrev call : tie.After-sum_bytes-2 → tie.Start
call c = c.before.before.before.before.before

address-sum : (c : tie.After-sum_bytes-2) → c.sum_bytes.result ≡ sum (in_bytes 2 (call c).args.address)
address-sum c =
    let at_sum = c.before in
    at_sum.sum_bytes.ensures.0
    ∙ ap (λ (l : List ℕ). sum (take 2 (drop 2 l))) at_sum.bytes_of-all.ensures
    ∙ ap sum (address_field 2 (call c).args.address (omega arith))

returns : tie.Need-returns
returns c =
    let at-check = c.before in
    let at-sums = at-check.before in
    let a = (call at-sums).args in
    c.bytes_of.ensures
    ∙ ap (in_bytes 4) (at-check.check_of-check.ensures ∙ check_given a.edition a.address a.bytes.now _
    (omega (arith, address-sum at-sums, at-sums.sum_bytes-2.ensures.0)))

pub check_bytes_spec : {M : Type 1} → statement M
check_bytes_spec =
    tie.close
    (tie.spec
    (λ c κs. search rules)
    (λ c. search rules)
    (λ c. search rules)
    (λ c. search rules)
    (λ c. search rules)
    (λ c κs. search rules)
    (λ c. search rules)
    (λ c κs. search rules)
    (λ c. search rules)
    (λ c κs. search rules)
    (λ c κs. search rules)
    returns)

-- `put_line` meets its contract: the part that it lends comes back as the line with the low two address bytes and its check.
use mathlib.Core.Path.{◌≡◌, refl, sym, ap, ap₂, ◌∙◌}
use Prim.Native.Nat.{ℕ}
use native.Mathlib.Nat.{add-sub_cancel_left}
use native.Mathlib.Omega.{arith}
use mathlib.Core.List.{List, []}
use lib.ListN.{take, drop}
use Rattle.lists.proofs.OverLaws.{lent_over}
use Rattle.hex_digits.specs.Numbers.{in_bytes}
use Rattle.hex_write.proofs.PutLaws.{address_field}
use Rattle.tape.specs.Judging.{check_of}
use Rattle.tape.specs.Canonical.{fields, line}
use Rattle.tape_encode.specs.Lines.{line_with}
use Rattle.tape_encode.proofs.TapeEncodeLaws.{line_with_lem, length_line}
use borrow.Author.Rules.{rules}
use Rattle.tape_encode.proofs.put_line.Statement.{statement}
use Rattle.tape_encode.proofs.put_line.Tie as tie

-- where the check is known, and the call
abbrev checked : tie.After-put_fields → tie.After-check_bytes-check
checked c = c.before.before.before.before

abbrev call : tie.After-put_fields → tie.Start
call c = (checked c).before.before.before.before

-- the low two of four bytes
low : (l : List ℕ) (n : ℕ) → l ≡ in_bytes 4 n → take 2 (drop 2 l) ≡ in_bytes 2 n
low l n e = ap (λ (x : List ℕ). take 2 (drop 2 x)) e ∙ address_field 2 n (omega arith)

-- the part that comes back
written : (c : tie.After-put_fields) → let a = (call c).args in c.put_fields.new.out ≡ line a.edition a.address a.bytes.now []
written c =
    let a = (call c).args in
    c.put_fields.ensures
    ∙ ap₂ (λ (x y : List ℕ). line_with x a.bytes.now y) (low _ a.address (checked c).bytes_of-all.ensures)
    (low _ (check_of a.edition (fields a.address a.bytes.now)) (checked c).check_bytes-check.ensures)
    ∙ line_with_lem a.edition a.address a.bytes.now

returns : tie.Need-returns
returns c =
    let at_put = c.before.before in
    let a = (call at_put).args in (
      refl,
      rw (written at_put)
          (lent_over a.at _ a.out.now (line a.edition a.address a.bytes.now [])
          (add-sub_cancel_left a.at _ ∙ sym (length_line a.edition a.address a.bytes.now))),
    )

pub put_line_spec : {M : Type 1} → statement M
put_line_spec =
    tie.close
    (tie.spec
    (λ c. search rules)
    (λ c. search rules)
    (λ c. search rules)
    (λ c κs. search rules)
    (λ c κs. search rules)
    (λ c. search rules)
    (λ c. search rules)
    (λ c. search rules)
    (λ c. search rules)
    (λ c. search rules)
    (λ c. search rules)
    (λ c. search rules)
    (λ c. search rules)
    (λ c. search rules)
    (λ c κs. search rules)
    (λ c. search rules)
    returns)

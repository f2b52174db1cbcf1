-- `put_fields` meets its contract: the pieces that it writes are the line.
use mathlib.Core.Path.{◌≡◌, ◌∙◌}
use native.Mathlib.Omega.{arith}
use lib.ListN.{length, length-set}
use Rattle.tape_encode.proofs.TapeEncodeLaws.{line_stored}
use borrow.Author.Rules.{rules}
use Rattle.tape_encode.proofs.put_fields.Statement.{statement}
use Rattle.tape_encode.proofs.put_fields.Tie as tie

-- the call, from behind each field
abbrev behind-length : tie.After-put_pair → tie.Start
behind-length c = c.before.before.before.before.before.before

abbrev behind-address : tie.After-put_pairs → tie.Start
behind-address c = behind-length c.before.before.before.before

abbrev behind-bytes : tie.After-put_pairs-2 → tie.Start
behind-bytes c = behind-address c.before.before.before.before

abbrev behind-check : tie.After-put_pairs-3 → tie.Start
behind-check c = behind-bytes c.before.before.before.before

-- the output keeps its length, field by field
after-length : (c : tie.After-put_pair) → length c.put_pair.new.out ≡ length (behind-length c).args.out.now
after-length c = simp length-set at c.put_pair.auto.out

after-address : (c : tie.After-put_pairs) → length c.put_pairs.new.out ≡ length (behind-address c).args.out.now
after-address c = c.put_pairs.auto.out ∙ after-length c.before.before.before.before

after-bytes : (c : tie.After-put_pairs-2) → length c.put_pairs-2.new.out ≡ length (behind-bytes c).args.out.now
after-bytes c = c.put_pairs-2.auto.out ∙ after-address c.before.before.before.before

after_check : (c : tie.After-put_pairs-3) → length c.put_pairs-3.new.out ≡ length (behind-check c).args.out.now
after_check c = c.put_pairs-3.auto.out ∙ after-bytes c.before.before.before.before

put-pair-requires : tie.Need-put_pair-requires
put-pair-requires c κs = simp length-set (omega arith)

put-pairs-requires : tie.Need-put_pairs-requires
put-pairs-requires c κs = omega (arith, after-length c.before.before.before)

put-pairs-requires-2 : tie.Need-put_pairs-requires-2
put-pairs-requires-2 c κs = omega (arith, after-address c.before.before.before)

put-pairs-requires-3 : tie.Need-put_pairs-requires-3
put-pairs-requires-3 c κs = omega (arith, after-bytes c.before.before.before)

slice-write-out-2 : tie.Need-bounds-out-carriage
slice-write-out-2 c = omega (arith, after_check c.before.before)

slice-write-out-3 : tie.Need-bounds-out-feed
slice-write-out-3 c = simp length-set (omega (arith, after_check c.before.before))

same_length : tie.Need-shape_of-out
same_length c = simp length-set (after_check c.before.before)

returns : tie.Need-returns
returns c =
    let at-check = c.before.before in
    let at-bytes = at-check.before.before.before.before in
    let at_address = at-bytes.before.before.before.before in
    let at_length = at_address.before.before.before.before in
    let s = behind-length at_length in
    let a = s.args in
    line_stored a.out.now a.address.now a.bytes.now a.check.now s.requires.3 s.requires.0 s.requires.1 _ _ _ _
    at_length.put_pair.ensures at_address.put_pairs.ensures at-bytes.put_pairs-2.ensures at-check.put_pairs-3.ensures

pub put_fields_spec : {M : Type 1} → statement M
put_fields_spec =
    tie.close
    (tie.spec
    (λ c. search rules)
    (λ c. search rules)
    (λ c. search rules)
    (λ c. search rules)
    (λ c. search rules)
    (λ c. search rules)
    put-pair-requires
    put-pairs-requires
    put-pairs-requires-2
    put-pairs-requires-3
    slice-write-out-2
    slice-write-out-3
    same_length
    returns)

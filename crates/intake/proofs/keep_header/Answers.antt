-- A record of another type leaves the header, and an S0 gives its data.
use mathlib.Core.Path.{◌≡◌, refl, sym, ap, ◌∙◌}
use Prim.Native.Nat.{ℕ, ◌-◌, ◌*◌}
use native.Mathlib.Omega.{arith}
use lib.ListN.{length, take}
use lib.Seq.{length-take-le}
use Rattle.placing.proofs.DataLaws.{digits_from}
use Rattle.headers.proofs.HeaderLaws.{S0Record, other_keeps}
use Rattle.intake.proofs.KeepLaws.{WasRead, was_read, s0_at, s0_count, s0_kept}
use Rattle.intake.proofs.keep_header.Goals.{After-byte_of}
use Rattle.intake.proofs.keep_header.Goals as goal

-- the record at hand
record_at : (c : After-byte_of) → WasRead c.args.chars.now
record_at c = was_read _ c.requires.1

-- it is an S0
s0 : (c : After-byte_of) → let w = record_at c in S0Record c.args.chars.now w.a w.ds
s0 c = s0_at _ (record_at c) c.if-chars-ne48.false

-- its count of data bytes
count_at : (c : After-byte_of) → c.byte_of.result - 3 ≡ length (record_at c).ds
count_at c = ap (λ (n : ℕ). n - 3) c.byte_of.ensures ∙ s0_count (s0 c)

-- the header has room for it
fits : (c : After-byte_of) → length (take (c.byte_of.result - 3) c.args.header.now) ≡ c.byte_of.result - 3
fits c = length-take-le _ _ (omega (arith, count_at c, (s0 c).short, c.requires.0))

pub bounds-chars-1 : goal.bounds-chars-1
bounds-chars-1 c = omega (arith, (was_read c.args.chars.now c.requires.1).long)

pub returns-then-chars-ne48 : goal.returns-then-chars-ne48
returns-then-chars-ne48 c = sym (other_keeps _ _ c.if-chars-ne48.true)

pub bounds-chars-2 : goal.bounds-chars-2
bounds-chars-2 c = omega (arith, (was_read c.args.chars.now c.requires.1).long)

pub bounds-chars-3 : goal.bounds-chars-3
bounds-chars-3 c = omega (arith, (was_read c.args.chars.now c.requires.1).long)

pub overflow_sub-count : goal.overflow_sub-count
overflow_sub-count c = let j = (goal.at.overflow_sub-count c).After-byte_of in omega (arith, j.byte_of.ensures ∙ (s0 j).fields.count_is)

pub store_data-requires-clause-digits_bound : goal.store_data-requires-clause-digits_bound
store_data-requires-clause-digits_bound c =
    let j = (goal.at.store_data-requires-clause-digits_bound c).After-byte_of in
    omega (arith, (s0 j).fields.long, count_at j, fits j)

pub store_data-requires-clause-chars_len_bound : goal.store_data-requires-clause-chars_len_bound
store_data-requires-clause-chars_len_bound c =
    let j = (goal.at.store_data-requires-clause-chars_len_bound c).After-byte_of in
    digits_from c.args.chars.now 2 6 8 (2 * length (take (c.byte_of.result - 3) c.args.header.now)) refl (s0 j).fields.digits

pub returns : goal.returns
returns c =
    let j = (goal.at.returns c).After-byte_of in
    s0_kept (s0 j) _ (count_at j) c.args.header.now _ _ _ (omega (arith, count_at j, (s0 j).short, c.requires.0)) c.store_data.ensures

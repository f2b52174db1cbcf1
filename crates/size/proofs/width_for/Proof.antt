-- `width_for` meets its contract: each test on the significant bits is the definition's test on a power of two.
use lib.Count.{leading_le}
use borrow.Author.Tests.{lt-ltb, le-ltb}
use Rattle.srec.specs.Canonical.{width_for}
use Rattle.size.proofs.LeadingLaws.{below, above}
use Rattle.size.proofs.width_for.Statement.{statement}
use Rattle.size.proofs.width_for.Tie as tie

sub-bits : tie.Need-overflow_sub-bits
sub-bits c = leading_le 32 c.args.largest

returns : tie.Need-returns-then-bits-le16
unfolding width_for
returns c = rw (lt-ltb _ _ (below 32 c.args.largest 16 c.ranges.largest.fits c.if-bits-le16.true))

returns-2 : tie.Need-returns-then-bits-le24
unfolding width_for
returns-2 c =
    let s = c.before.before in
    rw (
      le-ltb _ _ (above 32 s.args.largest 16 s.ranges.largest.fits c.if-bits-le16.false),
      lt-ltb _ _ (below 32 s.args.largest 24 s.ranges.largest.fits c.if-bits-le24.true),
    )

returns-3 : tie.Need-returns-else-bits-le24
unfolding width_for
returns-3 c =
    let s = c.before.before in
    rw (
      le-ltb _ _ (above 32 s.args.largest 16 s.ranges.largest.fits c.if-bits-le16.false),
      le-ltb _ _ (above 32 s.args.largest 24 s.ranges.largest.fits c.if-bits-le24.false),
    )

pub width_for_spec : {M : Type 1} → statement M
width_for_spec = tie.close (tie.spec sub-bits returns returns-2 returns-3)

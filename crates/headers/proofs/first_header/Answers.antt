-- The first record's header.
use mathlib.Core.Path.{sym, ap, ◌∙◌}
use Prim.Native.Nat.{zero-le}
use native.Mathlib.Omega.{arith}
use Rattle.window.specs.Headers.{header_of}
use Rattle.text.specs.Finds.{first_header}
use Rattle.text.proofs.FindLaws.{Next, next_is}
use Rattle.srec.specs.Lines.{is_end}
use Rattle.srec.specs.Formats.{srec}
use Rattle.headers.proofs.first_header.Goals as goal
use Rattle.headers.proofs.first_header.Goals.{In-Some}

-- where it stands
next_at : (c : In-Some) → let f = c.in-Some.field-0 in Next is_end c.args.text.now 0 f.from f.to
next_at c = next_is is_end _ _ _ _ zero-le c.in-Some.ensures

pub slice_bounds-header_in-end : goal.slice_bounds-header_in-end
slice_bounds-header_in-end c = omega (arith, (next_at (goal.at.slice_bounds-header_in-end c).In-Some).high)

pub returns-in-Some : goal.returns-in-Some
returns-in-Some c = c.header_in.ensures ∙ sym (ap (λ ls. header_of (first_header srec.part ls)) (next_at (goal.at.returns-in-Some c).In-Some).is)

-- A turn of the loop is one of PassLaws.
use mathlib.Core.Path.{refl, ◌∙◌}
use native.Mathlib.Omega.{arith}
use Rattle.text.proofs.FindLaws.{part, Next, next_is}
use Rattle.formats.specs.Choices.{format_of}
use Rattle.formats.proofs.ChoiceLaws.{lawful_of}
use Rattle.storing.proofs.PassLaws.{Turn, storing_start, storing_inside, storing_turn, storing_counted}
use Rattle.storing.proofs.store_all.Goals as goal
use Rattle.storing.proofs.store_all.Goals.{In-Some}

-- the line at hand
next_at : (c : In-Some) → let f = c.in-Some.field-0 in Next (format_of c.args.format).gap c.args.text.now c.loop-from.at f.from f.to
next_at c = next_is _ _ _ _ _ (storing_inside (format_of c.args.format) _ _ _ _ _ c.loop-from.invariant.1) c.in-Some.ensures

-- what it comes to
turn_at : (c : In-Some) → let a = c.args in let f = c.in-Some.field-0 in
    Turn (format_of a.format) _ (lawful_of a.format) a.text.now a.base a.memory.now c.requires c.loop-from.memory f.to ((format_of a.format).part (part a.text.now f.from f.to))
turn_at c = storing_turn _ _ (lawful_of c.args.format) _ _ _ c.requires _ _ _ _ c.loop-from.invariant.1 (next_at c)

pub loop-from-init : goal.loop-from-init
loop-from-init c = (refl, storing_start (format_of c.args.format) _ _ _)

pub next_counted-requires : goal.next_counted-requires
next_counted-requires c = (
  storing_inside (format_of c.args.format) _ _ _ _ _ c.loop-from.invariant.1,
  storing_counted c.args.format _ _ _ c.requires _ _ c.loop-from.invariant.1,
)

pub slice_bounds-place-end : goal.slice_bounds-place-end
slice_bounds-place-end c = omega (arith, (next_at (goal.at.slice_bounds-place-end c).In-Some).high)

pub place-requires : goal.place-requires
place-requires c = (turn_at (goal.at.place-requires c).In-Some).placeable

pub loop-from-smaller : goal.loop-from-smaller
loop-from-smaller c = let x = next_at (goal.at.loop-from-smaller c).In-Some in omega (arith, x.low, x.some_chars, x.high)

pub loop-from-preserved : goal.loop-from-preserved
loop-from-preserved c = (c.place.auto.memory ∙ c.loop-from.invariant.0, (turn_at (goal.at.loop-from-preserved c).In-Some).goes_on _ c.place.ensures)

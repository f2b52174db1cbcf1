-- The two characters of the byte stand in the line.
use mathlib.Core.Path.{◌∙◌}
use native.Mathlib.Omega.{arith}
use Rattle.data_byte.proofs.PlaceLaws.{data_at, start_least}
use Rattle.data_byte.proofs.byte_at.Goals as goal

pub start_of-requires : goal.start_of-requires
start_of-requires c = omega (arith, (data_at c.args.format c.args.chars.now c.args.index c.requires).inside, start_least c.args.format c.args.chars.now)

pub overflow_mul-at : goal.overflow_mul-at
overflow_mul-at c = record { fits = omega (arith, (data_at c.args.format c.args.chars.now c.args.index c.requires).inside) }

pub overflow_add-at : goal.overflow_add-at
overflow_add-at c = record { fits = omega (arith, (data_at c.args.format c.args.chars.now c.args.index c.requires).inside, c.start_of.ensures) }

pub bounds-chars-at : goal.bounds-chars-at
bounds-chars-at c = omega (arith, (data_at c.args.format c.args.chars.now c.args.index c.requires).inside, c.start_of.ensures)

pub overflow_add-at-2 : goal.overflow_add-at-2
overflow_add-at-2 c = record { fits = omega (arith, (data_at c.args.format c.args.chars.now c.args.index c.requires).inside, c.start_of.ensures) }

pub bounds-chars-at-2 : goal.bounds-chars-at-2
bounds-chars-at-2 c = omega (arith, (data_at c.args.format c.args.chars.now c.args.index c.requires).inside, c.start_of.ensures)

pub returns : goal.returns
returns c = c.byte_of.ensures ∙ rw c.start_of.ensures (data_at c.args.format c.args.chars.now c.args.index c.requires).is

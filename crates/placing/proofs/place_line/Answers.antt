-- The last line stores nothing, and another stores its data at its address less the base.
use native.Mathlib.Omega.{arith}
use Rattle.placing.proofs.LineLaws.{line_readable, long, none_left, data_digits, within, all_stored}
use Rattle.placing.proofs.place_line.Goals as goal

pub bounds-chars-1 : goal.bounds-chars-1
bounds-chars-1 c = omega (arith, (line_readable _ _ _ c.requires).long)

pub bounds-chars-2 : goal.bounds-chars-2
bounds-chars-2 c = omega (arith, (line_readable _ _ _ c.requires).long)

pub returns-then-count-eq0 : goal.returns-then-count-eq0
returns-then-count-eq0 c = let a = c.args in none_left a.chars.now a.memory.now a.base _ c.requires c.byte_of-count.ensures c.if-count-eq0.true

pub slice_bounds-number_of-end : goal.slice_bounds-number_of-end
slice_bounds-number_of-end c = omega (arith, (line_readable _ _ _ c.requires).long)

pub overflow_sub-address : goal.overflow_sub-address
overflow_sub-address c =
    let a = c.args in
    (within a.chars.now a.memory.now a.base _ c.requires c.byte_of-count.ensures c.if-count-eq0.false _ c.number_of-address.ensures).0

pub place_data-requires : goal.place_data-requires
place_data-requires c =
    let a = c.args in
    record {
      digits_bound = (
        omega (arith, long a.chars.now a.memory.now a.base _ c.requires c.byte_of-count.ensures),
        (within a.chars.now a.memory.now a.base _ c.requires c.byte_of-count.ensures c.if-count-eq0.false _ c.number_of-address.ensures).1,
      );
      chars_len_bound = data_digits a.chars.now a.memory.now a.base _ c.requires c.byte_of-count.ensures;
    }

pub returns : goal.returns
returns c =
    let a = c.args in
    all_stored a.chars.now a.memory.now a.base _ c.requires c.byte_of-count.ensures c.if-count-eq0.false _ c.number_of-address.ensures _
    c.place_data.ensures

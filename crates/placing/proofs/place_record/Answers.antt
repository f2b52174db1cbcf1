-- A record without data stores nothing, and another stores its data at its address less the base.
use mathlib.Core.Path.{sym, subst}
use native.Mathlib.Omega.{arith}
use lib.ListN.{length}
use Rattle.placing.proofs.StoreLaws.{readable, DataRecord, data_record, long, least, none_left, data_digits, within, all_stored}
use Rattle.placing.proofs.place_record.Goals as goal
use Rattle.placing.proofs.place_record.Goals.{After-data_width-width}

-- the data record at hand
data-at : (c : After-data_width-width) → DataRecord c.args.chars.now c.args.base (length c.args.memory.now) c.data_width-width.result
data-at c =
    subst (DataRecord c.args.chars.now c.args.base (length c.args.memory.now)) (sym c.data_width-width.ensures)
    (data_record _ _ _ (readable _ _ _ c.requires) (omega arith) (omega arith))

pub bounds-chars-1 : goal.bounds-chars-1
bounds-chars-1 c = omega (arith, (readable _ _ _ c.requires).fields.long)

pub bounds-chars-2 : goal.bounds-chars-2
bounds-chars-2 c = omega (arith, (data-at (goal.at.bounds-chars-2 c).After-data_width-width).fields.long)

pub bounds-chars-3 : goal.bounds-chars-3
bounds-chars-3 c = omega (arith, (data-at (goal.at.bounds-chars-3 c).After-data_width-width).fields.long)

pub overflow_sub-count : goal.overflow_sub-count
overflow_sub-count c = least c.args.memory.now (data-at (goal.at.overflow_sub-count c).After-data_width-width) c.byte_of.ensures

pub returns-then-count-eq0 : goal.returns-then-count-eq0
returns-then-count-eq0 c = none_left c.args.memory.now (data-at (goal.at.returns-then-count-eq0 c).After-data_width-width) c.byte_of.ensures c.if-count-eq0.true

pub slice_bounds-number_of-end : goal.slice_bounds-number_of-end
slice_bounds-number_of-end c = omega (arith, (data-at (goal.at.slice_bounds-number_of-end c).After-data_width-width).fields.long)

pub overflow_sub-address : goal.overflow_sub-address
overflow_sub-address c =
    (within c.args.memory.now (data-at (goal.at.overflow_sub-address c).After-data_width-width) c.byte_of.ensures _ c.number_of-address.ensures c.if-count-eq0.false).0

pub place_data-requires : goal.place_data-requires
place_data-requires c =
    let d = data-at (goal.at.place_data-requires c).After-data_width-width in
    let m = c.args.memory.now in
    record {
      digits_bound = (omega (arith, long m d c.byte_of.ensures, least m d c.byte_of.ensures), (within m d c.byte_of.ensures _ c.number_of-address.ensures c.if-count-eq0.false).1);
      chars_len_bound = data_digits m d c.byte_of.ensures;
    }

pub returns : goal.returns
returns c =
    all_stored c.args.memory.now (data-at (goal.at.returns c).After-data_width-width) c.byte_of.ensures _ c.number_of-address.ensures _ c.place_data.ensures

-- The state of a load in parts as C keeps it: what its numbers stand for.
use Rattle.std.specs.Prelude.{not, eqb}
use Rattle.window.specs.Plans.{refusal_with, is_present, address_of}
use Rattle.marks.specs.declared.Form.TheVariants.{Bytes}
use Rattle.session.specs.declared.Session.{Session}
use Rattle.c_answers.specs.Answers.{flag_of, entry_for}
use Rattle.parts_c.specs.declared.Parts.{Parts}

-- the state that any numbers stand for, with a mark byte a cell
unfoldable pub session_of : Parts → Session
session_of p =
    record {
      form = Bytes;
      refusal = refusal_with p.reason p.ordinal p.place p.want;
      size = p.size;
      total = p.total;
      place = p.begins;
      tally =
          record {
            state = record { number = p.number; records = p.records; cells = p.cells };
            head = p.head;
            ended = not (eqb p.ended 0);
            entry = entry_for p.present p.entry;
          };
      header = p.header;
      held = p.held;
      line = p.line;
    }

-- the numbers of a state
unfoldable pub parts_of : Session → Parts
parts_of s =
    record {
      reason = s.refusal.reason;
      want = s.refusal.want;
      ended = flag_of s.tally.ended;
      present = flag_of (is_present s.tally.entry);
      entry = address_of s.tally.entry;
      ordinal = s.refusal.ordinal;
      place = s.refusal.place;
      size = s.size;
      total = s.total;
      begins = s.place;
      number = s.tally.state.number;
      records = s.tally.state.records;
      cells = s.tally.state.cells;
      head = s.tally.head;
      held = s.held;
      header = s.header;
      line = s.line;
    }

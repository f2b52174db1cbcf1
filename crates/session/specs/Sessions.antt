-- What a state shows of a load in parts. The bytes that it does not show are free.
use Rattle.std.specs.Prelude.{ℕ, min, cond, map, eqb, take}
use Rattle.srec.specs.Lines.{is_end}
use Rattle.parts.specs.Parts.{Going, Status}
use Rattle.parts.specs.Parts.Status.{going, halted}
use Rattle.tally.specs.Tallies.{known_of}
use Rattle.session.specs.declared.Session.{Session}

-- a held character: no call adds a line end to them, and where one stands among them it counts as NUL
abbrev pub visible : ℕ → ℕ
visible c = cond (is_end c) 0 c

-- the load that goes on
abbrev pub going_of : Session → Going
going_of s =
    record {
      size = s.size;
      total = s.total;
      known = known_of s.tally s.header;
      place = s.place;
      held = map visible (take (min s.held 515) s.line);
    }

-- a reason other than 0 is a refusal, and then nothing else is shown
abbrev pub status_of : Session → Status
status_of s = cond (eqb s.refusal.reason 0) (going (going_of s)) (halted s.refusal)

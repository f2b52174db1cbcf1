-- What C is told, in numbers, and what the numbers that it tells stand for.
use Rattle.std.specs.Prelude.{ℕ, Bool, cond, eqb}
use Rattle.window.specs.Entries.{Entry}
use Rattle.std.specs.Prelude.{None, Some}
use Rattle.window.specs.declared.Header.{Header}
use Rattle.window.specs.declared.Loaded.{Loaded}
use Rattle.window.specs.declared.Refusal.{Refusal}
use Rattle.window.specs.declared.Written.{Written}
use Rattle.window.specs.Plans.{is_present, address_of}
use Rattle.tape.specs.declared.Edition.TheVariants.{Repeat, Sum}
use Rattle.formats.specs.declared.Format.{Format}
use Rattle.formats.specs.declared.Format.TheVariants.{Records, Tape}
use Rattle.spans.specs.declared.Span.{Span}
use Rattle.c_answers.specs.declared.Answer.{Answer}
use Rattle.c_answers.specs.declared.Reach.{Reach}
use Rattle.c_answers.specs.declared.Result.{Result}

-- 1 for yes, 0 for no
abbrev pub flag_of : Bool → ℕ
flag_of b = cond b 1 0

-- the answer of a load: every number of it
unfoldable pub answer_of : Loaded → Answer
answer_of l =
    record {
      reason = l.refusal.reason;
      want = l.refusal.want;
      ordinal = l.refusal.ordinal;
      place = l.refusal.place;
      records = l.records;
      cells = l.cells;
      present = flag_of (is_present l.entry);
      entry = address_of l.entry;
      length = l.header.len;
      header = l.header.bytes;
    }

-- the answer of a merge, a deal and a collect, which count nothing
abbrev pub bare_of : Refusal → Header → Entry → Loaded
bare_of refusal header entry = record { refusal = refusal; header = header; entry = entry; records = 0; cells = 0 }

-- the answer of a write; its record number and its byte are always 0
unfoldable pub result_of : Written → Result
result_of w = record { reason = w.refusal.reason; place = w.refusal.place; length = w.length }

-- every number of a span
unfoldable pub reach_of : Span → Reach
reach_of s = record { any = flag_of s.any; lowest = s.lowest; highest = s.highest }

-- 0 for no entry, any other number for the address
unfoldable pub entry_for : ℕ → ℕ → Entry
entry_for present address = cond (eqb present 0) None (Some address)

-- 0 for tapes that repeat the number and 1 for those that sum, as editions are numbered; any other number for S-records
unfoldable pub format_for : ℕ → Format
format_for number = cond (eqb number 0) (Tape Repeat) (cond (eqb number 1) (Tape Sum) Records)

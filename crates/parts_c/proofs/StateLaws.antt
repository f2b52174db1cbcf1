-- A state as C keeps it stands for the state that it was made of, so the calls on it are those of the library.
use mathlib.Core.Path.{◌≡◌, refl, sym, ap, ◌∙◌}
use mathlib.Core.Bool.{Bool, true, false, not}
use lib.Dec.{eqb}
use Rattle.window.specs.Entries.{Entry}
use Rattle.std.specs.Prelude.{None, Some}
use Rattle.window.specs.Plans.{is_present, address_of}
use Rattle.marks.specs.declared.Form.{Form}
use Rattle.marks.specs.declared.Form.TheVariants.{Bytes}
use Rattle.parts.specs.Parts.{Status, Stage}
use Rattle.session.specs.declared.Session.{Session}
use Rattle.session.specs.Sessions.{status_of}
use Rattle.c_answers.specs.Answers.{flag_of, entry_for}
use Rattle.parts_c.specs.declared.Parts.{Parts}
use Rattle.parts_c.specs.States.{session_of, parts_of}

yes_back : (b : Bool) → not (eqb (flag_of b) 0) ≡ b
yes_back true = refl
yes_back false = refl

entry_back : (e : Entry) → entry_for (flag_of (is_present e)) (address_of e) ≡ e
unfolding entry_for
entry_back None = refl
entry_back (Some a) = refl

-- the numbers of a state stand for it
pub back : (s : Session) → s.form ≡ Bytes → session_of (parts_of s) ≡ s
unfolding session_of parts_of
back s f =
    λ i.
    record {
      form = sym f i;
      refusal = s.refusal;
      size = s.size;
      total = s.total;
      place = s.place;
      tally = record { state = s.tally.state; head = s.tally.head; ended = yes_back s.tally.ended i; entry = entry_back s.tally.entry i };
      header = s.header;
      held = s.held;
      line = s.line;
    }

-- so they show what it shows
pub shown : (s : Session) → s.form ≡ Bytes → (p : Parts) → p ≡ parts_of s → status_of (session_of p) ≡ status_of s
shown s f p q = ap (λ (x : Parts). status_of (session_of x)) q ∙ ap status_of (back s f)

-- ---- a call on the state that the numbers stand for

module _ (p : Parts) (s : Session) (q : s ≡ session_of p) where
  -- its marks are bytes
  pub in_bytes : s.form ≡ Bytes
  unfolding session_of
  in_bytes = ap (λ (x : Session). x.form) q

  -- what a call leaves
  pub left : (call : Form → Status → Stage) → call s.form (status_of s) ≡ call Bytes (status_of (session_of p))
  left call = λ i. call (in_bytes i) (status_of (q i))

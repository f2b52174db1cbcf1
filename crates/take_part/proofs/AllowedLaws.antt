-- A call that row 1 does not refuse: what is known of it.
use mathlib.Core.Path.{◌≡◌, sym, ◌∙◌}
use Prim.Native.Nat.{ℕ, ◌≤◌}
use native.Mathlib.Omega.{arith}
use mathlib.Core.Bool.{false}
use mathlib.Core.List.{List}
use lib.ListN.{length, length-map, length-take}
use Rattle.window.specs.Windows.{window_of}
use Rattle.parts.specs.Parts.{row1_later}
use Rattle.parts.proofs.SoundLaws.{Sound, allowed_sound}
use Rattle.session.specs.declared.Session.{Session}
use Rattle.session.specs.Sessions.{going_of}
use Rattle.part_lines.specs.Rests.{Few}

-- no more than 515 characters are shown
pub held_short : (s : Session) → length (going_of s).held ≤ 515
held_short s = rw (length-map, length-take) (omega arith)

-- a state and the window that is lent
pub record Allowed : Type 0 where
  pub session : Session
  pub base : ℕ
  pub memory : List ℕ
  pub marks : List ℕ
  pub allowed : row1_later (window_of base memory marks) (going_of session) ≡ false

module _ (p : Allowed) where
  pub call_sound : Sound p.base (going_of p.session) p.memory p.marks 0
  call_sound = allowed_sound p.base (going_of p.session) p.memory p.marks p.allowed

  pub same_length : length p.memory ≡ length p.marks
  same_length = call_sound.memory_long ∙ sym call_sound.marks_long

  -- the numbers are small where the record that is not complete begins
  pub few_now : Few p.session.tally.state p.session.place 516
  few_now =
      let o = call_sound in
      (o.number, o.records, o.cells, omega (arith, o.begins, o.few))

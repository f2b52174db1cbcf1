-- A part that is read, behind rows 1 and 20: what is known of it, and one law for each answer of `take_fresh` and `take_cut`.
use mathlib.Core.Path.{◌≡◌, refl, sym, ap, ◌∙◌, subst}
use Prim.Native.Nat.{ℕ, suc, ◌+◌, ◌-◌, ◌≤◌, ◌<◌}
use native.Mathlib.Nat.{add-zero}
use native.Mathlib.Omega.{arith}
use mathlib.Core.Bool.{false}
use mathlib.Core.List.{List, [], ◌∷◌, ◌++◌}
use lib.ListN.{length, take, drop, length-append, length-take}
use Rattle.std.specs.Prelude.{Result, Ok, Err}
use Rattle.window.specs.declared.Refusal.{Refusal}
use Rattle.window.specs.Plans.{refusal}
use Rattle.marks.specs.declared.Form.{Form}
use Rattle.marks.specs.Forms.{flags, mark_bytes}
use Rattle.text.specs.Lines.{front}
use Rattle.text.proofs.FindLaws.{front_take}
use Rattle.srec.specs.Lines.{is_end}
use Rattle.parts.specs.Parts.{Going, Status, Stage, stage, stopped, Turn, line_turn, fed, most, row20}
use Rattle.parts.specs.Parts.Status.{going}
use Rattle.parts.specs.Parts.Turn.{halt, next}
use Rattle.parts.specs.Forms.{in_form}
use Rattle.parts.specs.Stretches.{fresh, kept_all}
use Rattle.parts.proofs.GrowthLaws.{TurnKeeps}
use Rattle.parts.proofs.SoundLaws.{Sound, roomy}
use Rattle.parts.proofs.StretchLaws.{fed_stretch}
use Rattle.tally.specs.declared.Tally.{Tally}
use Rattle.tally.specs.Tallies.{known_of}
use Rattle.session.specs.declared.Session.{Session}
use Rattle.session.specs.Sessions.{going_of, status_of}
use Rattle.session.proofs.SessionLaws.{shows_going, clear_marks}
use Rattle.part_lines.specs.declared.Rest.{Rest}
use Rattle.part_lines.specs.Rests.{Few, behind, TidyRest}
use Rattle.part_lines.proofs.FreeLaws.{front_free}
use Rattle.part_lines.proofs.TurnLaws.{line_held, turn_of, turn_halts, turn_goes, turn_keeps}
use Rattle.take_part.proofs.AllowedLaws.{held_short, Allowed, call_sound, same_length}

-- a stage that is known, part by part
pub shows : {x y : Stage} {status : Status} {memory marks : List ℕ} → x ≡ y → status ≡ y.status → memory ≡ y.memory → marks ≡ y.marks
    → (status ≡ x.status) × ((memory ≡ x.memory) × (marks ≡ x.marks))
shows e a m k =
    (a ∙ sym (ap (λ (w : Stage). w.status) e), (m ∙ sym (ap (λ (w : Stage). w.memory) e), k ∙ sym (ap (λ (w : Stage). w.marks) e)))

-- what is known of it
pub record Reading : Type 0 where
  pub call : Allowed
  pub part : List ℕ
  pub fits : row20 (going_of call.session) part ≡ false

module _ (p : Reading) where
  abbrev s : Session
  s = p.call.session

  abbrev base : ℕ
  base = p.call.base

  abbrev memory : List ℕ
  memory = p.call.memory

  abbrev marks : List ℕ
  marks = p.call.marks

  abbrev part : List ℕ
  part = p.part

  abbrev g : Going
  g = going_of s

  abbrev pub read : Stage
  read = fed base (stage (going g) memory marks) part

  short : length g.held ≤ 515
  short = held_short s

  sound : Sound base g memory marks (length part + 0)
  sound = roomy base g memory marks part (call_sound p.call) p.fits

  pub total_few : s.total + length part ≤ most
  total_few = omega (arith, sound.few)

  -- no line ends in it
  pub read_kept : length (front is_end part) ≡ length part → (r : Session) → r.refusal.reason ≡ 0 → going_of r ≡ kept_all g part
      → read ≡ stage (status_of r) memory marks
  read_kept e r z q =
      fed_stretch base memory marks part g short e ∙ ap (λ (x : Status). stage x memory marks) (sym (shows_going r z ∙ ap going q))

  -- nothing is held: its lines begin with it
  module _ (none : s.place ≡ s.total) where
    pub few_all : Few s.tally.state (s.total + 0) (length part - 0)
    few_all =
        let o = sound in (
          omega (arith, o.number, o.begins),
          omega (arith, o.records, o.begins),
          omega (arith, o.cells, o.begins),
          omega (arith, o.few),
        )

    fresh_now : g ≡ fresh (length memory) (s.total + 0) (known_of s.tally s.header)
    fresh_now =
        let o = sound in
        let z : length g.held ≡ 0 = omega (arith, o.begins) in
        λ i. record {
          size = sym o.memory_long i;
          total = sym (add-zero s.total) i;
          known = g.known;
          place = (none ∙ sym (add-zero s.total)) i;
          held = empty g.held z i;
        }
      where
        empty : (l : List ℕ) → length l ≡ 0 → l ≡ []
        empty [] e = refl
        empty (x ∷ l) e = absurd (omega arith)

    pub all_goes : (r : Result Rest Refusal) (header' memory' marks' : List ℕ)
        → fed base (stage (going (fresh (length memory) (s.total + 0) (known_of s.tally s.header))) memory marks) part
        ≡ behind (length memory) s.total header' part r memory' marks'
        → read ≡ behind s.size s.total header' part r memory' marks'
    all_goes r header' memory' marks' q =
        ap (λ (x : Going). fed base (stage (going x) memory marks) part) fresh_now ∙ q
        ∙ ap (λ (n : ℕ). behind n s.total header' part r memory' marks') sound.memory_long

  -- a line ends in it
  module _ (first : ℕ) (first_is : first ≡ length (front is_end part)) (ends : first < length part) where
    -- the characters before the first line end
    abbrev chars : List ℕ
    chars = take first part

    chars_are : front is_end part ≡ chars
    chars_are = front_take is_end part ∙ ap (λ (j : ℕ). take j part) (sym first_is)

    ends_in : length (front is_end part) < length part
    ends_in = omega (arith, first_is)

    -- the turn of that line
    abbrev turn : Turn
    turn = line_turn base s.place (take 515 (g.held ++ chars)) memory marks (known_of s.tally s.header)

    turn_is : turn_of base memory marks g short part ends_in ≡ turn
    turn_is = ap (λ (x : List ℕ). line_turn base s.place (take 515 (g.held ++ x)) memory marks g.known) chars_are

    -- none of them ends a line
    pub chars_free : front is_end chars ≡ chars
    chars_free = subst (λ (x : List ℕ). front is_end x ≡ x) chars_are (front_free part)

    -- it is refused, for a reason
    module _ (f : Refusal) (h : turn ≡ halt f) where
      pub first_halts : read ≡ stopped f memory marks
      first_halts = turn_halts base memory marks g short part ends_in f (turn_is ∙ h)

      pub first_reason : 0 < f.reason
      first_reason = turn_keeps base memory marks g short part ends_in (same_length p.call) (halt f) (turn_is ∙ h)

    -- it is taken
    module _ (y : Tally) (header' memory' marks' : List ℕ) (h : turn ≡ next (known_of y header') memory' marks') where
      keeps : TurnKeeps (length (line_held base memory marks g short part ends_in)) g.known memory marks (next (known_of y header') memory' marks')
      keeps = turn_keeps base memory marks g short part ends_in (same_length p.call) (next (known_of y header') memory' marks') (turn_is ∙ h)

      -- its numbers are small
      pub next_few : Few y.state (s.total + (first + 1)) (length part - (first + 1))
      next_few =
          let o = sound in
          let l : length (line_held base memory marks g short part ends_in) ≤ length g.held + first = rw (length-take, length-append) (omega (arith, first_is)) in (
            omega (arith, keeps.number, o.number, o.begins, l),
            omega (arith, keeps.records, o.records, o.begins, l),
            omega (arith, keeps.cells, o.cells, o.begins, l),
            omega (arith, o.few),
          )

      -- the lines behind it, and what stands behind those
      pub first_goes : (r : Result Rest Refusal) (header'' memory'' marks'' : List ℕ)
          → fed base (stage (going (fresh (length memory') (s.total + (first + 1)) (known_of y header'))) memory' marks') (drop (first + 1) part)
          ≡ behind (length memory') s.total header'' part r memory'' marks''
          → read ≡ behind s.size s.total header'' part r memory'' marks''
      first_goes r header'' memory'' marks'' q =
          let size : length memory' ≡ s.size = keeps.memory_long ∙ sound.memory_long in
          let e : suc (length (front is_end part)) ≡ first + 1 = omega (arith, first_is) in
          turn_goes base memory marks g short part ends_in (known_of y header') memory' marks' (turn_is ∙ h) (s.total + (first + 1)) (omega (arith, first_is))
          ∙ (λ i. fed base (stage (going (fresh (sym size i) (s.total + (first + 1)) (known_of y header'))) memory' marks') (drop (e i) part))
          ∙ q ∙ ap (λ (n : ℕ). behind n s.total header'' part r memory'' marks'') size

-- the stage behind the lines, as `settle` shows it
pub settled : (form : Form) (n : ℕ) (w : Stage) (size total : ℕ) (header part : List ℕ) (r : Result Rest Refusal) (memory marks : List ℕ)
    → w ≡ behind size total header part r memory (flags form n marks) → length marks ≡ mark_bytes form n → TidyRest form n r marks
    → (x : Status) (marks' : List ℕ) → x ≡ (behind size total header part r [] marks).status → marks' ≡ (behind size total header part r [] marks).marks
    → (x ≡ (in_form form w).status) × ((memory ≡ (in_form form w).memory) × (marks' ≡ (in_form form w).marks))
settled form n w size total header part r memory marks e l t x marks' a k = go r e t a k
  where
    go : (r : Result Rest Refusal) → w ≡ behind size total header part r memory (flags form n marks) → TidyRest form n r marks
        → x ≡ (behind size total header part r [] marks).status → marks' ≡ (behind size total header part r [] marks).marks
        → (x ≡ (in_form form w).status) × ((memory ≡ (in_form form w).memory) × (marks' ≡ (in_form form w).marks))
    go (Err f) e t a k = shows (ap (in_form form) e) a refl (k ∙ sym (clear_marks form n marks l))
    go (Ok y) e t a k = shows (ap (in_form form) e) a refl (k ∙ t.1)

-- The lines of a part one after the other: one law for each way out of the loop of `take_lines`, and one for the way round.
use mathlib.Core.Path.{◌≡◌, sym, ap, ◌∙◌, subst}
use Prim.Native.Nat.{ℕ, suc, ◌+◌, ◌-◌, ◌^◌, ◌≤◌, ◌<◌}
use native.Mathlib.Omega.{arith}
use mathlib.Core.List.{List, []}
use lib.Dec.{ltb}
use lib.ListN.{length, take, drop, length-drop, length-take}
use lib.Seq.{drop-drop}
use borrow.Author.Tests.{ltb-true, ltb-false}
use Rattle.std.specs.Prelude.{None}
use Rattle.lists.proofs.TestLaws.{by_test}
use Rattle.window.specs.declared.Refusal.{Refusal}
use Rattle.text.specs.declared.State.{State}
use Rattle.text.specs.declared.Step.{Step}
use Rattle.text.specs.Lines.{front}
use Rattle.text.specs.Finds.{leading}
use Rattle.text.specs.Steps.{state_with, as_step}
use Rattle.text.proofs.FindLaws.{part, front_take, shorter, some_char}
use Rattle.text.proofs.StepLaws.{takes, takes_same}
use Rattle.srec.specs.Lines.{is_end}
use Rattle.srec.specs.Formats.{srec}
use Rattle.parts.specs.Parts.{Going, Stage, stage, stopped, record_turn, line_turn, fed}
use Rattle.parts.specs.Parts.Status.{going}
use Rattle.parts.specs.Parts.Turn.{halt, next}
use Rattle.parts.specs.Stretches.{fresh, kept_all}
use Rattle.parts.proofs.StretchLaws.{fed_ends, fed_stretch, line_first}
use Rattle.tally.specs.declared.Tally.{Tally}
use Rattle.tally.specs.Tallies.{state_of, entry_of, known_of}
use Rattle.part_next.specs.Takes.{begin_of, end_of, step_in, next_in, Roomy}
use Rattle.intake.proofs.RecordLaws.{some_line}
use Rattle.part_lines.specs.Rests.{Few}
use Rattle.part_lines.proofs.FreeLaws.{all_free}
use Rattle.part_lines.proofs.TurnLaws.{line_held, turn_of, turn_halts, turn_goes, turn_keeps}

-- ---- what `take_next` says

module _ (total : ℕ) (n : State) (text : List ℕ) (at : ℕ) where
  -- no line that ends in the part is left
  pub none_next : None ≡ next_in total n text at → length text ≤ end_of text (begin_of text at)
  none_next q =
      by_test (ltb (end_of text (begin_of text at)) (length text))
      (λ t. absurd (never (rw t at q))) (λ t. ltb-false (end_of text (begin_of text at)) (length text) t)
    where
      never : {from to : ℕ} {step : Step} → None ≡ takes from to step → ⊥
      never e = let z : ◌≡◌ {A = ℕ} 0 1 = cc in omega arith

  -- the next line, where it stands, and its step
  pub record IsNext (from to : ℕ) (step : Step) : Type 0 where
    pub begins : from ≡ begin_of text at
    pub ends : to ≡ end_of text from
    pub inside : to < length text
    pub step_is : step ≡ as_step (total + from) (state_with [] n) (srec.step (state_with [] n) (part text from to))

  pub line_next : (from to : ℕ) (step : Step) → takes from to step ≡ next_in total n text at → IsNext from to step
  line_next from to step q =
      by_test (ltb (end_of text (begin_of text at)) (length text))
      (λ t. found (ltb-true (end_of text (begin_of text at)) (length text) t) (rw t at q)) (λ t. absurd (never (rw t at q)))
    where
      never : takes from to step ≡ None → ⊥
      never e = let z : ◌≡◌ {A = ℕ} 0 1 = cc in omega arith

      found : end_of text (begin_of text at) < length text
          → takes from to step ≡ step_in total n text (begin_of text at) (end_of text (begin_of text at)) → IsNext from to step
      found h e =
          let first : ℕ = begin_of text at in
          let same = takes_same from to first (end_of text first) step
          (as_step (total + first) (state_with [] n) (srec.step (state_with [] n) (part text first (end_of text first)))) e in
          let f : from ≡ first = same.0 in
          let l : to ≡ end_of text first = same.1 in
          record {
            begins = f;
            ends = l ∙ ap (end_of text) (sym f);
            inside = omega (arith, l);
            step_is = same.2 ∙ (λ i. as_step (total + sym f i) (state_with [] n) (srec.step (state_with [] n) (part text (sym f i) (sym l i))));
          }

-- ---- the loop

-- what is left of the part comes to what all of it comes to
pub record Taking (base size total : ℕ) (text : List ℕ) (w : Stage) (memory marks : List ℕ) (t : Tally) (header : List ℕ) (at : ℕ) : Type 0 where
  pub inside : at ≤ length text
  pub memory_long : length memory ≡ size
  pub marks_long : length marks ≡ size
  pub header_long : length header ≡ 252
  pub few : Few t.state (total + at) (length text - at)
  pub left : fed base (stage (going (fresh size (total + at) (known_of t header))) memory marks) (drop at text) ≡ w

module _ {base size total : ℕ} {text : List ℕ} {w : Stage} {memory marks : List ℕ} {t : Tally} {header : List ℕ} {at : ℕ}
    (x : Taking base size total text w memory marks t header at) where
  -- the load where the next line begins
  abbrev here : ℕ → Going
  here from = fresh size (total + from) (known_of t header)

  -- line ends before it are passed
  to_begin : (from : ℕ) → from ≡ begin_of text at → w ≡ fed base (stage (going (here from)) memory marks) (drop from text)
  to_begin from b =
      let n : ℕ = leading is_end (drop at text) in
      let e : total + at + n ≡ total + from = omega (arith, b) in
      sym x.left ∙ fed_ends base memory marks (drop at text) size (total + at) (known_of t header)
      ∙ (λ i. fed base (stage (going (fresh size (e i) (known_of t header))) memory marks) ((drop-drop n at text ∙ ap (λ (j : ℕ). drop j text) (sym b)) i))

  -- no line that ends in the part is left
  open_long : None ≡ next_in total t.state text at → (from : ℕ) → from ≡ begin_of text at
      → length (front is_end (drop from text)) ≡ length (drop from text)
  open_long q from b =
      let l : length text ≤ end_of text from = subst (λ (j : ℕ). length text ≤ end_of text j) (sym b) (none_next total t.state text at q) in
      omega (arith, shorter is_end (drop from text), length-drop from text)

  -- the characters behind the last line end are kept
  pub left_open : None ≡ next_in total t.state text at → (from : ℕ) → from ≡ begin_of text at
      → w ≡ stage (going (kept_all (here from) (drop from text))) memory marks
  left_open q from b = to_begin from b ∙ fed_stretch base memory marks (drop from text) (here from) (omega arith) (open_long q from b)

  -- none of them ends a line
  pub open_free : None ≡ next_in total t.state text at → (from : ℕ) → from ≡ begin_of text at → front is_end (drop from text) ≡ drop from text
  open_free q from b = all_free (drop from text) (open_long q from b)

  -- a line that ends in the part
  module _ {from to : ℕ} {step : Step} (n : IsNext total t.state text at from to step) where
    abbrev xs : List ℕ
    xs = drop from text

    -- its characters
    long : length (front is_end xs) ≡ to - from
    long = omega (arith, n.ends)

    ends : length (front is_end xs) < length xs
    ends = omega (arith, long, n.ends, n.inside, length-drop from text)

    chars_are : front is_end xs ≡ part text from to
    chars_are = front_take is_end xs ∙ ap (λ (j : ℕ). take j xs) long

    some_chars : length (part text from to) ≡ 0 → ⊥
    some_chars z =
        let c : 0 < length (front is_end (drop (begin_of text at) text)) = some_char is_end text at (omega (arith, n.begins, n.ends, n.inside)) in
        let d : 0 < length (front is_end xs) = subst (λ (j : ℕ). 0 < length (front is_end (drop j text))) (sym n.begins) c in
        omega (arith, ap length chars_are)

    -- the turn that the definitions take is that of the record as it stands
    turn_is : turn_of base memory marks (here from) (omega arith) xs ends
        ≡ record_turn base (total + from) (part text from to) memory marks (state_of t header) (entry_of t)
    turn_is =
        line_first base memory marks (total + from) (front is_end xs) (known_of t header)
        ∙ ap (λ (c : List ℕ). line_turn base (total + from) c memory marks (known_of t header)) chars_are
        ∙ some_line base (total + from) memory marks (known_of t header) (part text from to) some_chars

    -- it is refused, for a reason
    module _ (f : Refusal) (h : record_turn base (total + from) (part text from to) memory marks (state_of t header) (entry_of t) ≡ halt f) where
      pub line_halts : w ≡ stopped f memory marks
      line_halts = to_begin from n.begins ∙ turn_halts base memory marks (here from) (omega arith) xs ends f (turn_is ∙ h)

      pub line_reason : 0 < f.reason
      line_reason =
          turn_keeps base memory marks (here from) (omega arith) xs ends (x.memory_long ∙ sym x.marks_long) (halt f) (turn_is ∙ h)

    -- it is taken
    pub line_goes : (y : Tally) (header' memory' marks' : List ℕ)
        → record_turn base (total + from) (part text from to) memory marks (state_of t header) (entry_of t) ≡ next (known_of y header') memory' marks'
        → length header' ≡ 252 → Taking base size total text w memory' marks' y header' (to + 1)
    line_goes y header' memory' marks' h l =
        let k = turn_keeps base memory marks (here from) (omega arith) xs ends (x.memory_long ∙ sym x.marks_long)
        (next (known_of y header') memory' marks') (turn_is ∙ h) in
        let held : length (line_held base memory marks (here from) (omega arith) xs ends) ≤ to - from = rw length-take (omega (arith, long)) in
        let j : from + suc (length (front is_end xs)) ≡ to + 1 = omega (arith, n.ends) in
        let d : drop (suc (length (front is_end xs))) xs ≡ drop (to + 1) text
        = drop-drop (suc (length (front is_end xs))) from text ∙ ap (λ (i : ℕ). drop i text) j in
        record {
          inside = omega (arith, n.inside);
          memory_long = k.memory_long ∙ x.memory_long;
          marks_long = k.marks_long ∙ x.marks_long;
          header_long = l;
          few = (
            omega (arith, k.number, held, x.few.0, n.begins, n.ends),
            omega (arith, k.records, held, x.few.1, n.begins, n.ends),
            omega (arith, k.cells, held, x.few.2, n.begins, n.ends),
            omega (arith, x.few.3, x.inside, n.inside),
          );
          left = sym (to_begin from n.begins
              ∙ turn_goes base memory marks (here from) (omega arith) xs ends (known_of y header') memory' marks' (turn_is ∙ h) (total + (to + 1)) (omega (arith, long, n.ends))
              ∙ ap (fed base (stage (going (fresh size (total + (to + 1)) (known_of y header'))) memory' marks')) d);
        }

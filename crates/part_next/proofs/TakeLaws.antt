-- A line that a fast way is sure of is the next line of a part.
use mathlib.Core.Path.{◌≡◌, refl, ap, ◌∙◌, subst}
use Prim.Native.Nat.{ℕ, ◌+◌, ◌-◌, ◌≤◌, ◌<◌}
use native.Mathlib.Omega.{arith}
use mathlib.Core.List.{List, []}
use lib.ListN.{length, drop, length-drop}
use lib.Seq.{drop-drop}
use borrow.Author.Tests.{lt-ltb}
use Rattle.std.specs.Prelude.{Option, Some}
use Rattle.text.specs.Lines.{front}
use Rattle.text.specs.declared.State.{State}
use Rattle.text.specs.declared.Step.{Step}
use Rattle.text.specs.Steps.{state_with, as_step, SureIs}
use Rattle.text.proofs.LineLaws.{front_all}
use Rattle.text.proofs.FindLaws.{part, front_long}
use Rattle.text.proofs.StepLaws.{takes}
use Rattle.srec.specs.Lines.{is_end}
use Rattle.srec.specs.Formats.{srec}
use Rattle.part_next.specs.Takes.{begin_of, end_of, line_in, next_in}

-- a line that a fast way is sure of ends where it was said to end
pub sure_end : (total : ℕ) (n : State) (text : List ℕ) (from to : ℕ) → from ≤ to → to ≤ length text → length (front is_end (drop to text)) ≡ 0
    → (answer : Option Step) (step : Step) → answer ≡ Some step → SureIs srec n total (part text from to) answer
    → (to ≡ end_of text from) × (step ≡ as_step total (state_with [] n) (srec.step (state_with [] n) (part text from to)))
sure_end total n text from to l h stops answer step is q =
    let y : SureIs srec n total (part text from to) (Some step) = subst (SureIs srec n total (part text from to)) is q in
    let k : ℕ = to - from in
    let f : from + k ≡ to = omega arith in
    let s : length (front is_end (drop k (drop from text))) ≡ 0 = rw (drop-drop k from text, f) stops in
    let c : length (front is_end (drop from text)) ≡ k
    = front_long is_end k (drop from text) (omega (arith, length-drop from text)) (front_all is_end (part text from to) y.2) s in
    (omega (arith, c), y.0)

module _ (total : ℕ) (n : State) (text : List ℕ) (from to : ℕ) (step : Step) (y : SureIs srec n (total + from) (part text from to) (Some step)) where
  -- so it is the next one, if its end stands in the part
  pub sure_next : (at : ℕ) → from ≡ begin_of text at → from ≤ to → to < length text → length (front is_end (drop to text)) ≡ 0
      → takes from to step ≡ next_in total n text at
  sure_next at b l h stops =
      let e = sure_end (total + from) n text from to l (omega arith) stops (Some step) step refl y in
      let is_line : takes from to step ≡ line_in total n text from to = ap (takes from to) e.1 ∙ rw (lt-ltb to (length text) h) in
      is_line ∙ (λ i. line_in total n text (b i) ((e.0 ∙ ap (end_of text) b) i))

-- A line that a fast way is sure of is the next line of its text, if it begins where that does and ends where a line may end.
use mathlib.Core.Path.{◌≡◌, ap, ◌∙◌, subst}
use Prim.Native.Nat.{ℕ, ◌-◌, ◌≤◌, ◌<◌}
use native.Mathlib.Omega.{arith}
use mathlib.Core.List.{List}
use lib.ListN.{length, drop}
use Rattle.lists.proofs.PartLaws.{part_long}
use Rattle.std.specs.Prelude.{Some}
use Rattle.text.specs.declared.State.{State}
use Rattle.text.specs.declared.Step.{Step}
use Rattle.text.specs.Lines.{front, lines}
use Rattle.text.specs.Finds.{found}
use Rattle.text.specs.Formats.{Format}
use Rattle.text.specs.Steps.{SureIs}
use Rattle.text.proofs.LineLaws.{Free, front_all}
use Rattle.text.proofs.FindLaws.{stands, part, from, Next, next_free, next_is}
use Rattle.text.proofs.StepLaws.{step_at}

module _ (F : Format) (n : State) (text : List ℕ) (at f e : ℕ) (inside : at ≤ length text) (begins : f ≡ from F.gap text at)
    (after : f ≤ e) (high : e ≤ length text) (stops : length (front F.gap (drop e text)) ≡ 0) where
  -- an answer says that it is the next line, and its step
  pub sure_next : (step : Step) → SureIs F n f (part text f e) (Some step) → Next F.gap text at f e × (step ≡ step_at F n text at f e)
  sure_next step y =
      let long : length (part text f e) ≡ e - f = part_long text f e after high in
      let ahead : from F.gap text at < e = omega (arith, y.1, long, begins) in
      let free : Free F.gap (part text f e) = front_all F.gap (part text f e) y.2 in
      let p : stands f e ≡ found (lines F.gap at (drop at text))
      = ap (λ (j : ℕ). stands j e) begins
      ∙ next_free F.gap text at e ahead high (subst (λ (j : ℕ). Free F.gap (part text j e)) begins free) stops in
      (next_is F.gap text at f e inside p, y.0)

-- A block of ones is a run.
use Rattle.std.proofs.Common.{◌≡◌, ℕ, ◌+◌, ◌-◌, ◌≤◌, true, List, eqb, length, take, drop, replicate, refl, sym, ap, ◌∙◌, arith}
use Rattle.std.specs.Cmp.Lexicographic.{pointwise}
use Rattle.std.proofs.lemmas.Bool.Decides.{Decides-eqb}
use Rattle.std.proofs.lemmas.Slice.Eq.{slice_eq-Decides}
use lib.ListN.{length-drop}
use Rattle.lists.proofs.PartLaws.{rest, drop_take}
use Rattle.window.specs.Walks.{run}
use Rattle.mark_runs.proofs.is_row.Goals as goal

ones_run : (ms block : List ℕ) (at : ℕ) → (let behind : List ℕ = take (length ms - at) (drop at ms) in
    16 ≤ length behind → block ≡ take 16 behind → pointwise eqb block (replicate 16 1) ≡ true
    → (at + 16 ≤ length ms) × (run (drop at (take (at + 16) ms)) ≡ 16))
ones_run ms block at long e p =
    let ones : block ≡ replicate 16 1 = (slice_eq-Decides Decides-eqb block (replicate 16 1) _ refl).0 p in
    let first : block ≡ take 16 (drop at ms) = e ∙ ap (take 16) (rest at ms) in
    (omega (arith, ap length (rest at ms), length-drop at ms), ap run (drop_take at 16 ms ∙ sym first ∙ ones))

pub returns : goal.returns
returns c t = ones_run _ _ _ c.in-Some.ensures.cases.enough c.in-Some.ensures.cases.same (sym c.eq.ensures ∙ t)

-- The source of a look by the marks of its cell, and by the rows.
use mathlib.Core.Path.{◌≡◌, refl, ◌∙◌}
use Prim.Native.Nat.{ℕ, zero, suc, ◌+◌, ◌-◌, ◌≤◌, ◌<◌}
use native.Mathlib.Nat.{add-sub_cancel_left}
use native.Mathlib.Omega.{arith}
use mathlib.Core.Bool.{true, false}
use mathlib.Core.List.{List, []}
use lib.ListN.{length, get_or, drop, drop_of_length-le}
use borrow.Author.Tests.{lt-ltb, le-ltb}
use Rattle.window.specs.Windows.{Window}
use Rattle.window.specs.Images.{image}
use Rattle.overlay.specs.declared.Source.TheVariants.{Neither, Refused}
use Rattle.window.specs.Plans.{passes}
use Rattle.overlay.specs.Refusals.{look_refusal}
use Rattle.overlay.specs.Looks.{source_of, seen_in, from, source_at, look_source}
use Rattle.overlay.specs.Facts.{mark_source, EverySource}
use Rattle.overlay.proofs.AlignedLaws.{length_image, Aligned, ends, next, aligned}
use Rattle.overlay.proofs.RefusalLaws.{Alike, look_fit}
use Rattle.overlay.proofs.ExtentLaws.{source_by_marks}

-- the source of the cell at an index is that of its marks
source_index : {m k n j : List ℕ} → Aligned m k n j → (i : ℕ)
    → source_of (drop i (image m k)) (drop i (image n j)) ≡ mark_source (get_or k i 0) (get_or j i 0)
source_index ends zero = refl
source_index ends (suc i) = refl
source_index (next {m} {k} {n} {j} b x e y s) zero = source_by_marks b x e y (image m k) (image n j)
source_index (next b x e y s) (suc i) = source_index s i

module _ (B P : Window) where
  -- ---- with the rows

  -- a refusal is the source
  pub source_refused : passes (look_refusal B P) ≡ false → (a : ℕ) → look_source B P a ≡ Refused (look_refusal B P)
  unfolding look_source
  source_refused e a = rw e

  -- no row applies: it is that of the cell
  pub source_passed : passes (look_refusal B P) ≡ true → (a : ℕ) → look_source B P a ≡ source_at B P a
  unfolding look_source
  source_passed e a = rw e

  -- ---- without them

  -- an address below the window
  pub source_below : (a : ℕ) → a < B.base → source_at B P a ≡ Neither
  unfolding source_at
  source_below a h = rw (lt-ltb a B.base h)

  module _ (like : Alike B P) (a : ℕ) (low : B.base ≤ a) where
    -- no address below it: the marks of its cell
    pub source_above : source_at B P a ≡ mark_source (get_or B.marks (a - B.base) 0) (get_or P.marks (a - B.base) 0)
    unfolding source_at
    source_above =
        rw (le-ltb a B.base low)
        (source_index (aligned B.memory B.marks P.memory P.marks like.base like.patch like.both) (a - B.base))

    -- behind the window there is none
    pub source_behind : length B.memory ≤ a - B.base → source_at B P a ≡ Neither
    unfolding source_at
    source_behind h =
        let e : from (a - B.base) B ≡ [] = drop_of_length-le (seen_in B) {i = a - B.base} (omega (arith, length_image B.memory B.marks like.base)) in
        rw (le-ltb a B.base low, e)

-- the source of every look
pub every_source : EverySource
every_source B P = record {
  refused = source_refused B P;
  below = λ ok a h. source_passed B P ok a ∙ source_below B P a h;
  above = λ ok i.
      source_passed B P ok (B.base + i)
      ∙ rw (source_above B P (look_fit B P ok) (B.base + i) (omega arith), add-sub_cancel_left B.base i);
}

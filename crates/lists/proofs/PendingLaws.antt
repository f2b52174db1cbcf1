-- A list that is laid over another piece by piece: how far it has come.
use mathlib.Core.Path.{◌≡◌, refl, sym, ◌∙◌}
use Prim.Native.Nat.{ℕ, ◌+◌, ◌≤◌}
use native.Mathlib.Nat.{add-zero}
use native.Mathlib.Omega.{arith}
use mathlib.Core.List.{List, [], ◌++◌}
use lib.ListN.{length, length-append}
use Rattle.lists.specs.Lists.{over}
use Rattle.lists.proofs.OverLaws.{over_none, over_more}

-- `whole` is to be laid over the output o from `start` on; out is the output now, and `rest` is still to be written, from `at` on
pub record Pending (whole rest : List ℕ) (start at : ℕ) (o out : List ℕ) : Type 0 where
  pub place : at + length rest ≡ start + length whole
  pub text : over out at rest ≡ over o start whole
  pub same : length out ≡ length o

-- nothing is written yet
pub pending_start : (whole rest : List ℕ) (start : ℕ) (o : List ℕ) → whole ≡ rest → Pending whole rest start start o o
pending_start whole rest start o e = record { place = rw e; text = rw e; same = refl }

-- the next piece has room
pub pending_room : (whole xs ys : List ℕ) (start at : ℕ) (o out : List ℕ) → start + length whole ≤ length o
    → Pending whole (xs ++ ys) start at o out → at + length xs ≤ length out
pending_room whole xs ys start at o out h p = omega (arith, p.place, p.same, length-append xs ys)

-- the next piece is written
pub pending_more : (whole xs ys : List ℕ) (start at p : ℕ) (o out out' : List ℕ) → start + length whole ≤ length o
    → Pending whole (xs ++ ys) start at o out → p ≡ at + length xs → out' ≡ over out at xs → length out' ≡ length out
    → Pending whole ys start p o out'
pending_more whole xs ys start at p o out out' h d q e n =
    record {
      place = omega (arith, d.place, length-append xs ys);
      text = rw (e, q) (over_more out at xs ys (pending_room whole xs ys start at o out h d) ∙ d.text);
      same = n ∙ d.same;
    }

-- all is written
pub pending_end : (whole : List ℕ) (start at : ℕ) (o out : List ℕ) → Pending whole [] start at o out
    → (at ≡ start + length whole) × (out ≡ over o start whole)
pending_end whole start at o out d = (sym (add-zero at) ∙ d.place, sym (over_none out at) ∙ d.text)

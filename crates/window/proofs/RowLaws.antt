-- Row 1: what it says of a window.
use mathlib.Core.Path.{◌≡◌}
use Prim.Native.Nat.{◌+◌, ◌-◌, ◌^◌, ◌≤◌}
use mathlib.Core.Bool.{false, not}
use lib.Dec.{ltb, eqb}
use lib.ListN.{length}
use borrow.Author.Tests.{eq-eqb, eqb-true, le-ltb, ltb-false, not-false}
use Rattle.lists.proofs.TestLaws.{or_neither}
use Rattle.window.specs.Windows.{Window, row1, Allowed}

-- an allowed window has as many marks as memory bytes, and base + length <= 2^32
pub allowed_inv : (W : Window) → Allowed W → (length W.marks ≡ length W.memory) × (W.base + length W.memory ≤ 2 ^ 32)
unfolding row1
allowed_inv W h =
    let k : (not (eqb (length W.marks) (length W.memory)) ≡ false) × (ltb (2 ^ 32) (W.base + length W.memory) ≡ false)
    = or_neither (not (eqb (length W.marks) (length W.memory))) (ltb (2 ^ 32) (W.base + length W.memory)) h in (
      eqb-true (length W.marks) (length W.memory) (not-false (eqb (length W.marks) (length W.memory)) k.0),
      ltb-false (2 ^ 32) (W.base + length W.memory) k.1,
    )

-- a window for which both hold is allowed
pub allowed_is : (W : Window) → length W.marks ≡ length W.memory → W.base + length W.memory ≤ 2 ^ 32 → Allowed W
unfolding row1
allowed_is W e l = rw (eq-eqb (length W.marks) (length W.memory) e, le-ltb (2 ^ 32) (W.base + length W.memory) l)

-- Row 1 of a form: what it says of a window, and how `is_allowed` decides it.
use mathlib.Core.Path.{◌≡◌, refl}
use Prim.Native.Nat.{ℕ, ◌+◌, ◌-◌, ◌^◌, ◌≤◌}
use native.Mathlib.Omega.{arith}
use mathlib.Core.Bool.{false, not}
use mathlib.Core.List.{List}
use lib.Dec.{leb, ltb, eqb}
use lib.ListN.{length}
use borrow.Author.Tests.{eq-eqb, ne_eqb, eqb-true, le-leb, lt-leb, ltb-true, ltb-false, not-false}
use Rattle.lists.proofs.TestLaws.{by_test, or_neither}
use Rattle.window.specs.Windows.{Window, window_of, row1, Allowed}
use Rattle.window.proofs.RowLaws.{allowed_is}
use Rattle.marks.specs.declared.Form.{Form}
use Rattle.marks.specs.declared.Form.TheVariants.{Bytes}
use Rattle.marks.specs.Forms.{plain, mark_bytes, row1_in}
use Rattle.marks.proofs.FormLaws.{flags_length}

-- of mark bytes it is row 1
pub row_1_bytes : (W : Window) → row1_in Bytes W ≡ row1 W
unfolding row1_in row1
row_1_bytes W = refl

-- an allowed window has as many mark bytes as its cells take, and base + length <= 2^32
pub allowed_in : (form : Form) (W : Window) → row1_in form W ≡ false
    → (length W.marks ≡ mark_bytes form (length W.memory)) × (W.base + length W.memory ≤ 2 ^ 32)
unfolding row1_in
allowed_in form W h =
    let n : ℕ = mark_bytes form (length W.memory) in
    let k = or_neither (not (eqb (length W.marks) n)) (ltb (2 ^ 32) (W.base + length W.memory)) h in (
      eqb-true (length W.marks) n (not-false (eqb (length W.marks) n) k.0),
      ltb-false (2 ^ 32) (W.base + length W.memory) k.1,
    )

-- the window with its flags for marks is allowed then
pub plain_allowed : (form : Form) (W : Window) → row1_in form W ≡ false → Allowed (plain form W)
plain_allowed form W h =
    let k = allowed_in form W h in allowed_is (plain form W) (flags_length form (length W.memory) W.marks k.0) k.1

module _ (form : Form) (base : ℕ) (memory marks : List ℕ) where
  -- too few mark bytes, or too many
  pub row_1_lengths : (length marks ≡ mark_bytes form (length memory) → ⊥) → false ≡ not (row1_in form (window_of base memory marks))
  unfolding row1_in
  row_1_lengths h = rw (ne_eqb (length marks) (mark_bytes form (length memory)) h)

  -- the window passes 2^32, or not
  pub row_1_reach : base ≤ 2 ^ 32 → length marks ≡ mark_bytes form (length memory)
      → leb (length memory) (2 ^ 32 - base) ≡ not (row1_in form (window_of base memory marks))
  unfolding row1_in
  row_1_reach b e =
      by_test (ltb (2 ^ 32) (base + length memory))
      (λ t. rw (
        eq-eqb (length marks) (mark_bytes form (length memory)) e,
        t,
        lt-leb (length memory) (2 ^ 32 - base) (omega (arith, ltb-true (2 ^ 32) (base + length memory) t)),
      ))
      (λ t. rw (
        eq-eqb (length marks) (mark_bytes form (length memory)) e,
        t,
        le-leb (length memory) (2 ^ 32 - base) (omega (arith, ltb-false (2 ^ 32) (base + length memory) t)),
      ))

-- The ones in packed bytes are the cells that are marked.
use mathlib.Core.Path.{◌≡◌, refl, ap, ◌∙◌}
use Prim.Native.Nat.{ℕ, zero, suc, ◌+◌, ◌*◌, ◌/◌, ◌%◌, ◌≤◌}
use native.Mathlib.Nat.{add-zero, zero-add}
use native.Mathlib.Omega.{arith}
use mathlib.Core.List.{List, [], ◌∷◌}
use mathlib.Core.Option.{none, some}
use lib.Count.{ones, ones_step}
use lib.ListN.{length, get_or, replicate}
use Rattle.std.specs.List.{sum_by}
use Rattle.std.proofs.lemmas.List.Recursion.{is_sum_by}
use Rattle.window.specs.Images.{Image, marks_of}
use Rattle.window.specs.Cells.{cells}
use Rattle.bits.specs.Bits.{byte_of, pack_from, pack, ones_of}
use Rattle.bits.proofs.PackLaws.{Binary, binary_marks, binary_replicate}

-- how many flags are set
abbrev marked : List ℕ → ℕ
marked [] = 0
marked (zero ∷ fs) = marked fs
marked (suc m ∷ fs) = suc (marked fs)

-- the sum of k flags from i on
sum_from : List ℕ → ℕ → ℕ → ℕ
sum_from fs i zero = 0
sum_from fs i (suc k) = get_or fs i 0 + sum_from fs (suc i) k

sum_add : (fs : List ℕ) (i a b : ℕ) → sum_from fs i (a + b) ≡ sum_from fs i a + sum_from fs (i + a) b
unfolding sum_from
sum_add fs i zero b = rw (zero-add b, add-zero i, zero-add (sum_from fs i b))
sum_add fs i (suc a) b =
    let e : suc a + b ≡ suc (a + b) = omega arith in
    let f : i + suc a ≡ suc i + a = omega arith in
    rw (e, f) (omega (arith, sum_add fs (suc i) a b))

-- flags from the second on
sum_tail : (f : ℕ) (fs : List ℕ) (i k : ℕ) → sum_from (f ∷ fs) (suc i) k ≡ sum_from fs i k
unfolding sum_from
sum_tail f fs i zero = refl
sum_tail f fs i (suc k) = ap (λ (x : ℕ). get_or fs i 0 + x) (sum_tail f fs (suc i) k)

sum_none : (i k : ℕ) → sum_from [] i k ≡ 0
unfolding sum_from
sum_none i zero = refl
sum_none i (suc k) = zero-add (sum_from [] (suc i) k) ∙ sum_none (suc i) k

-- of flags that are 0 or 1 the sum is how many are set
sum_marked : (fs : List ℕ) → Binary fs → (k : ℕ) → length fs ≤ k → sum_from fs 0 k ≡ marked fs
unfolding sum_from
sum_marked [] two k h = sum_none 0 k
sum_marked (f ∷ fs) two zero h = absurd (omega arith)
sum_marked (f ∷ fs) two (suc k) h = go f (two 0) (sum_tail f fs 0 k ∙ sum_marked fs (λ j. two (suc j)) k (omega arith))
  where
    go : (g : ℕ) → g ≤ 1 → sum_from (f ∷ fs) 1 k ≡ marked fs → g + sum_from (f ∷ fs) 1 k ≡ marked (g ∷ fs)
    go zero l e = zero-add (sum_from (f ∷ fs) 1 k) ∙ e
    go (suc zero) l e = omega arith
    go (suc (suc g)) l e = absurd (omega arith)

no_ones : ones 0 ≡ 0
unfolding ones
no_ones = refl

module _ (fs : List ℕ) (two : Binary fs) where
  -- the ones of one byte
  ones_byte : (i k : ℕ) → ones (byte_of fs i k) ≡ sum_from fs i k
  unfolding byte_of sum_from
  ones_byte i zero = no_ones
  ones_byte i (suc k) =
      let low : (get_or fs i 0 + 2 * byte_of fs (suc i) k) % 2 ≡ get_or fs i 0 = omega (arith, two i) in
      let high : (get_or fs i 0 + 2 * byte_of fs (suc i) k) / 2 ≡ byte_of fs (suc i) k = omega (arith, two i) in
      ones_step (get_or fs i 0 + 2 * byte_of fs (suc i) k) ∙ rw (low, high, ones_byte (suc i) k)

  ones_from : (k n : ℕ) → ones_of (pack_from fs k n) ≡ sum_from fs (8 * k) (8 * n)
  unfolding sum_from
  ones_from k zero = refl
  ones_from k (suc n) =
      let e : 8 * suc n ≡ 8 + 8 * n = omega arith in
      let f : 8 * k + 8 ≡ 8 * suc k = omega arith in
      rw (e, sum_add fs (8 * k) 8 (8 * n), f, ones_byte (8 * k) 8, ones_from (suc k) n)

  -- Req 08's "the cell count comes from the ones in the packed bytes"
  ones_pack : ones_of (pack fs) ≡ marked fs
  unfolding pack
  ones_pack = ones_from 0 ((length fs + 7) / 8) ∙ sum_marked fs two (8 * ((length fs + 7) / 8)) (omega arith)

-- an image's marks are as many as its cells
marked_cells : (a : ℕ) (img : Image) → marked (marks_of img) ≡ length (cells a img)
marked_cells a [] = refl
marked_cells a (none ∷ img) = marked_cells (suc a) img
marked_cells a (some b ∷ img) = ap suc (marked_cells (suc a) img)

-- the ones in the packed marks of an image are as many as its cells
pub ones_cells : (a : ℕ) (img : Image) → ones_of (pack (marks_of img)) ≡ length (cells a img)
ones_cells a img = ones_pack (marks_of img) (binary_marks img) ∙ marked_cells a img

-- cleared marks have none
none_marked : (n : ℕ) → marked (replicate n 0) ≡ 0
none_marked zero = refl
none_marked (suc n) = none_marked n

pub ones_clear : (n : ℕ) → ones_of (pack (replicate n 0)) ≡ 0
ones_clear n = ones_pack (replicate n 0) (binary_replicate n 0 (omega arith)) ∙ none_marked n

-- they are a sum, byte by byte
pub ones_sum : (ms : List ℕ) → ones_of ms ≡ sum_by ones ms
ones_sum ms = is_sum_by ones_of ones refl (λ m ms. refl) ms

-- Cells in the middle of packed marks: found free, and marked.
use mathlib.Core.Path.{◌≡◌, refl, sym, ap, ◌∙◌, subst}
use Prim.Native.Nat.{ℕ, zero, suc, ◌+◌, ◌-◌, ◌≤◌, ◌<◌}
use native.Mathlib.Nat.{zero-add}
use native.Mathlib.Omega.{arith}
use mathlib.Core.Bool.{true, false}
use mathlib.Core.List.{List, [], ◌∷◌}
use lib.Dec.{ltb, eqb-suc-zero}
use lib.ListN.{length, get_or, take, drop, replicate, length-replicate, get_or-replicate}
use borrow.Author.Tests.{ltb-true, ltb-false}
use Rattle.lists.specs.Lists.{over}
use Rattle.lists.proofs.TestLaws.{by_test}
use Rattle.lists.proofs.OverLaws.{over_length}
use Rattle.lists.proofs.OverIndexLaws.{over_below, over_inside, over_above}
use Rattle.window.specs.Marks.{is_free}
use Rattle.window.specs.Walks.{unmarked}
use Rattle.bits.specs.Bits.{bit, bits, byte_count, pack}
use Rattle.bits.specs.Steps.{Painted}
use Rattle.bits.proofs.PackLaws.{length_bits, drop_bits, take_bits, Binary, binary_bits, pack_bit, pack_bytes, pack_length, pack_is}

-- flags are free where as many cells come before the first marked one as there are
pub unmarked_free : (fs : List ℕ) → length fs ≤ unmarked fs → is_free fs ≡ true
unmarked_free [] h = refl
unmarked_free (zero ∷ fs) h = unmarked_free fs (omega arith)
unmarked_free (suc m ∷ fs) h = absurd (omega arith)

-- and taken where fewer do
pub unmarked_taken : (fs : List ℕ) → unmarked fs < length fs → is_free fs ≡ false
unmarked_taken [] h = absurd (omega arith)
unmarked_taken (zero ∷ fs) h = unmarked_taken fs (omega arith)
unmarked_taken (suc m ∷ fs) h = rw (eqb-suc-zero m)

module _ (n : ℕ) (ms : List ℕ) (from count to : ℕ) (e : to ≡ from + count) (h : to ≤ n) where
  -- the flags of some cells in the middle
  middle : take count (drop from (bits ms 0 n)) ≡ bits ms from count
  middle = rw (drop_bits ms 0 from n, zero-add from) (take_bits ms from count (n - from) (omega arith))

  module _ (r : ℕ) (q : r ≡ from + unmarked (bits ms from (to - from))) where
    found : r ≡ from + unmarked (bits ms from count)
    found = let d : to - from ≡ count = omega arith in q ∙ rw d

    -- no set bit was found below the end
    pub free : to ≤ r → is_free (take count (drop from (bits ms 0 n))) ≡ true
    free l = rw middle (unmarked_free (bits ms from count) (omega (arith, found, length_bits ms from count)))

    -- one was found
    pub taken : r < to → is_free (take count (drop from (bits ms 0 n))) ≡ false
    taken l = rw middle (unmarked_taken (bits ms from count) (omega (arith, found, length_bits ms from count)))

  -- marks without spare bits whose cells in the middle are set are the packed flags with ones in the middle
  pub painted : (ms' : List ℕ) → ms ≡ pack (bits ms 0 n) → Painted ms from to ms' → length ms' ≡ length ms
      → ms' ≡ pack (over (bits ms 0 n) from (replicate count 1))
  painted ms' t p k =
      pack_is ms' (over (bits ms 0 n) from ones) (p.bytes (λ j. subst (λ (m : List ℕ). get_or m j 0 < 256) (sym t) (pack_bytes fs two j)))
      (k ∙ ap length t ∙ pack_length fs ∙ ap byte_count (sym (over_length fs from ones room))) same
    where
      fs : List ℕ
      fs = bits ms 0 n

      two : Binary fs
      two = binary_bits ms 0 n

      ones : List ℕ
      ones = replicate count 1

      long : length ones ≡ count
      long = length-replicate count 1

      room : from + length ones ≤ length fs
      room = omega (arith, long, length_bits ms 0 n)

      own : (j : ℕ) → bit ms j ≡ get_or fs j 0
      own j = ap (λ (m : List ℕ). bit m j) t ∙ pack_bit fs two j

      same : (j : ℕ) → bit ms' j ≡ get_or (over fs from ones) j 0
      same j =
          by_test (ltb j from)
          (λ a. p.below j (ltb-true j from a) ∙ own j ∙ sym (over_below fs ones from room j (ltb-true j from a)))
          (λ a. by_test (ltb j to)
          (λ b. p.set j (ltb-false j from a) (ltb-true j to b)
          ∙ sym (over_inside fs ones from room j (ltb-false j from a) (omega (arith, long, ltb-true j to b))
          ∙ get_or-replicate count (j - from) 1 0 (omega (arith, ltb-false j from a, ltb-true j to b))))
          (λ b. p.above j (ltb-false j to b) ∙ own j ∙ sym (over_above fs ones from room j (omega (arith, long, ltb-false j to b)))))

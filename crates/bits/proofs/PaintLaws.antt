-- `set_bits`: the bits of a stretch of cells are set, one byte after the other.
use mathlib.Core.Path.{◌≡◌, refl, ap, ◌∙◌}
use Prim.Native.Nat.{ℕ, ◌+◌, ◌-◌, ◌*◌, ◌/◌, ◌%◌, ◌^◌, ◌≤◌, ◌<◌, max, min}
use native.Mathlib.Omega.{arith}
use mathlib.Core.Bool.{false, cond, ◌&&◌}
use mathlib.Core.List.{List}
use lib.Bits.{bit_or, or_lt}
use lib.Dec.{eqb, leb, ltb}
use lib.ListN.{length, get_or, set}
use lib.Pow.{pow_mono, pow_pos}
use lib.Seq.{get_or-set_same, get_or-set_other}
use borrow.Author.Tests.{eqb-true, eqb-false, le-leb, lt-leb, lt-ltb, le-ltb, ltb-true, ltb-false}
use Rattle.lists.proofs.TestLaws.{by_test}
use Rattle.bits.specs.Bits.{bit}
use Rattle.bits.specs.Steps.{Painted}
use Rattle.bits.proofs.DigitLaws.{or_digit, mask_digit_lem}

-- no bit is set yet
pub paint_none : (ms : List ℕ) (from i : ℕ) → i ≤ from → Painted ms from i ms
paint_none ms from i h = record { set = λ j l m. absurd (omega arith); below = λ j l. refl; above = λ j l. refl; bytes = λ o. o }

-- one stretch behind the other
pub paint_on : (a b c : List ℕ) (from i to : ℕ) → from ≤ i → i ≤ to → Painted a from i b → Painted b i to c → Painted a from to c
paint_on a b c from i to h k p q =
    record {
      set = λ j l m. by_test (ltb j i) (λ t. q.below j (ltb-true j i t) ∙ p.set j l (ltb-true j i t)) (λ t. q.set j (ltb-false j i t) m);
      below = λ j l. q.below j (omega arith) ∙ p.below j l;
      above = λ j l. q.above j l ∙ p.above j (omega arith);
      bytes = λ o. q.bytes (p.bytes o);
    }

-- the cells of one byte
module _ (ms : List ℕ) (i n : ℕ) (fits : i % 8 + n ≤ 8) (h : i / 8 < length ms) where
  -- the byte with the cells from i on set
  abbrev own : ℕ
  own = bit_or (get_or ms (i / 8) 0) (2 ^ (i % 8 + n) - 2 ^ (i % 8))

  -- a cell of another byte
  other : (j : ℕ) → (j / 8 ≡ i / 8 → ⊥) → bit (set ms (i / 8) own) j ≡ bit ms j
  unfolding bit
  other j e = rw (get_or-set_other ms (i / 8) (j / 8) own 0 e)

  -- a cell of this byte
  here : (j : ℕ) → j / 8 ≡ i / 8 → bit (set ms (i / 8) own) j ≡ max (bit ms j) (cond (leb (i % 8) (j % 8) && ltb (j % 8) (i % 8 + n)) 1 0)
  unfolding bit
  here j e =
      rw (e, get_or-set_same ms (i / 8) own 0 h, or_digit (get_or ms (i / 8) 0) (2 ^ (i % 8 + n) - 2 ^ (i % 8)) (j % 8))
      (ap (max (get_or ms (i / 8) 0 / 2 ^ (j % 8) % 2)) (mask_digit_lem (i % 8 + n) (i % 8) (j % 8) fits (omega arith) (omega arith)))

  small : (j : ℕ) → bit ms j ≤ 1
  unfolding bit
  small j = omega arith

  -- a cell that is not among them stays
  stays : (j : ℕ) → (j / 8 ≡ i / 8 → leb (i % 8) (j % 8) && ltb (j % 8) (i % 8 + n) ≡ false) → bit (set ms (i / 8) own) j ≡ bit ms j
  stays j t = by_test (eqb (j / 8) (i / 8)) (λ e. let q : j / 8 ≡ i / 8 = eqb-true (j / 8) (i / 8) e in here j q ∙ rw (t q) (omega arith)) (λ e. other j (eqb-false (j / 8) (i / 8) e))

  -- a byte with bits set is a byte
  still_byte : get_or ms (i / 8) 0 < 256 → own < 256
  still_byte b =
      let l : 2 ^ (i % 8 + n) ≤ 2 ^ 8 = pow_mono fits in
      or_lt 8 (get_or ms (i / 8) 0) (2 ^ (i % 8 + n) - 2 ^ (i % 8)) b (omega (arith, pow_pos (i % 8)))

  still_bytes : ((k : ℕ) → get_or ms k 0 < 256) → (k : ℕ) → get_or (set ms (i / 8) own) k 0 < 256
  still_bytes o k =
      by_test (eqb k (i / 8)) (λ e. let q : k ≡ i / 8 = eqb-true k (i / 8) e in rw (q, get_or-set_same ms (i / 8) own 0 h) (still_byte (o (i / 8))))
      (λ e. rw (get_or-set_other ms (i / 8) k own 0 (eqb-false k (i / 8) e)) (o k))

  -- the byte's cells from i on, n of them, are set
  pub paint_byte : Painted ms i (i + n) (set ms (i / 8) own)
  paint_byte =
      record {
        set = λ j l m. here j (omega arith) ∙ rw (le-leb (i % 8) (j % 8) (omega arith), lt-ltb (j % 8) (i % 8 + n) (omega arith)) (omega (arith, small j));
        below = λ j l. stays j (λ e. rw (lt-leb (i % 8) (j % 8) (omega arith)));
        above = λ j l. stays j (λ e. rw (le-leb (i % 8) (j % 8) (omega arith), le-ltb (j % 8) (i % 8 + n) (omega arith)));
        bytes = still_bytes;
      }

-- bytes painted up to byte k, or from the bit `low` of it on, are painted up to its bit `high`
pub paint_next : (a b : List ℕ) (from to k low high mark : ℕ) → from ≤ to → from / 8 ≤ k → 8 * k < to → k < length b
    → low ≡ from - 8 * k → high ≡ min 8 (to - 8 * k) → mark ≡ 2 ^ high - 2 ^ low → Painted a from (max from (min to (8 * k))) b
    → Painted a from (max from (min to (8 * (k + 1)))) (set b k (bit_or (get_or b k 0) mark))
paint_next a b from to k low high mark f g t h low-is high-is mark-is p =
    let i : ℕ = max from (min to (8 * k)) in
    let first : from ≤ i = omega arith in
    let last : i ≤ i + (high - low) = omega arith in
    let q : i / 8 ≡ k = omega arith in
    let r : i % 8 ≡ low = omega arith in
    let s : low + (high - low) ≡ high = omega arith in
    let here : i / 8 < length b = rw q h in
    let few : high ≤ 8 = omega arith in
    let inside : i % 8 + (high - low) ≤ 8 = rw (r, s) few in
    let e : i + (high - low) ≡ max from (min to (8 * (k + 1))) = omega arith in
    let byte : Painted b i (i + (high - low)) (set b k (bit_or (get_or b k 0) (2 ^ high - 2 ^ low)))
    = rw (q, r, s) at (paint_byte b i (high - low) inside here) in
    rw mark-is (rw e at (paint_on a b _ from i (i + (high - low)) first last p byte))

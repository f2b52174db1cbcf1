-- Where a line ends that is as long as its count says.
use mathlib.Core.Path.{◌≡◌, sym, ◌∙◌}
use Prim.Native.Nat.{ℕ, ◌+◌, ◌-◌, ◌*◌, ◌≤◌, ◌<◌}
use native.Mathlib.Omega.{arith}
use mathlib.Core.Bool.{Bool}
use mathlib.Core.List.{List}
use lib.ListN.{length, get_or, take, drop}
use lib.Seq.{get_or-take}
use Rattle.lists.proofs.PartLaws.{part_long}
use Rattle.hex_digits.specs.Digits.{byte_of}
use Rattle.hex_digits.proofs.DigitLaws.{value_small}
use Rattle.text.specs.Lines.{lines}
use Rattle.text.proofs.FindLaws.{part, from, to, Next, next_at, next_is}
use Rattle.formats.specs.declared.Format.{Format}
use Rattle.formats.specs.declared.Format.TheVariants.{Records, Tape}
use Rattle.formats.specs.Choices.{format_of}
use Rattle.line_counts.specs.Counts.{size_of, LongAsCounted}

-- a count asks for 4 to 521 characters
pub size_bounds : (format : Format) (cs : List ℕ) → (4 ≤ size_of format cs) × (size_of format cs ≤ 521)
size_bounds Records cs = (omega arith, omega (arith, value_small (get_or cs 2 0), value_small (get_or cs 3 0)))
size_bounds (Tape edition) cs = (omega arith, omega (arith, value_small (get_or cs 1 0), value_small (get_or cs 2 0)))

-- of the first characters four decide the size
size_first : (format : Format) (n : ℕ) (cs : List ℕ) → 4 ≤ n → size_of format (take n cs) ≡ size_of format cs
size_first Records n cs h =
    (λ i. 4 + 2 * byte_of (get_or-take n cs 2 0 (omega arith) i) (get_or-take n cs 3 0 (omega arith) i))
size_first (Tape edition) n cs h =
    (λ i. 11 + 2 * byte_of (get_or-take n cs 1 0 (omega arith) i) (get_or-take n cs 2 0 (omega arith) i))

module _ (format : Format) (text : List ℕ) (at : ℕ) where
  -- the separators of the format
  abbrev gap : ℕ → Bool
  gap = (format_of format).gap

  -- where the next line starts
  abbrev first : ℕ
  first = from gap text at

  -- it ends where its count says
  pub record ByCount : Type 0 where
    pub four : first + 4 ≤ length text
    pub end_is : to gap text at ≡ first + size_of format (drop first text)

  -- a next line that is as long as its count says ends where its count says
  pub by_count : at ≤ length text → first < length text → LongAsCounted format (lines gap at (drop at text)) → ByCount
  by_count b h k =
      let x : Next gap text at first (to gap text at) = next_is gap text at first (to gap text at) b (next_at gap text at h) in
      let n : ℕ = to gap text at - first in
      let own : List ℕ = part text first (to gap text at) in
      let is : length own ≡ size_of format own = rw x.is at k in
      let l : length own ≡ n = part_long text first (to gap text at) (omega (arith, x.some_chars)) x.high in
      let four : 4 ≤ n = omega (arith, is, l, (size_bounds format own).0) in
      let e : n ≡ size_of format (drop first text) = sym l ∙ is ∙ size_first format n (drop first text) four in
      record { four = omega (arith, four, x.high, x.some_chars); end_is = omega (arith, e, x.some_chars) }

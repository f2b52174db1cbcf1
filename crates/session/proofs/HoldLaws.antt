-- The characters of the record that is not complete: of all of them the first 515 are held.
use mathlib.Core.Path.{◌≡◌, refl, sym, ap, ◌∙◌}
use Prim.Native.Nat.{ℕ, ◌+◌, ◌-◌, min}
use native.Mathlib.Omega.{arith}
use mathlib.Core.List.{List, ◌++◌, append_assoc}
use lib.ListN.{length, take, drop, length-append}
use lib.Seq.{take_all, take_at, length-take-le, take-append-add}
use borrow.Rule.Slice.PartMut.{put_mid}
use Rattle.lists.proofs.PartLaws.{take_least}

-- no more can be shown than there are
pub take_within : (xs : List ℕ) (most n len : ℕ) → length xs ≡ most → n ≡ min len most → take len xs ≡ take n xs
take_within xs most n len long e = sym (ap (λ (j : ℕ). take j xs) (e ∙ ap (λ (m : ℕ). min len m) (sym long)) ∙ take_least len xs)

module _ (line : List ℕ) (long : length line ≡ 516) (held : ℕ) (chars : List ℕ) where
  -- the line behind a copy: those that were held, those that came, and what stood behind them
  pub held_now : (from count k : ℕ) (part rest : List ℕ) → from ≡ min held 515 → count ≡ min (length chars) (515 - from)
      → part ≡ take (length (take count chars)) (take count chars) ++ rest → take (from + count) (put_mid from k line part) ≡ take 515 (take (min held 515) line ++ chars)
  held_now from count k part rest p q e =
      let f : length (take from line) ≡ from = length-take-le from line (omega arith) in
      let c : length (take count chars) ≡ count = length-take-le count chars (omega arith) in
      let w : 515 ≡ length (take from line) + (515 - from) = omega arith in
      let room : count ≡ min (515 - from) (length chars) = omega arith in
      let t : List ℕ = drop k (drop from line) in
      ap (λ (x : List ℕ). take (from + count) (take from line ++ (x ++ t)))
      (e ∙ ap (λ (x : List ℕ). x ++ rest) (take_all (length (take count chars)) (take count chars) (omega arith)))
      ∙ ap (λ (x : List ℕ). take (from + count) (take from line ++ x)) (append_assoc (take count chars) rest t)
      ∙ ap (take (from + count)) (sym (append_assoc (take from line) (take count chars) (rest ++ t)))
      ∙ take_at (take from line ++ take count chars) (rest ++ t) (from + count)
      (length-append (take from line) (take count chars) ∙ omega (arith, f, c))
      ∙ ap (λ (x : List ℕ). take from line ++ x) (sym (take_within chars (length chars) count (515 - from) refl room))
      ∙ sym (ap (λ (n : ℕ). take 515 (take n line ++ chars)) (sym p)
      ∙ ap (λ (i : ℕ). take i (take from line ++ chars)) w ∙ take-append-add (take from line) chars (515 - from))

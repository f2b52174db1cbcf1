-- The digits of bytes at the front of a buffer.
use Rattle.std.proofs.Common.{◌≡◌, ℕ, ◌*◌, List, length, take, min, arith, ap, ◌∙◌, subst}
use Rattle.std.proofs.Math.Seq.{take-append_seam}
use Rattle.std.proofs.lemmas.List.{length-take}
use Rattle.lists.specs.Lists.{over}
use Rattle.lists.proofs.PartLaws.{take_least}
use Rattle.hex_digits.specs.Digits.{digits_of}
use Rattle.hex_digits.proofs.DigitLaws.{length_pairs}

-- what was laid over the front of a buffer is there
pub front_over : (o xs : List ℕ) (n : ℕ) → length xs ≡ n → take n (over o 0 xs) ≡ xs
unfolding over
front_over o xs n e = subst (λ k. take k (over o 0 xs) ≡ xs) e (take-append_seam xs _)

-- no more than a line has
pub no_more : (bytes : List ℕ) (n : ℕ) → n ≡ min (length bytes) 1024 → take n bytes ≡ take 1024 bytes
no_more bytes n e =
    let m : n ≡ min 1024 (length bytes) = omega arith in
    ap (λ k. take k bytes) m ∙ take_least 1024 bytes

-- the digits of the first bytes are as many as twice those
pub pairs_front : (o bytes : List ℕ) (n : ℕ) → n ≡ min (length bytes) 1024
    → take (2 * n) (over o 0 (digits_of (take n bytes))) ≡ digits_of (take 1024 bytes)
pairs_front o bytes n e =
    let long : length (digits_of (take n bytes)) ≡ 2 * n = omega (arith, length_pairs (take n bytes), length-take n bytes) in
    front_over o (digits_of (take n bytes)) (2 * n) long ∙ ap digits_of (no_more bytes n e)

-- A part of characters, and those behind it: the turns of loops over parts of one length.
use Rattle.std.proofs.Common.{◌≡◌, ℕ, ◌+◌, ◌*◌, List, [], ◌∷◌, ◌++◌, length, get_or, drop, refl, sym, ap, ◌∙◌, arith}
use Rattle.std.proofs.lemmas.List.{drop_at, drop-drop}
use Rattle.hex_digits.specs.Digits.{byte_of, bytes}
use Rattle.hex_digits.specs.Numbers.{number_after}

-- one byte more is put behind the number
pub number_turn : (a : ℕ) (p cs : List ℕ) → length p ≡ 2
    → number_after (a * 256 + byte_of (get_or p 0 0) (get_or p 1 0)) (bytes cs) ≡ number_after a (bytes (p ++ cs))
number_turn a [] cs h = absurd (omega arith)
number_turn a (c ∷ []) cs h = absurd (omega arith)
number_turn a (c ∷ d ∷ []) cs h = refl
number_turn a (c ∷ d ∷ e ∷ p) cs h = absurd (omega arith)

-- what stands behind a part of the whole
pub behind_part : (n : ℕ) (cs p rest : List ℕ) (k : ℕ) → drop (n * k) cs ≡ p ++ rest → length p ≡ n → rest ≡ drop (n * (k + 1)) cs
behind_part n cs p rest k e h =
    let f : n * k + n ≡ n * (k + 1) = omega arith in
    sym (drop_at p rest n h) ∙ ap (drop n) (sym e) ∙ drop-drop n (n * k) cs ∙ ap (λ (m : ℕ). drop m cs) f

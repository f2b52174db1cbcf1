-- Rows of cells by numbers of two or four cells.
use mathlib.Core.Path.{◌≡◌, sym, ap, subst₂, ◌∙◌}
use Prim.Native.Nat.{ℕ, zero, suc, ◌+◌, ◌*◌, ◌/◌, ◌%◌, ◌≤◌, ◌<◌}
use native.Mathlib.Omega.{arith}
use mathlib.Core.List.{List, []}
use lib.ListN.{length, get_or, set}
use Rattle.chips.proofs.FillLaws.{one_more}
use Rattle.rows.specs.Rows.{RowsOf, byte_of, WordsOf, Lane}

-- one number more
pub words_more : (k i v : ℕ) (cells words : List ℕ) → WordsOf k i cells words → i < length words → ((c : ℕ) → c < k → byte_of c v ≡ get_or cells (k * i + c) 0)
    → WordsOf k (i + 1) cells (set words i v)
words_more k i v cells words r h q c u = one_more (λ j x. byte_of c x ≡ get_or cells (k * j + c) 0) i v words (r c u) h (q c u)

-- the bytes of a number of two, and of a number of four
module _ (a b : ℕ) (p : a < 256) (q : b < 256) where
  pub low_byte : (a + 256 * b) / 1 % 256 ≡ a
  low_byte = omega arith

  pub high_byte : (a + 256 * b) / 256 % 256 ≡ b
  high_byte = omega arith

module _ (a b c d : ℕ) (p : a < 256) (q : b < 256) (r : c < 256) (s : d < 256) where
  abbrev word : ℕ
  word = a + 256 * b + 65536 * c + 16777216 * d

  first_byte : word / 1 % 256 ≡ a
  first_byte = omega arith

  second_byte : word / 256 % 256 ≡ b
  second_byte = omega arith

  third_byte : word / 65536 % 256 ≡ c
  third_byte = omega arith

  fourth_byte : word / 16777216 % 256 ≡ d
  fourth_byte = omega arith

-- a number of two cells, and a number of four
module _ (cells : List ℕ) (i : ℕ) (byte : (j : ℕ) → get_or cells j 0 < 256) where
  pub pair_bytes : (c : ℕ) → c < 2 → byte_of c (get_or cells (2 * i) 0 + 256 * get_or cells (2 * i + 1) 0) ≡ get_or cells (2 * i + c) 0
  pair_bytes zero h =
      let e : 2 * i ≡ 2 * i + 0 = omega arith in
      low_byte _ _ (byte (2 * i)) (byte (2 * i + 1)) ∙ ap (λ (x : ℕ). get_or cells x 0) e
  pair_bytes (suc zero) h = high_byte _ _ (byte (2 * i)) (byte (2 * i + 1))
  pair_bytes (suc (suc c)) h = absurd (omega arith)

  pub word_bytes : (c : ℕ) → c < 4
      → byte_of c (get_or cells (4 * i) 0 + 256 * get_or cells (4 * i + 1) 0 + 65536 * get_or cells (4 * i + 2) 0 + 16777216 * get_or cells (4 * i + 3) 0) ≡ get_or cells (4 * i + c) 0
  word_bytes zero h =
      let e : 4 * i ≡ 4 * i + 0 = omega arith in
      first_byte _ _ _ _ (byte (4 * i)) (byte (4 * i + 1)) (byte (4 * i + 2)) (byte (4 * i + 3)) ∙ ap (λ (x : ℕ). get_or cells x 0) e
  word_bytes (suc zero) h = second_byte _ _ _ _ (byte (4 * i)) (byte (4 * i + 1)) (byte (4 * i + 2)) (byte (4 * i + 3))
  word_bytes (suc (suc zero)) h = third_byte _ _ _ _ (byte (4 * i)) (byte (4 * i + 1)) (byte (4 * i + 2)) (byte (4 * i + 3))
  word_bytes (suc (suc (suc zero))) h = fourth_byte _ _ _ _ (byte (4 * i)) (byte (4 * i + 1)) (byte (4 * i + 2)) (byte (4 * i + 3))
  word_bytes (suc (suc (suc (suc c)))) h = absurd (omega arith)

-- a whole row of k chips: what is asked of its cells, and its rows by numbers
module _ (k n size : ℕ) (cells : List ℕ) (chips : k ≡ n) (whole : size ≡ 16) where
  pub whole_long : k * size ≤ length cells → n * 16 ≤ length cells
  whole_long = subst₂ (λ (x y : ℕ). x * y ≤ length cells) chips whole

  pub whole_rows : (words : List ℕ) (rows : List (List ℕ)) → WordsOf n 16 cells words → ((c : ℕ) → c < n → Lane c words (get_or rows c []))
      → RowsOf k size cells rows
  whole_rows words rows w l = subst₂ (λ (x y : ℕ). RowsOf x y cells rows) (sym chips) (sym whole) (λ c u i h. l c u i h ∙ w c u i h)

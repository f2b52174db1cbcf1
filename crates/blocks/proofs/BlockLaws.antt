-- Blocks of the cells of k chips.
use Rattle.std.proofs.Common.{◌≡◌, ℕ, ◌+◌, ◌*◌, ◌-◌, ◌/◌, ◌%◌, ◌≤◌, ◌<◌, [], List, length, get_or, take, ap, ◌∙◌, arith}
use Rattle.std.proofs.lemmas.List.{get_or-take, length-take-le}
use borrow.Rule.Slice.PartMut.{put_mid}
use borrow.Author.Tests.{ltb-true, ltb-false}
use lib.Dec.{ltb}
use mathlib.Core.Logic.{inl}
use native.Mathlib.Nat.{add-zero, mul-le-mul_left, mod-eq_of_lt, div-eq_of_lt, mul-add-div, mul-add-mod_self_left}
use Rattle.lists.proofs.TestLaws.{by_test}
use Rattle.chips.proofs.PutLaws.{put_length, put_in, put_out}
use Rattle.chips.proofs.ShareLaws.{row_inside}
use Rattle.blocks.specs.Blocks.{BlockOf, ColumnOf}

-- sixteen columns of at most four cells
pub column_fits : (k i : ℕ) (block : List ℕ) → k ≤ 4 → i < 16 → length block ≡ 64 → k * (i + 1) ≤ length block
column_fits k i block few h long = omega (arith, mul-le-mul_left k h)

-- a column more
module _ (k i : ℕ) (rows : List (List ℕ)) (block column : List ℕ) (few : k ≤ 4) (fit : k * (i + 1) ≤ length block) (long : length column ≡ 4) where
  abbrev more : List ℕ
  more = put_mid (k * i) (k * (i + 1) - k * i) block (take k column)

  has : length (take k column) ≡ k * (i + 1) - k * i
  has = length-take-le k column (omega arith) ∙ omega arith

  pub block_length : length more ≡ length block
  block_length = put_length block (take k column) (k * i) (k * (i + 1)) (omega arith) fit has

  pub block_more : BlockOf k i rows block → ColumnOf i rows column → BlockOf k (i + 1) rows more
  block_more b r c j u h =
      by_test (ltb j i)
      (λ t.
      let l : j < i = ltb-true j i t in
      let p : k * j + c < k * i = row_inside k c j i u l in
      put_out block (take k column) (k * i) (k * (i + 1)) (omega arith) fit has (k * j + c) (inl p) ∙ b c j u l)
      (λ t.
      let e : j ≡ i = omega (arith, ltb-false j i t) in
      rw e
      (put_in block (take k column) (k * i) (k * (i + 1)) (omega arith) fit has (k * i + c) (omega arith) (omega arith)
      ∙ ap (λ (x : ℕ). get_or (take k column) x 0) (let z : k * i + c - k * i ≡ c = omega arith in z)
      ∙ get_or-take k column c 0 u ∙ r c (omega arith)))

-- cell j of k rows is that of row j % k, at j / k
pub block_cells : (k size : ℕ) (rows : List (List ℕ)) (block : List ℕ) → 0 < k
    → ((j : ℕ) → j < k * size → get_or block j 0 ≡ get_or (get_or rows (j % k) []) (j / k) 0) → BlockOf k size rows block
block_cells k size rows block some r c i u h =
    let chip : (k * i + c) % k ≡ c = mul-add-mod_self_left k i c ∙ mod-eq_of_lt u in
    let place : (k * i + c) / k ≡ i = mul-add-div some i c ∙ ap (λ (x : ℕ). i + x) (div-eq_of_lt u) ∙ add-zero i in
    r (k * i + c) (row_inside k c i size u h) ∙ (λ t. get_or (get_or rows (chip t) []) (place t) 0)

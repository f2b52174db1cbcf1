-- Cells of a whole and cells of chips: dealing and collecting lists are inverse, for any number of chips.
use mathlib.Core.Path.{◌≡◌, refl, sym, ap, ◌∙◌}
use Prim.Native.Nat.{ℕ, zero, suc, ◌+◌, ◌*◌, ◌/◌, ◌%◌, ◌≤◌, ◌<◌}
use native.Mathlib.Nat.{not-suc-le-zero, le_of_suc-le-suc, add-zero, mod-lt, mod-eq_of_lt, div-add-mod, div-add-mod', div-eq_of_lt, div-lt_iff_lt-mul, le-div_iff_mul-le, mul_comm, mul-add-div, mul-add-mod_self_left, mul-le-mul_left}
use native.Mathlib.Omega.{arith}
use mathlib.Core.Option.{none}
use lib.Dec.{ltb}
use lib.ListN.{length, get_or}
use lib.Seq.{ext_get_or}
use borrow.Author.Tests.{lt-ltb, le-ltb, ltb-true}
use Rattle.lists.proofs.TestLaws.{by_test}
use Rattle.window.specs.Images.{Image}
use Rattle.chips.specs.Shares.{tabulate, share, chip_cells, whole_cells}

-- ---- lists by their elements

pub length_tabulate {ℓ} : {A : Type ℓ} (f : ℕ → A) (n : ℕ) → length (tabulate f n) ≡ n
length_tabulate f zero = refl
length_tabulate f (suc n) = ap suc (length_tabulate (λ i. f (suc i)) n)

pub get_d_tabulate {ℓ} : {A : Type ℓ} (f : ℕ → A) (n i : ℕ) (d : A) → i < n → get_or (tabulate f n) i d ≡ f i
get_d_tabulate f zero i d h = absurd (not-suc-le-zero h)
get_d_tabulate f (suc n) zero d h = refl
get_d_tabulate f (suc n) (suc i) d h = get_d_tabulate (λ j. f (suc j)) n i d (le_of_suc-le-suc h)

-- ---- an index and its chip

-- cell c of row j, among the rows of k chips before row n
pub row_inside : (k c j n : ℕ) → c < k → j < n → k * j + c < k * n
row_inside k c j n h l = omega (arith, mul-le-mul_left k l)

-- n cells are dealt over k chips evenly: index i is that of cell i / k of chip i % k
pub record Even (k n : ℕ) : Type 0 where
  pub some : 0 < k
  pub whole : k * (n / k) ≡ n
  pub chip : (i : ℕ) → i % k < k
  pub joined : (i : ℕ) → k * (i / k) + i % k ≡ i
  pub inside : (i : ℕ) → i < n → i / k < n / k
  pub within : (c j : ℕ) → c < k → j < n / k → k * j + c < n
  pub its_chip : (c j : ℕ) → c < k → (k * j + c) % k ≡ c
  pub its_place : (c j : ℕ) → c < k → (k * j + c) / k ≡ j

pub even : (k n : ℕ) → 0 < k → n % k ≡ 0 → Even k n
even k n h e = record {
  some = h;
  whole = all;
  chip = λ i. mod-lt i h;
  joined = λ i. div-add-mod i k;
  inside = λ i l. (div-lt_iff_lt-mul h).1 (rw all' l);
  within = λ c j u l. rw all at (row_inside k c j (n / k) u l);
  its_chip = λ c j u. mul-add-mod_self_left k j c ∙ mod-eq_of_lt u;
  its_place = λ c j u. mul-add-div h j c ∙ ap (λ (x : ℕ). j + x) (div-eq_of_lt u) ∙ add-zero j;
}
  where
    all : k * (n / k) ≡ n
    all = sym (add-zero (k * (n / k))) ∙ ap (λ (x : ℕ). k * (n / k) + x) (sym e) ∙ div-add-mod n k

    all' : n / k * k ≡ n
    all' = sym (add-zero (n / k * k)) ∙ ap (λ (x : ℕ). n / k * k + x) (sym e) ∙ div-add-mod' n k

-- the row of an index, between those of two rows' first cells
pub row_low : (k a j : ℕ) → 0 < k → k * a ≤ j → a ≤ j / k
row_low k a j h l = (le-div_iff_mul-le h).1 (rw mul_comm l)

pub row_high : (k a j : ℕ) → 0 < k → j < k * a → j / k < a
row_high k a j h l = (div-lt_iff_lt-mul h).1 (rw mul_comm at l)

-- where a row of `size` cells a chip from `at` on ends in the whole
pub row_end : (k n at size : ℕ) → Even k n → at + size ≤ n / k → k * (at + size) ≤ n
row_end k n at size e room = omega (arith, mul-le-mul_left k room, e.whole)

-- a base that is a multiple of k: the address base + i is on the chip of i, i / k behind the chip's base
pub record Aligned (k base : ℕ) : Type 0 where
  pub chip_of : (i : ℕ) → (base + i) % k ≡ i % k
  pub place_of : (i : ℕ) → (base + i) / k ≡ base / k + i / k
  pub back : (A j : ℕ) → A / k ≡ base / k + j → A ≡ base + (k * j + A % k)

pub aligned : (k base : ℕ) → 0 < k → base % k ≡ 0 → Aligned k base
aligned k base h e = record {
  chip_of = λ i. ap (λ (b : ℕ). (b + i) % k) (sym all) ∙ mul-add-mod_self_left k (base / k) i;
  place_of = λ i. ap (λ (b : ℕ). (b + i) / k) (sym all) ∙ mul-add-div h (base / k) i;
  back = λ A j q.
      let p : k * (A / k) ≡ k * (base / k + j) = ap (λ (x : ℕ). k * x) q in
      let d : k * (A / k) + A % k ≡ A = div-add-mod A k in
      omega (arith, p, d, all);
}
  where
    all : k * (base / k) ≡ base
    all = (even k base h e).whole

-- ---- shares

-- a chip among the k has its share, any other none
pub share_in : (k c n : ℕ) → c < k → share k c n ≡ n / k
unfolding share
share_in k c n h = rw (lt-ltb c k h)

pub share_out : (k c n : ℕ) → k ≤ c → share k c n ≡ 0
unfolding share
share_out k c n h = rw (le-ltb c k h)

pub share_least : (k c n : ℕ) → share k c n ≤ n / k
unfolding share
share_least k c n = by_test (ltb c k) (λ e. rw e (omega arith)) (λ e. rw e (omega arith))

-- a chip with a cell j is one of the k
pub used : (k c n j : ℕ) → j < share k c n → (c < k) × (j < n / k)
unfolding share
used k c n j h = by_test (ltb c k) (λ e. (ltb-true c k e, rw e at h)) (λ e. absurd (not-suc-le-zero (rw e at h)))

module _ (k : ℕ) where
  pub length_chip : (c : ℕ) (whole : Image) → length (chip_cells k c whole) ≡ share k c (length whole)
  unfolding chip_cells
  length_chip c whole = length_tabulate (λ i. get_or whole (k * i + c) none) (share k c (length whole))

  pub length_whole : (n : ℕ) (chips : ℕ → Image) → length (whole_cells k n chips) ≡ n
  unfolding whole_cells
  length_whole n chips = length_tabulate (λ i. get_or (chips (i % k)) (i / k) none) n

  -- cell j of chip c is cell k j + c of the whole
  pub chip_cell : (c j : ℕ) (whole : Image) → j < share k c (length whole) → get_or (chip_cells k c whole) j none ≡ get_or whole (k * j + c) none
  unfolding chip_cells
  chip_cell c j whole h = get_d_tabulate (λ i. get_or whole (k * i + c) none) (share k c (length whole)) j none h

  -- cell i of the whole is cell i / k of chip i % k
  pub whole_cell : (n i : ℕ) (chips : ℕ → Image) → i < n → get_or (whole_cells k n chips) i none ≡ get_or (chips (i % k)) (i / k) none
  unfolding whole_cells
  whole_cell n i chips h = get_d_tabulate (λ j. get_or (chips (j % k)) (j / k) none) n i none h

  -- collecting what was dealt
  pub whole_of_chips : (whole : Image) → Even k (length whole) → whole_cells k (length whole) (λ c. chip_cells k c whole) ≡ whole
  whole_of_chips whole e =
      let n = length whole in
      let chips : ℕ → Image = λ c. chip_cells k c whole in
      ext_get_or none (whole_cells k n chips) whole (length_whole n chips)
      (λ i h. let l : i < n = rw (length_whole n chips) at h in
      whole_cell n i chips l ∙ chip_cell (i % k) (i / k) whole (rw (share_in k (i % k) n (e.chip i)) (e.inside i l))
      ∙ ap (λ (m : ℕ). get_or whole m none) (e.joined i))

  -- dealing what was collected, for a chip with its share of cells
  pub chip_of_whole : (n c : ℕ) (chips : ℕ → Image) → Even k n → length (chips c) ≡ share k c n → chip_cells k c (whole_cells k n chips) ≡ chips c
  chip_of_whole n c chips e s =
      let w : Image = whole_cells k n chips in
      let len : length (chip_cells k c w) ≡ share k c n = length_chip c w ∙ ap (share k c) (length_whole n chips) in
      ext_get_or none (chip_cells k c w) (chips c) (len ∙ sym s)
      (λ j h.
      let l : j < share k c n = rw len at h in
      let u : (c < k) × (j < n / k) = used k c n j l in
      chip_cell c j w (rw (length_whole n chips) l) ∙ whole_cell n (k * j + c) chips (e.within c j u.0 u.1)
      ∙ (λ t. get_or (chips (e.its_chip c j u.0 t)) (e.its_place c j u.0 t) none))

  -- only the k chips matter to a whole
  pub whole_same : (n : ℕ) (chips chips' : ℕ → Image) → 0 < k → ((c : ℕ) → c < k → chips c ≡ chips' c) → whole_cells k n chips ≡ whole_cells k n chips'
  whole_same n chips chips' e q =
      ext_get_or none (whole_cells k n chips) (whole_cells k n chips') (length_whole n chips ∙ sym (length_whole n chips'))
      (λ i h.
      let l : i < n = rw (length_whole n chips) at h in
      whole_cell n i chips l ∙ ap (λ (x : Image). get_or x (i / k) none) (q (i % k) (mod-lt i e)) ∙ sym (whole_cell n i chips' l))

-- Rows 12 and 13 over marks in a form: one law for each way out of `claim`.
use mathlib.Core.Path.{◌≡◌, refl, sym, ap, ◌∙◌}
use Prim.Native.Nat.{ℕ, ◌+◌, ◌-◌, ◌≤◌, ◌<◌}
use native.Mathlib.Omega.{arith}
use mathlib.Core.Bool.{true, false}
use mathlib.Core.List.{List}
use lib.Dec.{eqb}
use lib.ListN.{length, take, drop, replicate}
use Rattle.lists.specs.Lists.{over}
use Rattle.lists.proofs.TestLaws.{by_test}
use Rattle.window.specs.Marks.{is_free, claim_row, claimed}
use Rattle.window.proofs.MarkLaws.{claimed_length}
use Rattle.window.proofs.MarkLaws as marks
use Rattle.bits.specs.Bits.{bits, pack}
use Rattle.bits.proofs.PackLaws.{Binary, binary_bits, binary_replicate, binary_over, bits_pack}
use Rattle.marks.specs.declared.Form.{Form}
use Rattle.marks.specs.declared.Form.TheVariants.{Bytes, Packed}
use Rattle.marks.specs.Forms.{flags, stored, Tidy}
use Rattle.claims.specs.declared.Clash.{Clash}
use Rattle.claims.specs.declared.Clash.TheVariants.{Outside, Marked}
use Rattle.claims.specs.Answers.{row_of}

-- what `claim` answers, and the marks that it leaves
abbrev pub Claimed : Form → ℕ → List ℕ → ℕ → ℕ → ℕ → ℕ → List ℕ → Type 0
Claimed form n ms base a count row ms' = record {
  answer : row ≡ claim_row base (flags form n ms) a count;
  marks : ms' ≡ stored form (claimed base (flags form n ms) a count);
}

module _ (form : Form) (n : ℕ) (ms : List ℕ) (t : Tidy form n ms) (base a count : ℕ) where
  -- what the marks say of each cell
  abbrev own : List ℕ
  own = flags form n ms

  -- the marks stay
  kept : (row : ℕ) → (row ≡ claim_row base own a count) × (own ≡ claimed base own a count) → Claimed form n ms base a count row ms
  kept row p = record { answer = p.0; marks = t.1 ∙ ap (stored form) p.1 }

  -- a claim of no cells is granted
  pub no_cells : count ≡ 0 → Claimed form n ms base a count 0 ms
  no_cells e = kept 0 (marks.claim_none base own a count e)

  -- row 12: the address is below the base
  pub row_12_low : (count ≡ 0 → ⊥) → a < base → Claimed form n ms base a count 12 ms
  row_12_low z l = kept 12 (marks.row_12_low base own a count z l)

  -- row 12: the cells end behind the window
  pub row_12_high : (count ≡ 0 → ⊥) → base ≤ a → base + n < a + count → Claimed form n ms base a count 12 ms
  row_12_high z l h = kept 12 (marks.row_12_high base own a count z l (omega (arith, t.0)))

  -- row 13: one of the cells is marked already
  pub row_13 : (count ≡ 0 → ⊥) → base ≤ a → a + count ≤ base + n → is_free (take count (drop (a - base) own)) ≡ false
      → Claimed form n ms base a count 13 ms
  row_13 z l h f = kept 13 (marks.row_13 base own a count z l (omega (arith, t.0)) f)

  -- no row: the cells are free, and they are marked
  pub granted : (count ≡ 0 → ⊥) → base ≤ a → a + count ≤ base + n → is_free (take count (drop (a - base) own)) ≡ true
      → (ms' : List ℕ) → ms' ≡ stored form (over own (a - base) (replicate count 1)) → Claimed form n ms base a count 0 ms'
  granted z l h f ms' e = let r = marks.claim_free base own a count z l (omega (arith, t.0)) f in record { answer = r.0; marks = e ∙ ap (stored form) r.1 }

-- a clash stands for a row
pub clash_row : (clash : Clash) → row_of clash ≡ 0 → ⊥
clash_row Outside e = omega arith
clash_row Marked e = omega arith

-- ---- marks behind a claim

-- a claim leaves flags that are 0 or 1
pub claimed_binary : (base : ℕ) (fs : List ℕ) (a n : ℕ) → Binary fs → Binary (claimed base fs a n)
unfolding claimed
claimed_binary base fs a n p =
    by_test (eqb (claim_row base fs a n) 0) (λ t. rw t (binary_over fs (a - base) (replicate n 1) p (binary_replicate n 1 (omega arith)))) (λ t. rw t p)

module _ (n : ℕ) (ms : List ℕ) (base a count : ℕ) where
  -- they are read as they were stored
  pub claimed_flags : (form : Form) → Tidy form n ms
      → flags form n (stored form (claimed base (flags form n ms) a count)) ≡ claimed base (flags form n ms) a count
  claimed_flags Bytes t = refl
  claimed_flags Packed t =
      let fs : List ℕ = claimed base (bits ms 0 n) a count in
      ap (λ (k : ℕ). bits (pack fs) 0 k) (sym (claimed_length base (bits ms 0 n) a count ∙ t.0))
      ∙ bits_pack fs (claimed_binary base (bits ms 0 n) a count (binary_bits ms 0 n))

  -- and are tidy
  pub claimed_tidy : (form : Form) → Tidy form n ms → Tidy form n (stored form (claimed base (flags form n ms) a count))
  claimed_tidy form t =
      let e = claimed_flags form t in
      (ap length e ∙ claimed_length base (flags form n ms) a count ∙ t.0, ap (stored form) (sym e))

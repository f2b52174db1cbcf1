-- Rows of at most sixteen cells a chip, collected one behind the other.
use Rattle.std.proofs.Common.{◌≡◌, ℕ, ◌+◌, ◌*◌, ◌-◌, ◌/◌, ◌≤◌, ◌<◌, min, length, ap, ◌∙◌, arith}
use Rattle.chips.specs.Boards.{Buffers, Board}
use Rattle.collect_row.specs.Collecting.{Ready, Collects}
use Rattle.collect_row.proofs.CollectLaws.{ready_even, collects_none, collects_more}

module _ (k : ℕ) (b : Board) (old : Buffers) where
  abbrev cells : ℕ
  cells = length old.memory / k

  pub begun : Collects k b 0 (k * min 0 cells) old old
  begun = let e : k * min 0 cells ≡ 0 = ap (λ (x : ℕ). k * x) (let z : min 0 cells ≡ 0 = omega arith in z) ∙ omega arith in rw e (collects_none k b 0 old)

  module _ (at : ℕ) (now : Buffers) (x : Collects k b 0 (k * min at cells) old now) where
    pub row_more : (size : ℕ) (new : Buffers) → at < cells → size ≡ min (cells - at) 16 → Collects k b (k * at) (k * (at + size)) now new
        → Collects k b 0 (k * min (at + 16) cells) old new
    row_more size new h s y =
        let e : min at cells ≡ at = omega arith in
        let f : min (at + 16) cells ≡ at + size = omega (arith, s) in
        rw f (collects_more k b 0 (k * at) (k * (at + size)) old now new (omega arith) (omega arith) (rw e at x) y)

    pub ended : Ready k old b → cells ≤ at → Collects k b 0 (length old.memory) old now
    ended r h =
        let e : k * min at cells ≡ length old.memory = ap (λ (x : ℕ). k * x) (let z : min at cells ≡ cells = omega arith in z) ∙ (ready_even k old b r).whole in
        rw e at x

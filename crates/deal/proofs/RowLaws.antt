-- Rows of at most sixteen cells a chip, dealt one behind the other.
use Rattle.std.proofs.Common.{◌≡◌, ℕ, ◌+◌, ◌-◌, ◌/◌, ◌≤◌, ◌<◌, min, List, length, arith}
use Rattle.chips.specs.Boards.{Board}
use Rattle.deal_row.specs.Dealing.{Dealt}
use Rattle.deal_row.proofs.DealLaws.{dealt_none, dealt_more}

module _ (k : ℕ) (memory marks : List ℕ) (b : Board) where
  abbrev cells : ℕ
  cells = length memory / k

  pub begun : Dealt k memory marks 0 (min 0 cells) b b
  begun = let e : min 0 cells ≡ 0 = omega arith in rw e (dealt_none k memory marks 0 b)

  module _ (at : ℕ) (d : Board) (x : Dealt k memory marks 0 (min at cells) b d) where
    pub row_more : (size : ℕ) (g : Board) → at < cells → size ≡ min (cells - at) 16 → Dealt k memory marks at (at + size) d g
        → Dealt k memory marks 0 (min (at + 16) cells) b g
    row_more size g h s y =
        let e : min at cells ≡ at = omega arith in
        let f : min (at + 16) cells ≡ at + size = omega (arith, s) in
        rw f (dealt_more k memory marks 0 at (at + size) b d g (omega arith) (omega arith) (rw e at x) y)

    pub ended : cells ≤ at → Dealt k memory marks 0 cells b d
    ended h = let e : min at cells ≡ cells = omega arith in rw e at x

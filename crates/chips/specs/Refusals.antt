-- The refusals of dealing and collecting, in Req 12's order. Req 12 names no record number: it is 0, as in a write. It leaves the refusal
-- of an accepted call free: here it is zeros (window `passes`).
use Rattle.std.specs.Prelude.{ℕ, ◌%◌, Bool, cond, not, ◌&&◌, ◌||◌, List, eqb, length}
use Rattle.window.specs.declared.Refusal.{Refusal}
use Rattle.window.specs.Windows.{Window, row1, first_bad_mark, row16}
use Rattle.window.specs.Plans.{refusal}
use Rattle.chips.specs.Shares.{share}
use Rattle.chips.specs.Boards.{Buffers, Board}

-- "k is not 2 or 4"
unfoldable pub not_two_or_four : ℕ → Bool
not_two_or_four k = not (eqb k 2) && not (eqb k 4)

-- "21 if k is not 2 or 4 or base or length is not a multiple of k"; the length is that of the whole memory
unfoldable pub row21 : ℕ → ℕ → ℕ → Bool
row21 k base size = not_two_or_four k || (not (eqb (base % k) 0) || not (eqb (size % k) 0))

-- "lengths that don't match": of memory and marks one is not as long as it should be
unfoldable pub lengths_differ : ℕ → ℕ → ℕ → Bool
lengths_differ wanted memoryLength marksLength = not (eqb memoryLength wanted) || not (eqb marksLength wanted)

-- the same of chip number `chip` of k, where the whole has n cells; of a chip that is not used it means that a buffer is not empty
abbrev pub chip_lengths_differ : ℕ → ℕ → ℕ → Buffers → Bool
chip_lengths_differ k n chip c = lengths_differ (share k chip n) (length c.memory) (length c.marks)

-- "1 for a window too long or lengths that don't match": row 1 of the whole (its marks and memory differ in length, or base + length
-- passes 2^32), or the lengths of a chip
unfoldable pub row1_chips : ℕ → Window → Board → Bool
row1_chips k W b =
    let n = length W.memory in
    row1 W || (chip_lengths_differ k n 0 b.first || (chip_lengths_differ k n 1 b.second || (chip_lengths_differ k n 2 b.third || chip_lengths_differ k n 3 b.fourth)))

-- 21, then 1; otherwise `next`
unfoldable pub rows21_and1_or : ℕ → Window → Board → Refusal → Refusal
rows21_and1_or k W b next = cond (row21 k W.base (length W.memory)) (refusal 21 0 0) (cond (row1_chips k W b) (refusal 1 0 0) next)

-- "16 for the sending marks (place: the index)"; otherwise `next`
unfoldable pub row16_or : List ℕ → Refusal → Refusal
row16_or marks next = cond (row16 marks) (refusal 16 0 (first_bad_mark marks)) next

-- the refusal of dealing, and its whole answer: the whole's marks are sent, so "lowest chip first" orders nothing here, and the place is
-- the lowest index
unfoldable pub deal_refusal : ℕ → Window → Board → Refusal
deal_refusal k W b = rows21_and1_or k W b (row16_or W.marks (refusal 0 0 0))

-- the refusal of collecting: the chips' marks are sent, "lowest chip first"
unfoldable pub collect_refusal : ℕ → Window → Board → Refusal
collect_refusal k W b =
    rows21_and1_or k W b (row16_or b.first.marks (row16_or b.second.marks (row16_or b.third.marks (row16_or b.fourth.marks (refusal 0 0 0)))))

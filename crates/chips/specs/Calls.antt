-- Dealing and collecting as their caller sees them: the answers, and the receiving buffers afterwards.
use Rattle.std.specs.Prelude.{ℕ, cond, [], length}
use Rattle.window.specs.declared.Refusal.{Refusal}
use Rattle.std.specs.Prelude.{None}
use Rattle.window.specs.Windows.{Window}
use Rattle.window.specs.Images.{Image, image}
use Rattle.window.specs.Headers.{header_of}
use Rattle.chips.specs.declared.Collected.{Collected}
use Rattle.chips.specs.Shares.{chip_cells, whole_cells}
use Rattle.chips.specs.Boards.{Buffers, Board, buffers_of, chip_at, image_of, received}
use Rattle.window.specs.Plans.{passes}
use Rattle.chips.specs.Refusals.{deal_refusal, collect_refusal}

-- receiving buffers after a call with this refusal: with the image where it is accepted, as they were where it is refused ("nothing is
-- changed then"). Sending buffers are lent for reading alone
unfoldable pub buffers_after : Refusal → Buffers → Image → Buffers
buffers_after f c img = cond (passes f) (received c img) c

-- ---- dealing

-- the image that is dealt to a chip
unfoldable pub dealt_image : ℕ → Window → ℕ → Image
dealt_image k W chip = chip_cells k chip (image W.memory W.marks)

-- a chip's buffers after dealing
unfoldable pub dealt_chip : ℕ → Window → Board → ℕ → Buffers
dealt_chip k W b chip = buffers_after (deal_refusal k W b) (chip_at b chip) (dealt_image k W chip)

-- ---- collecting

-- the image of n cells that is collected
unfoldable pub collected_image : ℕ → ℕ → Board → Image
collected_image k n b = whole_cells k n (λ chip. image_of (chip_at b chip))

-- the whole's buffers after collecting
unfoldable pub collected_whole : ℕ → Window → Board → Buffers
collected_whole k W b = buffers_after (collect_refusal k W b) (buffers_of W.memory W.marks) (collected_image k (length W.memory) b)

-- "collecting gives an empty header and an absent entry", a refused one too
abbrev pub collect_answer : ℕ → Window → Board → Collected
collect_answer k W b = record { refusal = collect_refusal k W b; header = header_of []; entry = None }

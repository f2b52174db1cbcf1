-- A merge as its caller sees it: the answer, and the base's memory and marks afterwards.
use Rattle.std.specs.Prelude.{ℕ, cond, List, [], take}
use Rattle.window.specs.declared.Refusal.{Refusal}
use Rattle.window.specs.Entries.{Entry}
use Rattle.std.specs.Prelude.{None}
use Rattle.window.specs.Windows.{Window, window_of}
use Rattle.window.specs.Images.{image, marks_of, overlaid}
use Rattle.window.specs.Headers.{header_of}
use Rattle.overlay.specs.declared.Merged.{Merged}
use Rattle.overlay.specs.Layers.{Content, patched}
use Rattle.window.specs.Plans.{passes}
use Rattle.overlay.specs.Refusals.{merge_refusal}

-- an image in lent buffers, with its header's bytes and its entry
pub record Lent : Type 0 where
  pub memory : List ℕ
  pub marks : List ℕ
  pub header : List ℕ
  pub entry : Entry

-- the buffers, header and entry of one image of a call
abbrev pub lent : List ℕ → List ℕ → List ℕ → Entry → Lent
lent memory marks header entry = record { memory = memory; marks = marks; header = header; entry = entry }

-- the window that these buffers make at a base
abbrev pub window_at : ℕ → Lent → Window
window_at base L = window_of base L.memory L.marks

-- what they say: marked cells, header and entry; the bytes of unmarked cells are not part of it
abbrev pub content_of : Lent → Content
content_of L = record { cells = image L.memory L.marks; header = L.header; entry = L.entry }

-- the refusal of the merge of P into B
abbrev pub refusal_of : ℕ → Lent → Lent → Refusal
refusal_of base B P = merge_refusal (window_at base B) B.header (window_at base P) P.header

-- "a refused merge gives an empty header and an absent entry"
abbrev pub refused_merge : Refusal → Merged
refused_merge f = record { refusal = f; header = header_of []; entry = None }

-- the refusal, and the header and entry of the two images, merged
unfoldable pub merge_answer : ℕ → Lent → Lent → Merged
merge_answer base B P =
    let f = refusal_of base B P in
    let c = patched (content_of B) (content_of P) in
    cond (passes f) (record { refusal = f; header = header_of c.header; entry = c.entry })
    (refused_merge f)

-- "patch cells win, other bytes .. stay"; after a refusal "nothing is changed"
unfoldable pub memory_after : ℕ → Lent → Lent → List ℕ
memory_after base B P =
    cond (passes (refusal_of base B P)) (overlaid B.memory (content_of P).cells) B.memory

-- "other .. marks stay": the marks of the merged image
unfoldable pub marks_after : ℕ → Lent → Lent → List ℕ
marks_after base B P =
    cond (passes (refusal_of base B P)) (marks_of (patched (content_of B) (content_of P)).cells) B.marks

-- what a merge leaves: the base's buffers, and header, up to its length, and entry of the answer
abbrev pub leaves : ℕ → Lent → Lent → Lent
leaves base B P =
    let r = merge_answer base B P in
    lent (memory_after base B P) (marks_after base B P) (take r.header.len r.header.bytes) r.entry

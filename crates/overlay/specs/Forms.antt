-- Looks and merges of images whose marks are stored in a form (Req 08): rows 1 and 16 as the form has them; else "the byte form's answers ..
-- and memory, and marks that unpack to the same".
use Rattle.std.specs.Prelude.{ℕ, ◌-◌, cond, List, length}
use Rattle.window.specs.declared.Refusal.{Refusal}
use Rattle.window.specs.Windows.{Window}
use Rattle.window.specs.Images.{marks_of, overlaid}
use Rattle.window.specs.Headers.{header_of}
use Rattle.marks.specs.declared.Form.{Form}
use Rattle.marks.specs.Forms.{flags, stored, plain}
use Rattle.overlay.specs.declared.Source.{Source}
use Rattle.overlay.specs.declared.Source.TheVariants.{Refused}
use Rattle.overlay.specs.declared.Merged.{Merged}
use Rattle.overlay.specs.Layers.{Content, patched}
use Rattle.window.specs.Plans.{passes}
use Rattle.overlay.specs.Refusals.{look_refusal_in, merge_refusal_in}
use Rattle.overlay.specs.Looks.{source_at, part_of, place_of}
use Rattle.overlay.specs.Merges.{Lent, lent, window_at, content_of, refused_merge}

-- ---- looks, as in Looks with the form's rows, on the flags

unfoldable pub look_source_in : Form → Window → Window → ℕ → Source
look_source_in form B P a =
    cond (passes (look_refusal_in form B P)) (source_at (plain form B) (plain form P) a) (Refused (look_refusal_in form B P))

unfoldable pub look_part_in : Form → Window → Window → ℕ → List ℕ
look_part_in form B P a = part_of (look_source_in form B P a) (plain form B) (plain form P) (a - B.base)

unfoldable pub look_place_in : Form → Window → Window → ℕ → ℕ × ℕ → ℕ × ℕ → ℕ × ℕ
look_place_in form B P a base patch = place_of (look_source_in form B P a) (a - B.base) base patch

-- ---- merges

-- as in Merges, with the form's rows, on the flags: an image in lent buffers with its flags for marks
abbrev pub plain_lent : Form → Lent → Lent
plain_lent form L = lent L.memory (flags form (length L.memory) L.marks) L.header L.entry

-- what the two images say, merged
abbrev pub merged_in : Form → Lent → Lent → Content
merged_in form B P = patched (content_of (plain_lent form B)) (content_of (plain_lent form P))

abbrev pub refusal_in : Form → ℕ → Lent → Lent → Refusal
refusal_in form base B P = merge_refusal_in form (window_at base B) B.header (window_at base P) P.header

unfoldable pub merge_answer_in : Form → ℕ → Lent → Lent → Merged
merge_answer_in form base B P =
    let f = refusal_in form base B P in
    let c = merged_in form B P in
    cond (passes f) (record { refusal = f; header = header_of c.header; entry = c.entry }) (refused_merge f)

unfoldable pub memory_after_in : Form → ℕ → Lent → Lent → List ℕ
memory_after_in form base B P =
    cond (passes (refusal_in form base B P)) (overlaid B.memory (content_of (plain_lent form P)).cells) B.memory

unfoldable pub marks_after_in : Form → ℕ → Lent → Lent → List ℕ
marks_after_in form base B P = cond (passes (refusal_in form base B P)) (stored form (marks_of (merged_in form B P).cells)) B.marks

-- A patch over a base: cells, headers and entries, by one rule.
use Rattle.std.specs.Prelude.{ℕ, Bool, true, false, cond, List, [], ◌∷◌}
use Rattle.std.proofs.Math.Option.{Option, none, some}
use Rattle.window.specs.Entries.{Entry}
use Rattle.window.specs.Images.{Image}
use Rattle.window.specs.Plans.{is_present}

-- Req 07's "patch cells win", "a non-empty patch header and a present patch entry win too": what the patch gives, else the base's
abbrev pub laid : {A : Type 0} → (A → Bool) → A → A → A
laid given base patch = cond (given patch) patch base

-- a cell was given a byte: it is marked
abbrev pub holds : Option ℕ → Bool
holds none = false
holds (some b) = true

-- a header is not empty
abbrev pub non_empty : List ℕ → Bool
non_empty [] = false
non_empty (b ∷ bs) = true

-- "patch cells win", cell by cell. Row 1 makes the lengths equal; where they are not, the cells that only one image has stay
abbrev pub merged : Image → Image → Image
merged [] patch = patch
merged (b ∷ base) [] = b ∷ base
merged (b ∷ base) (p ∷ patch) = laid holds b p ∷ merged base patch

-- all that an image says
pub record Content : Type 0 where
  pub cells : Image
  pub header : List ℕ
  pub entry : Entry

-- a patch merged into a base: the rule for each of the three
unfoldable pub patched : Content → Content → Content
patched B P = record {
  cells = merged B.cells P.cells;
  header = laid non_empty B.header P.header;
  entry = laid is_present B.entry P.entry;
}

-- What looks and merges show, whatever the windows and the address: statements over the definitions that the calls' promises use.
use Rattle.std.specs.Prelude.{◌≡◌, ℕ, zero, suc, ◌+◌, ◌-◌, ◌<◌, Bool, true, false, cond, List, [], ◌∷◌, map, eqb, length, get_or, take, drop}
use Rattle.std.proofs.Math.Option.{none, some}
use Rattle.window.specs.Windows.{Window}
use Rattle.window.specs.Images.{Image}
use Rattle.window.specs.Cells.{Run, cells, flat}
use Rattle.overlay.specs.declared.Source.{Source}
use Rattle.overlay.specs.declared.Source.TheVariants.{Patch, Base, Neither, Refused}
use Rattle.overlay.specs.Layers.{laid, holds, non_empty, merged, patched}
use Rattle.window.specs.Plans.{passes}
use Rattle.overlay.specs.Refusals.{look_refusal}
use Rattle.overlay.specs.Looks.{comes, seen_in, from, memory_of, look_source, look_part}
use Rattle.overlay.specs.Merges.{Lent, content_of, refusal_of, leaves}

-- the merged image of two windows
abbrev pub merging : Window → Window → Image
merging B P = merged (seen_in B) (seen_in P)

-- it is the patch where that is marked, and else the base, cell by cell
abbrev pub CellByCell : Type 0
CellByCell = (base patch : Image) (i : ℕ) → get_or (merged base patch) i none ≡ laid holds (get_or base i none) (get_or patch i none)

-- for images of one length it has that length
abbrev pub AsLong : Type 0
AsLong = (base patch : Image) → length patch ≡ length base → length (merged base patch) ≡ length base

-- what an accepted merge leaves says what the two images say, merged
abbrev pub MergeShows : Type 0
MergeShows = (base : ℕ) (B P : Lent) → passes (refusal_of base B P) ≡ true → content_of (leaves base B P) ≡ patched (content_of B) (content_of P)

-- what it leaves of the cell i: "other bytes and marks stay"
pub record LeftAt (base : ℕ) (B P : Lent) (i : ℕ) : Type 0 where
  pub stays : get_or P.marks i 0 ≡ 0 → (get_or (leaves base B P).memory i 0 ≡ get_or B.memory i 0) × (get_or (leaves base B P).marks i 0 ≡ get_or B.marks i 0)
  pub wins : get_or P.marks i 0 ≡ 1 → (get_or (leaves base B P).memory i 0 ≡ get_or P.memory i 0) × (get_or (leaves base B P).marks i 0 ≡ 1)

abbrev pub MergeLeaves : Type 0
MergeLeaves = (base : ℕ) (B P : Lent) → passes (refusal_of base B P) ≡ true → (i : ℕ) → i < length B.memory → LeftAt base B P i

-- a source that names an image
abbrev pub names : Source → Bool
names Patch = true
names Base = true
names Neither = false
names (Refused f) = false

-- the first cell of two images comes from the image that the source names; there is no cell behind the window
abbrev pub comes_first : Source → Image → Image → Bool
comes_first source [] patch = false
comes_first source (b ∷ base) [] = false
comes_first source (b ∷ base) (p ∷ patch) = comes source b p

-- the same for the cell at an index
abbrev pub comes_at : Source → Window → Window → ℕ → Bool
comes_at source B P i = comes_first source (from i B) (from i P)

-- the source that the marks of a cell give, the base's and the patch's: "the patch where it is marked, else the base"
abbrev pub mark_source : ℕ → ℕ → Source
mark_source x y = cond (eqb y 0) (cond (eqb x 0) Neither Base) Patch

-- the source of every look: a refusal, neither below the window, and else what the marks of the cell say; there is none behind the window
pub record Named (B P : Window) : Type 0 where
  pub refused : passes (look_refusal B P) ≡ false → (a : ℕ) → look_source B P a ≡ Refused (look_refusal B P)
  pub below : passes (look_refusal B P) ≡ true → (a : ℕ) → a < B.base → look_source B P a ≡ Neither
  pub above : passes (look_refusal B P) ≡ true → (i : ℕ) → look_source B P (B.base + i) ≡ mark_source (get_or B.marks i 0) (get_or P.marks i 0)

abbrev pub EverySource : Type 0
EverySource = (B P : Window) → Named B P

-- the part of a look, without any condition: a refused look and "neither" show an empty part
pub record Shows (B P : Window) (a : ℕ) : Type 0 where
  -- the part is one of the memory that the source names, and is empty exactly where the source names none
  pub own : look_part B P a ≡ take (length (look_part B P a)) (drop (a - B.base) (memory_of (look_source B P a) B P))
  pub filled : non_empty (look_part B P a) ≡ names (look_source B P a)
  -- it holds the merged image's bytes
  pub bytes : map some (look_part B P a) ≡ take (length (look_part B P a)) (drop (a - B.base) (merging B P))
  -- its cells all come from the image that the source names, and the next one does not: it is the longest
  pub all : (j : ℕ) → j < length (look_part B P a) → comes_at (look_source B P a) B P (a - B.base + j) ≡ true
  pub longest : comes_at (look_source B P a) B P (a - B.base + length (look_part B P a)) ≡ false

-- that holds of every look
abbrev pub EveryLook : Type 0
EveryLook = (B P : Window) (a : ℕ) → Shows B P a

-- at most n looks one after the other, the first at the address a: behind a part that is shown, or at the next cell
abbrev pub walk : ℕ → Window → Window → ℕ → List Run
walk zero B P a = []
walk (suc n) B P a =
    let part = look_part B P a in
    cond (non_empty part) (record { addr = a; bytes = part } ∷ walk n B P (a + length part)) (walk n B P (suc a))

-- each run is what the look at its address shows
abbrev pub Looks : Window → Window → List Run → Type 0
Looks B P [] = Unit {0}
Looks B P (r ∷ rs) = (r.bytes ≡ look_part B P r.addr) × Looks B P rs

-- of two runs that follow one another and touch, the second comes from another image
abbrev pub Parted : Window → Window → List Run → Type 0
Parted B P [] = Unit {0}
Parted B P (r ∷ []) = Unit {0}
Parted B P (r ∷ s ∷ rs) =
    (r.addr + length r.bytes ≡ s.addr → look_source B P r.addr ≡ look_source B P s.addr → ⊥) × Parted B P (s ∷ rs)

-- the looks from the window's start to its end give exactly the merged image's runs: they have its cells, each is all from one
-- image (Every-look), and none goes on in the next one
pub record Whole (B P : Window) : Type 0 where
  pub cells_are : flat (walk (length B.memory) B P B.base) ≡ cells B.base (merging B P)
  pub looks : Looks B P (walk (length B.memory) B P B.base)
  pub parted : Parted B P (walk (length B.memory) B P B.base)

abbrev pub WholeWalk : Type 0
WholeWalk = (B P : Window) → passes (look_refusal B P) ≡ true → Whole B P

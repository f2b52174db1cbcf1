-- The look at an address: which image shows its cell, and the longest run from there on that comes from that image.
use Rattle.std.specs.Prelude.{ℕ, suc, ◌+◌, ◌-◌, Bool, false, cond, not, ◌&&◌, List, [], ◌∷◌, ltb, take, drop}
use Rattle.std.proofs.Math.Option.{Option}
use Rattle.window.specs.Windows.{Window}
use Rattle.window.specs.Images.{Image, image}
use Rattle.overlay.specs.declared.Source.{Source}
use Rattle.overlay.specs.declared.Source.TheVariants.{Patch, Base, Neither, Refused}
use Rattle.overlay.specs.Layers.{holds}
use Rattle.window.specs.Plans.{passes}
use Rattle.overlay.specs.Refusals.{look_refusal}

-- a cell, b of the base and p of the patch, comes from the image that the source names: Req 07's "the patch where it is marked, else the base"
abbrev pub comes : Source → Option ℕ → Option ℕ → Bool
comes Patch b p = holds p
comes Base b p = not (holds p) && holds b
comes Neither b p = false
comes (Refused f) b p = false

-- the source for the first cell of two images; behind their end it is "neither"
abbrev pub source_of : Image → Image → Source
source_of [] patch = Neither
source_of (b ∷ base) [] = Neither
source_of (b ∷ base) (p ∷ patch) = cond (comes Patch b p) Patch (cond (comes Base b p) Base Neither)

-- how many first cells come from the image that the source names: the length of Req 07's "longest run starting there whose cells all
-- come from the same image"
abbrev pub extent : Source → Image → Image → ℕ
extent source [] patch = 0
extent source (b ∷ base) [] = 0
extent source (b ∷ base) (p ∷ patch) = cond (comes source b p) (suc (extent source base patch)) 0

-- the image that a window shows
abbrev pub seen_in : Window → Image
seen_in W = image W.memory W.marks

-- that image from an index on
abbrev pub from : ℕ → Window → Image
from i W = drop i (seen_in W)

-- the source of an accepted look at the address a: "an address that neither holds, or outside the window" has the word neither. Both
-- windows of a call have one base
unfoldable pub source_at : Window → Window → ℕ → Source
source_at B P a = cond (ltb a B.base) Neither (source_of (from (a - B.base) B) (from (a - B.base) P))

-- "a refused look shows .. with the number as its word"
unfoldable pub look_source : Window → Window → ℕ → Source
look_source B P a = cond (passes (look_refusal B P)) (source_at B P a) (Refused (look_refusal B P))

-- the memory of the image that a source names; where it names none, that of the base
abbrev pub memory_of : Source → Window → Window → List ℕ
memory_of Patch B P = P.memory
memory_of Base B P = B.memory
memory_of Neither B P = B.memory
memory_of (Refused f) B P = B.memory

-- "as a part of that image's own lent memory": the run from the index i on; for "neither" and a refusal it is empty
unfoldable pub part_of : Source → Window → Window → ℕ → List ℕ
part_of source B P i = take (extent source (from i B) (from i P)) (drop i (memory_of source B P))

-- what a look at the address a shows
unfoldable pub look_part : Window → Window → ℕ → List ℕ
look_part B P a = part_of (look_source B P a) B P (a - B.base)

-- the element n places behind a pointer, in the same slice
abbrev pub behind : ℕ × ℕ → ℕ → ℕ × ℕ
behind p n = (p.0, p.1 + n)

-- in whose memory a part lies, and where: the base's memory and the patch's begin at these pointers. Req 07 leaves free where in
-- the base an empty part lies: callers rely on the base alone; here it is the start
abbrev pub place_of : Source → ℕ → ℕ × ℕ → ℕ × ℕ → ℕ × ℕ
place_of Patch i base patch = behind patch i
place_of Base i base patch = behind base i
place_of Neither i base patch = base
place_of (Refused f) i base patch = base

-- where the part of a look at the address a lies
unfoldable pub look_place : Window → Window → ℕ → ℕ × ℕ → ℕ × ℕ → ℕ × ℕ
look_place B P a base patch = place_of (look_source B P a) (a - B.base) base patch

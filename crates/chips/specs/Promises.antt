-- What functions promise to each other.
use Rattle.std.specs.Prelude.{◌≡◌, ℕ, ◌+◌, ◌^◌, ◌≤◌, ◌<◌, Bool, cond, not, ◌||◌, false, List, [], ◌∷◌, ◌⊎◌, Result, Ok, Err, eqb, ltb, length, get_or, take}
use Rattle.window.specs.declared.Refusal.{Refusal}
use Rattle.window.specs.Plans.{refusal}
use Rattle.window.specs.Windows.{first_bad_mark, row16}
use Rattle.window.specs.Images.{image, overlaid}
use Rattle.chips.specs.declared.Fault.{Fault}
use Rattle.chips.specs.declared.Fault.TheVariants.{Uneven, Mark}
use Rattle.chips.specs.declared.Lengths.{Lengths}
use Rattle.chips.specs.Shares.{share}
use Rattle.chips.specs.Boards.{Buffers}
use Rattle.chips.specs.Refusals.{row21, lengths_differ}

-- two chips or four
abbrev pub Count : ℕ → Type 0
Count k = (k ≡ 2) ⊎ (k ≡ 4)

-- the refusal of a fault
abbrev pub refusal_of : Fault → Refusal
refusal_of Uneven = refusal 21 0 0
refusal_of Fault.Lengths = refusal 1 0 0
refusal_of (Mark place) = refusal 16 0 place

-- what is answered behind a check: its fault's refusal, or else `next`
abbrev pub told : Refusal → Result (Unit {0}) Fault → Refusal
told next (Ok u) = next
told next (Err fault) = refusal_of fault

-- the lengths of buffers
abbrev pub lengths_of : List ℕ → List ℕ → Lengths
lengths_of memory marks = record { memory = length memory; marks = length marks }

-- the lengths of one of these chips differ from its share of n cells; the first has number `chip`
abbrev pub misfits : ℕ → ℕ → ℕ → List Lengths → Bool
misfits k n chip [] = false
misfits k n chip (l ∷ ls) = lengths_differ (share k chip n) l.memory l.marks || misfits k n (chip + 1) ls

-- row 1 by the lengths of the whole and of the chips
unfoldable pub unfit : ℕ → ℕ → Lengths → List Lengths → Bool
unfit k base whole chips = not (eqb whole.marks whole.memory) || ltb (2 ^ 32) (base + whole.memory) || misfits k whole.memory 0 chips

-- rows 21 and 1
unfoldable pub lengths_checked : ℕ → ℕ → Lengths → List Lengths → Result (Unit {0}) Fault
lengths_checked k base whole chips = cond (row21 k base whole.memory) (Err Uneven) (cond (unfit k base whole chips) (Err Fault.Lengths) (Ok tt))

-- row 16 of some marks
unfoldable pub marks_checked : List ℕ → Result (Unit {0}) Fault
marks_checked marks = cond (row16 marks) (Err (Mark (first_bad_mark marks))) (Ok tt)

-- a byte that receives: the new one where it is marked, else the old
unfoldable pub chosen : ℕ → ℕ → ℕ → ℕ
chosen flag new old = cond (eqb flag 0) old new

-- the first n elements of a list are those that a function gives
abbrev pub Filled : (ℕ → ℕ) → ℕ → List ℕ → Type 0
Filled f n xs = (i : ℕ) → i < n → get_or xs i 0 ≡ f i

-- cells and flags for the part of buffers that is lent: at most 64 of them, the flags 0 or 1
pub record Receivable (memory marks cells flags : List ℕ) : Type 0 where
  pub few : length memory ≤ 64
  pub cells_long : length memory ≤ length cells
  pub flags_long : length memory ≤ length flags
  pub same : length marks ≡ length memory
  pub clean : row16 (take (length memory) flags) ≡ false

-- a part that has received cells: all marks are written, and the bytes of unmarked cells stay
abbrev pub Received : List ℕ → List ℕ → List ℕ → List ℕ → List ℕ → Type 0
Received memory cells flags memory' marks' =
    let n = length memory in
    (memory' ≡ overlaid memory (image (take n cells) (take n flags))) × (marks' ≡ take n flags)

-- the cells from `from` to below `to` have received cell j from bytes and flags that functions of j give; all others are as they were
pub record Renewed (byte flag : ℕ → ℕ) (from to : ℕ) (old new : Buffers) : Type 0 where
  pub memory_long : length new.memory ≡ length old.memory
  pub marks_long : length new.marks ≡ length old.marks
  pub memory_in : (j : ℕ) → from ≤ j → j < to → j < length old.memory → get_or new.memory j 0 ≡ chosen (flag j) (byte j) (get_or old.memory j 0)
  pub marks_in : (j : ℕ) → from ≤ j → j < to → j < length old.marks → get_or new.marks j 0 ≡ flag j
  pub memory_out : (j : ℕ) → (j < from) ⊎ (to ≤ j) → get_or new.memory j 0 ≡ get_or old.memory j 0
  pub marks_out : (j : ℕ) → (j < from) ⊎ (to ≤ j) → get_or new.marks j 0 ≡ get_or old.marks j 0

-- The refusals of a look and of a merge, in Req 07's order. Req 07 names no record number, and a place for row 16 alone: the others
-- are 0, as in a write. It leaves the refusal of an accepted call free: here it is zeros, and a reason of 0 is no refusal.
use Rattle.std.specs.Prelude.{ℕ, Bool, false, cond, not, ◌||◌, List, eqb, length}
use Rattle.window.specs.declared.Refusal.{Refusal}
use Rattle.window.specs.Windows.{Window, row1}
use Rattle.window.specs.Headers.{row15}
use Rattle.window.specs.Plans.{refusal}
use Rattle.marks.specs.declared.Form.{Form}
use Rattle.marks.specs.declared.Form.TheVariants.{Bytes}
use Rattle.std.specs.Prelude.{Option}
use Rattle.std.specs.Prelude.{Some, None}
use Rattle.marks.specs.Forms.{row1_in, bad_mark}

-- "1 when any two lengths differ or the window is too long": row 1 of either window, or two memories of different lengths
unfoldable pub row1_both : Window → Window → Bool
row1_both B P = row1 B || (row1 P || not (eqb (length B.memory) (length P.memory)))

-- the same for marks in a form: Req 08's "1 when the packed length is not cells / 8 rounded up", of either image
unfoldable pub row1_both_in : Form → Window → Window → Bool
row1_both_in form B P = row1_in form B || (row1_in form P || not (eqb (length B.memory) (length P.memory)))

-- row 16 for the marks of a window, with the place of the first bad one; of packed marks Req 08's "exactly for a spare bit that is set"
abbrev pub bad_of : Form → Window → Option ℕ
bad_of form W = bad_mark form (length W.memory) W.marks

abbrev pub bad_in : Window → Option ℕ
bad_in W = bad_of Bytes W

-- 16 at a bad mark, else what comes behind it
abbrev pub row16_or : Option ℕ → Refusal → Refusal
row16_or (Some place) f = refusal 16 0 place
row16_or None f = f

-- "1 .., then 15 .., then 16 (base marks first; place: the index)"
unfoldable pub first_row : Bool → Bool → Option ℕ → Option ℕ → Refusal
first_row unfit long base patch =
    cond unfit (refusal 1 0 0) (cond long (refusal 15 0 0) (row16_or base (row16_or patch (refusal 0 0 0))))

-- a look has no headers
unfoldable pub look_refusal : Window → Window → Refusal
look_refusal B P = first_row (row1_both B P) false (bad_in B) (bad_in P)

-- "15 for either header (merge only)"
unfoldable pub merge_refusal : Window → List ℕ → Window → List ℕ → Refusal
merge_refusal B header P patchHeader = first_row (row1_both B P) (row15 header || row15 patchHeader) (bad_in B) (bad_in P)

-- both for marks in a form; a spare bit of either image has the same place, the memory's length
unfoldable pub look_refusal_in : Form → Window → Window → Refusal
look_refusal_in form B P = first_row (row1_both_in form B P) false (bad_of form B) (bad_of form P)

unfoldable pub merge_refusal_in : Form → Window → List ℕ → Window → List ℕ → Refusal
merge_refusal_in form B header P patchHeader = first_row (row1_both_in form B P) (row15 header || row15 patchHeader) (bad_of form B) (bad_of form P)

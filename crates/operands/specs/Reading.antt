-- The text form of an expression: which texts are one, and of which tree (Req 13, row 25). Places count from 0.
-- Past the end of a text `get_or` gives 0, which stands in no expression.
use Rattle.std.specs.Prelude.{ℕ, zero, suc, ◌+◌, Bool, cond, ◌||◌, List, ltb, eqb, length, get_or, take, drop}
use Rattle.std.proofs.Math.Option.{Option, none, some}
use Rattle.lists.specs.Characters.{char}
use Rattle.hex_digits.specs.Digits.{is_hex}
use Rattle.words.specs.Words.{is_letter, counted, number_in, is_alnum}
use Rattle.operands.specs.Trees.{Tree, operation}
use Rattle.operands.specs.Trees.Tree.{number, name}

-- what stands at a place: a tree, with the place behind it, or nothing of the form
pub data Read : Type 0 where
  tree : Tree → ℕ → Read
  bad : Read

-- how many hex digits stand there, one after the other
unfoldable pub digits_at : List ℕ → ℕ → ℕ
digits_at s at = counted is_hex (drop at s)

-- a number behind its `$`: "1 to 8 hex digits", as many as there are
unfoldable pub number_at : List ℕ → ℕ → Read
number_at s at =
    cond (eqb (digits_at s at) 0) bad
    (cond (ltb 8 (digits_at s at)) bad (tree (number (number_in (take (digits_at s at) (drop at s)))) (at + digits_at s at)))

-- how many letters and digits stand there, one after the other
unfoldable pub word_at : List ℕ → ℕ → ℕ
word_at s at = counted is_alnum (drop at s)

-- a name where a letter stands, as `term_by` sees to: at most 16 letters and digits, as many as there are
unfoldable pub name_at : List ℕ → ℕ → Read
name_at s at = cond (ltb 16 (word_at s at)) bad (tree (name (take (word_at s at) (drop at s))) (at + word_at s at))

-- an expression in brackets is followed by the closing one
unfoldable pub closed_at : List ℕ → Read → Read
closed_at s (tree t at) = cond (eqb (get_or s at 0) (char ")")) (tree t (at + 1)) bad
closed_at s bad = bad

-- a term: `$` and digits, `(` and what `inner` reads, or a letter and what a name has besides
unfoldable pub term_by : (ℕ → Read) → List ℕ → ℕ → Read
term_by inner s at =
    cond (eqb (get_or s at 0) (char "$")) (number_at s (at + 1))
    (cond (eqb (get_or s at 0) (char "(")) (closed_at s (inner (at + 1))) (cond (is_letter (get_or s at 0)) (name_at s at) bad))

-- `+` or `-`
unfoldable pub is_sign : ℕ → Bool
is_sign c = eqb c (char "+") || eqb c (char "-")

-- the tree so far, a sign, and the term behind it
abbrev pub combined : ℕ → Tree → Read → Read
combined sign a (tree b at) = tree (operation sign a b) at
combined sign a bad = bad

-- where a sign stands behind the tree so far, a term more, and then what k says; otherwise nothing more
unfoldable pub next_by : (Read → Read) → (ℕ → Read) → List ℕ → Tree → ℕ → Read
next_by k term s t at = cond (is_sign (get_or s at 0)) (k (combined (get_or s at 0) t (term (at + 1)))) (tree t at)

-- "added and subtracted from the left": what was read so far, and at most n signs with their terms
unfoldable pub more_by : (ℕ → Read) → List ℕ → ℕ → Read → Read
more_by term s zero r = r
more_by term s (suc n) (tree t at) = next_by (more_by term s n) term s t at
more_by term s (suc n) bad = bad

-- a sum; a text has no more signs than characters
unfoldable pub sum_by : (ℕ → Read) → List ℕ → ℕ → Read
sum_by inner s at = more_by (term_by inner s) s (length s) (term_by inner s at)

-- a sum with at most n brackets open at once
unfoldable pub sum_at : ℕ → List ℕ → ℕ → Read
sum_at zero s at = sum_by (λ i. bad) s at
sum_at (suc n) s at = sum_by (sum_at n s) s at

-- what may stand in brackets, where n more may be opened
unfoldable pub inner_at : ℕ → List ℕ → ℕ → Read
inner_at zero s at = bad
inner_at (suc n) s at = sum_at n s at

-- a term, where n more brackets may be opened
unfoldable pub term_at : ℕ → List ℕ → ℕ → Read
term_at n s at = term_by (inner_at n s) s at

-- what was read, if it is the whole text
abbrev pub whole : List ℕ → Read → Option Tree
whole s (tree t at) = cond (eqb at (length s)) (some t) none
whole s bad = none

-- "32 deep at most": the expression that a text is, if it is one
unfoldable pub expression : List ℕ → Option Tree
expression s = whole s (sum_at 32 s 0)

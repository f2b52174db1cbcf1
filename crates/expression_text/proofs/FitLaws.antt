-- Trees that can be printed: their leaves have a form, and n brackets are enough.
use mathlib.Core.Path.{◌≡◌, refl, sym, subst}
use Prim.Native.Nat.{ℕ, suc, ◌^◌, ◌<◌}
use mathlib.Core.Bool.{true}
use Rattle.words.specs.Words.{is_name}
use Rattle.operands.specs.Trees.{Tree}
use Rattle.operands.specs.Trees.Tree.{number, name, plus, minus}

-- one bracket is opened around what fits into the others
abbrev pub Open : ℕ → (ℕ → Type 0) → Type 0
Open n F = (m : ℕ) × (n ≡ suc m) × F m

-- a right side: a leaf, or in brackets
abbrev pub Aside : ℕ → Tree → (ℕ → Type 0) → Type 0
Aside n (number v) F = F n
Aside n (name x) F = F n
Aside n (plus a b) F = Open n F
Aside n (minus a b) F = Open n F

-- at most n brackets are open at once where the tree is printed
abbrev pub Fit : ℕ → Tree → Type 0
Fit n (number v) = v < 2 ^ 32
Fit n (name x) = is_name x ≡ true
Fit n (plus a b) = Fit n a × Aside n b (λ m. Fit m b)
Fit n (minus a b) = Fit n a × Aside n b (λ m. Fit m b)

-- a tree that fits as a right side
abbrev pub Beside : ℕ → Tree → Type 0
Beside n t = Aside n t (λ m. Fit m t)

-- with one bracket more a right side fits
side_more : (t : Tree) (n : ℕ) → ((m : ℕ) → Fit m t → Fit (suc m) t) → Beside n t → Beside (suc n) t
side_more (number v) n f h = h
side_more (name x) n f h = h
side_more (plus a b) n f h = (n, refl, subst (λ (m : ℕ). Fit m (plus a b)) (sym h.1) (f h.0 h.2))
side_more (minus a b) n f h = (n, refl, subst (λ (m : ℕ). Fit m (minus a b)) (sym h.1) (f h.0 h.2))

-- and so does any tree
fit_more : (t : Tree) (n : ℕ) → Fit n t → Fit (suc n) t
fit_more (number v) n h = h
fit_more (name x) n h = h
fit_more (plus a b) n h = (fit_more a n h.0, side_more b n (fit_more b) h.1)
fit_more (minus a b) n h = (fit_more a n h.0, side_more b n (fit_more b) h.1)

-- what fits in brackets is a right side, where one more may be opened
pub in_brackets : (t : Tree) (n : ℕ) → Fit n t → Beside (suc n) t
in_brackets (number v) n h = h
in_brackets (name x) n h = h
in_brackets (plus a b) n h = (n, refl, h)
in_brackets (minus a b) n h = (n, refl, h)

-- a right side fits without its brackets
pub no_brackets : (t : Tree) (n : ℕ) → Beside n t → Fit n t
no_brackets (number v) n h = h
no_brackets (name x) n h = h
no_brackets (plus a b) n h = subst (λ (m : ℕ). Fit m (plus a b)) (sym h.1) (fit_more (plus a b) h.0 h.2)
no_brackets (minus a b) n h = subst (λ (m : ℕ). Fit m (minus a b)) (sym h.1) (fit_more (minus a b) h.0 h.2)

-- The normal form of a tree that fits is read as that tree.
use mathlib.Core.Path.{◌≡◌, refl, sym, ap, ◌∙◌}
use Prim.Native.Nat.{ℕ, suc, ◌+◌, ◌-◌, ◌≤◌}
use native.Mathlib.Nat.{zero-add}
use native.Mathlib.Omega.{arith}
use mathlib.Core.Bool.{true, false}
use mathlib.Core.List.{List, [], ◌∷◌, ◌++◌, append_assoc, append-nil}
use mathlib.Core.Option.{some}
use borrow.Author.Tests.{eq-eqb}
use lib.ListN.{length, get_or, drop, length-append}
use Rattle.lists.specs.Characters.{char, codes}
use Rattle.hex_digits.specs.Digits.{between, is_hex}
use Rattle.words.specs.Words.{is_letter, is_alnum, counted}
use Rattle.operands.specs.Trees.{Tree, operation}
use Rattle.operands.specs.Trees.Tree.{number, name, plus, minus}
use Rattle.operands.specs.Reading.{Read, closed_at, term_by, is_sign, next_by, more_by, sum_at, inner_at, term_at, expression}
use Rattle.operands.specs.Reading.Read.{tree}
use Rattle.expressions.proofs.ReadLaws.{sum_is, more_end}
use Rattle.expression_text.specs.Printing.{side, printed}
use Rattle.expression_text.proofs.TextLaws.{first_at, behind, part_fits}
use Rattle.expression_text.proofs.LeafLaws.{Stops, number_back, name_back}
use Rattle.expression_text.proofs.FitLaws.{Open, Fit, Beside}

-- ---- what follows a part

-- nothing
stops_end : Stops []
unfolding counted
stops_end = record { digits = refl; letters = refl }

-- a plus
stops_plus : (q : List ℕ) → Stops (char "+" ∷ q)
unfolding counted is_hex is_alnum is_letter between
stops_plus q = record { digits = refl; letters = refl }

-- a minus
stops_minus : (q : List ℕ) → Stops (char "-" ∷ q)
unfolding counted is_hex is_alnum is_letter between
stops_minus q = record { digits = refl; letters = refl }

-- a closing bracket
stops_close : (q : List ℕ) → Stops (char ")" ∷ q)
unfolding counted is_hex is_alnum is_letter between
stops_close q = record { digits = refl; letters = refl }

-- ---- how a printed tree is read

-- the signs outside of brackets
abbrev signs : Tree → ℕ
signs (number v) = 0
signs (name x) = 0
signs (plus a b) = suc (signs a)
signs (minus a b) = suc (signs a)

-- each stands in the text
signs_fit : (t : Tree) → signs t ≤ length (printed t)
signs_fit (number v) = omega arith
signs_fit (name x) = omega arith
signs_fit (plus a b) = omega (arith, signs_fit a, length-append (printed a) (char "+" ∷ side b (printed b)))
signs_fit (minus a b) = omega (arith, signs_fit a, length-append (printed a) (char "-" ∷ side b (printed b)))

-- where the part x stands, t is read as a term
abbrev Term : ℕ → Tree → List ℕ → Type 0
Term n t x = (s : List ℕ) (at : ℕ) (q : List ℕ) → Stops q → drop at s ≡ x ++ q → term_at n s at ≡ tree t (at + length x)

-- where t is printed it is read as a sum, and then k more signs at most
abbrev Sum : ℕ → Tree → Type 0
Sum n t = (s : List ℕ) (at : ℕ) (q : List ℕ) → Stops q → drop at s ≡ printed t ++ q
    → (k : ℕ) → more_by (term_at n s) s (signs t + k) (term_at n s at) ≡ more_by (term_at n s) s k (tree t (at + length (printed t)))

-- a sum that no sign follows is read whole
whole_sum : (n : ℕ) (t : Tree) → Sum n t → (s : List ℕ) (at : ℕ) (q : List ℕ) → Stops q → is_sign (get_or q 0 0) ≡ false → drop at s ≡ printed t ++ q
    → sum_at n s at ≡ tree t (at + length (printed t))
whole_sum n t h s at q z g e =
    let l : length s ≡ signs t + (length s - signs t) = omega (arith, signs_fit t, part_fits s at (printed t) q e) in
    sym (sum_is n s at)
    ∙ ap (λ (k : ℕ). more_by (term_at n s) s k (term_at n s at)) l
    ∙ h s at q z e (length s - signs t)
    ∙ more_end (term_at n s) s (length s - signs t) t (at + length (printed t)) (ap is_sign (first_at s (at + length (printed t)) q (behind s at (printed t) q e)) ∙ g)

-- a sum in brackets is a term
bracketed : (n : ℕ) (t : Tree) → Open n (λ m. Sum m t) → Term n t (char "(" ∷ printed t ++ codes ")")
unfolding term_at term_by inner_at closed_at is_sign
bracketed n t h s at q z e =
    let from : drop (at + 1) s ≡ printed t ++ (char ")" ∷ q) = behind s at (char "(" ∷ []) (printed t ++ codes ")" ++ q) e ∙ append_assoc (printed t) (codes ")") q in
    let r : sum_at h.0 s (at + 1) ≡ tree t (at + 1 + length (printed t)) = whole_sum h.0 t h.2 s (at + 1) (char ")" ∷ q) (stops_close q) refl from in
    let c : get_or s (at + 1 + length (printed t)) 0 ≡ char ")" = first_at s (at + 1 + length (printed t)) (char ")" ∷ q) (behind s (at + 1) (printed t) (char ")" ∷ q) from) in
    let l : at + 1 + length (printed t) + 1 ≡ at + suc (length (printed t ++ codes ")")) = omega (arith, length-append (printed t) (codes ")")) in
    rw (h.1, first_at s at (char "(" ∷ printed t ++ codes ")" ++ q) e, r, c, l)

-- the term behind a sign is joined to the tree so far
step : (term : ℕ → Read) (s : List ℕ) (k c : ℕ) (a b : Tree) (i j : ℕ) → get_or s i 0 ≡ c → is_sign c ≡ true → term (i + 1) ≡ tree b j
    → more_by term s (suc k) (tree a i) ≡ more_by term s k (tree (operation c a b) j)
unfolding more_by next_by
step term s k c a b i j f g r = rw (f, g, r)

-- a sum and a term with a sign between
joined : (c : ℕ) → is_sign c ≡ true → ((q : List ℕ) → Stops (c ∷ q)) → (n : ℕ) (a b : Tree) → Sum n a → Term n b (side b (printed b))
    → (s : List ℕ) (at : ℕ) (q : List ℕ) → Stops q → drop at s ≡ printed a ++ c ∷ side b (printed b) ++ q
    → (k : ℕ) → more_by (term_at n s) s (suc (signs a) + k) (term_at n s at)
    ≡ more_by (term_at n s) s k (tree (operation c a b) (at + length (printed a ++ c ∷ side b (printed b))))
joined c g stops n a b ha hb s at q z e k =
    let right : List ℕ = side b (printed b) in
    let i : ℕ = at + length (printed a) in
    let from : drop at s ≡ printed a ++ (c ∷ right ++ q) = e ∙ append_assoc (printed a) (c ∷ right) q in
    let sign : drop i s ≡ c ∷ right ++ q = behind s at (printed a) (c ∷ right ++ q) from in
    let r : term_at n s (i + 1) ≡ tree b (i + 1 + length right) = hb s (i + 1) q z (behind s i (c ∷ []) (right ++ q) sign) in
    let l : i + 1 + length right ≡ at + length (printed a ++ c ∷ right) = omega (arith, length-append (printed a) (c ∷ right)) in
    let m : suc (signs a) + k ≡ signs a + suc k = omega arith in
    ap (λ (k : ℕ). more_by (term_at n s) s k (term_at n s at)) m
    ∙ ha s at (c ∷ right ++ q) (stops (right ++ q)) from (suc k)
    ∙ step (term_at n s) s k c a b i (i + 1 + length right) (first_at s i (c ∷ right ++ q) sign) g r
    ∙ ap (λ (j : ℕ). more_by (term_at n s) s k (tree (operation c a b) j)) l

-- a right side is read as a term
side_back : (t : Tree) (n : ℕ) → Beside n t → ((m : ℕ) → Fit m t → Sum m t) → Term n t (side t (printed t))
side_back (number v) n h f = λ s at q z e. number_back n s at q z v h e
side_back (name x) n h f = λ s at q z e. name_back n s at q z x h e
side_back (plus a b) n h f = bracketed n (plus a b) (h.0, h.1, f h.0 h.2)
side_back (minus a b) n h f = bracketed n (minus a b) (h.0, h.1, f h.0 h.2)

-- a tree that fits is read as a sum
sum_back : (t : Tree) (n : ℕ) → Fit n t → Sum n t
unfolding operation is_sign
sum_back (number v) n h = λ s at q z e k. rw (zero-add k, number_back n s at q z v h e)
sum_back (name x) n h = λ s at q z e k. rw (zero-add k, name_back n s at q z x h e)
sum_back (plus a b) n h = joined (char "+") refl stops_plus n a b (sum_back a n h.0) (side_back b n h.1 (sum_back b))
sum_back (minus a b) n h = joined (char "-") refl stops_minus n a b (sum_back a n h.0) (side_back b n h.1 (sum_back b))

-- the normal form of a tree that fits into 32 brackets is an expression, of that tree
pub printed_back : (t : Tree) → Fit 32 t → expression (printed t) ≡ some t
unfolding expression is_sign
printed_back t h =
    let r : sum_at 32 (printed t) 0 ≡ tree t (0 + length (printed t))
    = whole_sum 32 t (sum_back t 32 h) (printed t) 0 [] stops_end refl (sym (append-nil (printed t))) in
    rw (r, eq-eqb (0 + length (printed t)) (length (printed t)) (zero-add (length (printed t))))

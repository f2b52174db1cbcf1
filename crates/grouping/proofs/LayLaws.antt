-- The algebra of laying one over another, once: for cells, headers, entries, and so for images and all that they say.
use mathlib.Core.Path.{◌≡◌, refl, sym, ap, ◌∙◌}
use Prim.Native.Nat.{ℕ}
use native.Mathlib.Omega.{arith}
use mathlib.Core.Bool.{Bool, false}
use mathlib.Core.List.{List, [], ◌∷◌}
use mathlib.Core.Logic.{⊎_elim, ◌⊎◌}
use mathlib.Core.Option.{Option, none, some}
use lib.ListN.{length}
use Rattle.lists.proofs.TestLaws.{by_test}
use Rattle.window.specs.Entries.{Entry}
use Rattle.std.specs.Prelude.{None, Some}
use Rattle.window.specs.Images.{Image}
use Rattle.window.specs.Plans.{is_present}
use Rattle.overlay.specs.Layers.{laid, holds, non_empty, merged, Content, patched}

-- one value only gives nothing
abbrev Sole : {A : Type 0} → (A → Bool) → Type 0
Sole {A} given = (x y : A) → given x ≡ false → given y ≡ false → x ≡ y

-- ---- for any kind of value

module _ {A : Type 0} (given : A → Bool) where
  -- three may be laid in any grouping
  lay_grouped : (x y z : A) → laid given (laid given x y) z ≡ laid given x (laid given y z)
  lay_grouped x y z = by_test (given z) (λ t. rw (t, t)) (λ t. rw t)

  -- nothing laid over a value leaves it
  lay_nothing : (x n : A) → given n ≡ false → laid given x n ≡ x
  lay_nothing x n e = rw e

  -- a value laid over itself stays
  lay_self : (x : A) → laid given x x ≡ x
  lay_self x = by_test (given x) (λ t. rw t) (λ t. rw t)

  module _ (sole : Sole given) where
    -- a value laid over nothing stays
    over_nothing : (n x : A) → given n ≡ false → laid given n x ≡ x
    over_nothing n x e = by_test (given x) (λ t. rw t) (λ t. rw t (sole n x e t))

    -- two of which one is nothing may change places
    lay_swapped : (x y : A) → (given x ≡ false) ⊎ (given y ≡ false) → laid given x y ≡ laid given y x
    lay_swapped x y h =
        ⊎_elim (λ (e : given x ≡ false). over_nothing x y e ∙ sym (lay_nothing y x e))
        (λ (e : given y ≡ false). lay_nothing x y e ∙ sym (over_nothing y x e)) h

-- ---- cells, headers and entries have one nothing each

sole_cell : Sole holds
sole_cell none none e f = refl
sole_cell none (some b) e f = absurd (let z : ◌≡◌ {A = ℕ} 0 1 = cc in omega arith)
sole_cell (some a) y e f = absurd (let z : ◌≡◌ {A = ℕ} 0 1 = cc in omega arith)

sole_header : Sole non_empty
sole_header [] [] e f = refl
sole_header [] (b ∷ bs) e f = absurd (let z : ◌≡◌ {A = ℕ} 0 1 = cc in omega arith)
sole_header (a ∷ bs) y e f = absurd (let z : ◌≡◌ {A = ℕ} 0 1 = cc in omega arith)

sole_entry : Sole is_present
sole_entry None None e f = refl
sole_entry None (Some b) e f = absurd (let z : ◌≡◌ {A = ℕ} 0 1 = cc in omega arith)
sole_entry (Some a) y e f = absurd (let z : ◌≡◌ {A = ℕ} 0 1 = cc in omega arith)

-- ---- images, cell by cell

-- no cell is marked
abbrev pub Bare : Image → Type 0
Bare [] = Unit {0}
Bare (o ∷ x) = (holds o ≡ false) × Bare x

-- no cell is marked in both
abbrev pub Disjoint : Image → Image → Type 0
Disjoint [] y = Unit {0}
Disjoint (o ∷ x) [] = Unit {0}
Disjoint (o ∷ x) (q ∷ y) = ((holds o ≡ false) ⊎ (holds q ≡ false)) × Disjoint x y

-- two images that agree in the first cell and in the rest
join : {o q : Option ℕ} {x y : Image} → o ≡ q → x ≡ y → ◌≡◌ {A = Image} (o ∷ x) (q ∷ y)
join e f = λ i. e i ∷ f i

merge_grouped : (x y z : Image) → merged (merged x y) z ≡ merged x (merged y z)
merge_grouped [] y z = refl
merge_grouped (a ∷ x) [] z = refl
merge_grouped (a ∷ x) (b ∷ y) [] = refl
merge_grouped (a ∷ x) (b ∷ y) (c ∷ z) = join (lay_grouped holds a b c) (merge_grouped x y z)

merge_bare : (x n : Image) → Bare n → length n ≡ length x → merged x n ≡ x
merge_bare [] [] h l = refl
merge_bare [] (o ∷ n) h l = absurd (omega arith)
merge_bare (a ∷ x) [] h l = refl
merge_bare (a ∷ x) (o ∷ n) h l = join (lay_nothing holds a o h.0) (merge_bare x n h.1 (omega arith))

bare_merge : (n x : Image) → Bare n → length n ≡ length x → merged n x ≡ x
bare_merge [] x h l = refl
bare_merge (o ∷ n) [] h l = absurd (omega arith)
bare_merge (o ∷ n) (a ∷ x) h l = join (over_nothing holds sole_cell o a h.0) (bare_merge n x h.1 (omega arith))

merge_self : (x : Image) → merged x x ≡ x
merge_self [] = refl
merge_self (a ∷ x) = join (lay_self holds a) (merge_self x)

merge_swapped : (x y : Image) → Disjoint x y → merged x y ≡ merged y x
merge_swapped [] [] h = refl
merge_swapped [] (b ∷ y) h = refl
merge_swapped (a ∷ x) [] h = refl
merge_swapped (a ∷ x) (b ∷ y) h = join (lay_swapped holds sole_cell a b h.0) (merge_swapped x y h.1)

-- ---- all that images say

-- content of no cells, an empty header and an absent entry, in a window of this many cells
pub record Void (size : ℕ) (C : Content) : Type 0 where
  pub bare : Bare C.cells
  pub long : length C.cells ≡ size
  pub header : non_empty C.header ≡ false
  pub entry : is_present C.entry ≡ false

-- contents of which no part is in both
pub record Separate (P Q : Content) : Type 0 where
  pub cells : Disjoint P.cells Q.cells
  pub header : (non_empty P.header ≡ false) ⊎ (non_empty Q.header ≡ false)
  pub entry : (is_present P.entry ≡ false) ⊎ (is_present Q.entry ≡ false)

-- contents that agree in all three
same : {x y : Image} {h k : List ℕ} {d e : Entry} → x ≡ y → h ≡ k → d ≡ e
    → ◌≡◌ {A = Content} (record { cells = x; header = h; entry = d }) (record { cells = y; header = k; entry = e })
same p q r = λ i. record { cells = p i; header = q i; entry = r i }

-- three merge in any grouping
pub grouped : (A B C : Content) → patched (patched A B) C ≡ patched A (patched B C)
unfolding patched
grouped A B C =
    same (merge_grouped A.cells B.cells C.cells) (lay_grouped non_empty A.header B.header C.header)
    (lay_grouped is_present A.entry B.entry C.entry)

-- content of nothing changes nothing that it is merged into
pub nothing_over : (A N : Content) → Void (length A.cells) N → patched A N ≡ A
unfolding patched
nothing_over A N v =
    same (merge_bare A.cells N.cells v.bare v.long) (lay_nothing non_empty A.header N.header v.header)
    (lay_nothing is_present A.entry N.entry v.entry)

-- what is merged into content of nothing stays
pub over_void : (N A : Content) → Void (length A.cells) N → patched N A ≡ A
unfolding patched
over_void N A v =
    same (bare_merge N.cells A.cells v.bare v.long) (over_nothing non_empty sole_header N.header A.header v.header)
    (over_nothing is_present sole_entry N.entry A.entry v.entry)

-- merged into itself it stays
pub over_itself : (A : Content) → patched A A ≡ A
unfolding patched
over_itself A = same (merge_self A.cells) (lay_self non_empty A.header) (lay_self is_present A.entry)

swapped : (P Q : Content) → Separate P Q → patched P Q ≡ patched Q P
unfolding patched
swapped P Q s =
    same (merge_swapped P.cells Q.cells s.cells) (lay_swapped non_empty sole_header P.header Q.header s.header)
    (lay_swapped is_present sole_entry P.entry Q.entry s.entry)

-- two patches with no cell in both, at most one header and at most one entry may change places
pub exchanged : (A P Q : Content) → Separate P Q → patched (patched A P) Q ≡ patched (patched A Q) P
exchanged A P Q s = grouped A P Q ∙ ap (patched A) (swapped P Q s) ∙ sym (grouped A Q P)

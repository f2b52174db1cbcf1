-- Req 10: three patches, any grouping. Each statement is over what the calls of `merge` leave.
use Rattle.std.specs.Prelude.{◌≡◌, ℕ, true, [], ◌⊎◌}
use Rattle.std.specs.Prelude.{None}
use Rattle.window.specs.Windows.{Marked}
use Rattle.window.specs.Cells.{shown}
use Rattle.window.specs.Plans.{passes}
use Rattle.overlay.specs.Merges.{Lent, window_at, refusal_of, leaves}

-- Req 10's "where no merge is refused": the merge of P into B is not
abbrev pub Accepted : ℕ → Lent → Lent → Type 0
Accepted base B P = passes (refusal_of base B P) ≡ true

-- Req 10's "agree in addressed cells, header and entry"; "unmarked memory bytes are not compared"
pub record Agree (base : ℕ) (X Y : Lent) : Type 0 where
  pub cells : shown (window_at base X) ≡ shown (window_at base Y)
  pub header : X.header ≡ Y.header
  pub entry : X.entry ≡ Y.entry

-- Req 10's "an image with no cells, empty header and absent entry"
pub record Empty (base : ℕ) (E : Lent) : Type 0 where
  pub cells : shown (window_at base E) ≡ []
  pub header : E.header ≡ []
  pub entry : E.entry ≡ None

-- Req 10's "share no cell"
abbrev pub NoSharedCell : ℕ → Lent → Lent → Type 0
NoSharedCell base P Q = (a b c : ℕ) → Marked (window_at base P) a b → Marked (window_at base Q) a c → ⊥

-- "at most one has a non-empty header"
abbrev pub OneHeader : Lent → Lent → Type 0
OneHeader P Q = (P.header ≡ []) ⊎ (Q.header ≡ [])

-- "and at most one an entry"
abbrev pub OneEntry : Lent → Lent → Type 0
OneEntry P Q = (P.entry ≡ None) ⊎ (Q.entry ≡ None)

-- Req 10's "both groupings agree": base, hotfix and site settings from the left, or the last two first. If no merge of the one is
-- refused, none of the other is
abbrev pub AnyGrouping : Type 0
AnyGrouping = (base : ℕ) (A B C : Lent) → Accepted base A B → Accepted base (leaves base A B) C
    → Accepted base B C × Accepted base A (leaves base B C) × Agree base (leaves base (leaves base A B) C) (leaves base A (leaves base B C))

-- nor the other way round
abbrev pub AnyGroupingBack : Type 0
AnyGroupingBack = (base : ℕ) (A B C : Lent) → Accepted base B C → Accepted base A (leaves base B C)
    → Accepted base A B × Accepted base (leaves base A B) C

-- Req 10's "changes nothing on either side": merged into an image it leaves the same memory, marks, header and entry
abbrev pub EmptyPatch : Type 0
EmptyPatch = (base : ℕ) (A E : Lent) → Accepted base A E → Empty base E → leaves base A E ≡ A

-- and an image merged into it gives its own addressed cells, header and entry; unmarked bytes are those of the empty image
abbrev pub EmptyBase : Type 0
EmptyBase = (base : ℕ) (E A : Lent) → Accepted base E A → Empty base E → Agree base (leaves base E A) A

-- Req 10's "nor an image merged into itself": one that agrees with it, in buffers of its own, leaves the same memory, marks, header and entry
abbrev pub IntoItself : Type 0
IntoItself = (base : ℕ) (A C : Lent) → Accepted base A C → Agree base A C → leaves base A C ≡ A

-- Req 10's "two patches may change places"; if no merge in one order is refused, none in the other is
abbrev pub EitherOrder : Type 0
EitherOrder = (base : ℕ) (A P Q : Lent) → Accepted base A P → Accepted base (leaves base A P) Q
    → NoSharedCell base P Q → OneHeader P Q → OneEntry P Q
    → Accepted base A Q × Accepted base (leaves base A Q) P × Agree base (leaves base (leaves base A P) Q) (leaves base (leaves base A Q) P)

-- two patches for which the order matters, though no merge is refused
pub record OrderMatters (base : ℕ) (A P Q : Lent) : Type 0 where
  pub first : Accepted base A P × Accepted base (leaves base A P) Q
  pub second : Accepted base A Q × Accepted base (leaves base A Q) P
  pub differ : Agree base (leaves base (leaves base A P) Q) (leaves base (leaves base A Q) P) → ⊥

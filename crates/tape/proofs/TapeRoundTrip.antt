-- Tapes that are loaded and written again: the statements of specs/RoundTrip.antt hold.
use mathlib.Core.Path.{◌≡◌, refl, sym, ◌∙◌}
use Prim.Native.Nat.{ℕ}
use mathlib.Core.List.{List, [], ◌∷◌}
use Rattle.lists.proofs.TestLaws.{by_test}
use Rattle.std.specs.Prelude.{None}
use Rattle.text.specs.Lines.{Line, lines}
use Rattle.text.specs.Terms.{header_in, header_among, entry_in, entry_among, SameContent}
use Rattle.text.specs.RoundTrip.{Compared}
use Rattle.text.proofs.RoundTrip.{equal_content, written_loads_back as loads-back}
use Rattle.tape.specs.Lines.{is_gap}
use Rattle.tape.specs.Reading.{Read, is_last, read}
use Rattle.tape.specs.Reading.Read.{good, bad}
use Rattle.tape.specs.Judging.{carries, carried}
use Rattle.tape.specs.Formats.{tape}
use Rattle.tape.specs.RoundTrip.{EqualCells, WrittenLoadsBack}
use Rattle.tape.proofs.TapeLimitLaws.{limits}
use Rattle.tape.proofs.TapeFormatLaws.{lawful}

-- ---- a tape has no header and no entry

-- a line has no header
header_in_lem : (r : Read) (h : List ℕ) → header_in (carried r) h ≡ h
unfolding carries
header_in_lem (bad f) h = refl
header_in_lem (good bs) h = by_test (is_last bs) (λ e. rw e refl) (λ e. rw e refl)

-- a line has no entry
entry_in_lem : (r : Read) → entry_in (carried r) None ≡ None
unfolding carries
entry_in_lem (bad f) = refl
entry_in_lem (good bs) = by_test (is_last bs) (λ e. rw e refl) (λ e. rw e refl)

-- so lines have no header
no_header : (ls : List Line) → header_among (λ chars. carried (read chars)) ls ≡ []
no_header [] = refl
no_header (l ∷ ls) = header_in_lem (read l.chars) (header_among (λ chars. carried (read chars)) ls) ∙ no_header ls

-- and no entry
no_entry : (ls : List Line) → entry_among (λ chars. carried (read chars)) ls ≡ None
no_entry [] = refl
no_entry (l ∷ ls) = rw (no_entry ls) (entry_in_lem (read l.chars))

-- equal tapes are written exactly where the cells are equal
pub equal_cells : EqualCells
equal_cells edition W₁ W₂ t₁ t₂ room₁ room₂ a₁ a₂ n₁ n₂ =
    let k : Compared (tape edition) (SameContent (tape edition)) W₁ W₂ t₁ t₂ room₁ room₂
    = equal_content (tape edition) limits (lawful edition) W₁ W₂ t₁ t₂ room₁ room₂ a₁ a₂ n₁ n₂ in
    record {
      text₁ = k.text₁;
      text₂ = k.text₂;
      written₁ = k.written₁;
      written₂ = k.written₂;
      equal = (
        λ c. k.equal.0 (
          c,
          no_header (lines is_gap 0 t₁) ∙ sym (no_header (lines is_gap 0 t₂)),
          no_entry (lines is_gap 0 t₁) ∙ sym (no_entry (lines is_gap 0 t₂)),
        ),
        λ q. (k.equal.1 q).0,
      );
    }

-- a written tape gives back what the load behind it gave
pub written_loads_back : WrittenLoadsBack
written_loads_back edition = loads-back (tape edition) limits (lawful edition)

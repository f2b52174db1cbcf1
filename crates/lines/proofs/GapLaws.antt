-- A lone LF before a line.
use mathlib.Core.Path.{◌≡◌, refl}
use Prim.Native.Nat.{ℕ, ◌≤◌, ◌<◌}
use native.Mathlib.Omega.{arith}
use mathlib.Core.Bool.{true, false}
use mathlib.Core.List.{List, [], ◌∷◌}
use borrow.Author.Tests.{ne_eqb}
use lib.ListN.{length}
use Rattle.text.specs.Finds.{leading}
use Rattle.srec.specs.Lines.{is_end}
use Rattle.tape.specs.Lines.{is_gap, xoff}
use Rattle.formats.specs.declared.Format.{Format}
use Rattle.formats.specs.declared.Format.TheVariants.{Records, Tape}
use Rattle.formats.specs.Choices.{format_of}
use Rattle.lines.specs.Gaps.{LoneEnd}

-- LF is a separator, and a character above XOFF is none
lf_gap : (format : Format) → (format_of format).gap 10 ≡ true
unfolding is_end is_gap
lf_gap Records = refl
lf_gap (Tape edition) = refl

high_gap : (format : Format) (c : ℕ) → 19 < c → (format_of format).gap c ≡ false
unfolding is_end is_gap
high_gap Records c h = simp (ne_eqb c 10 (λ e. omega arith), ne_eqb c 13 (λ e. omega arith))
high_gap (Tape edition) c h =
    simp (ne_eqb c 13 (λ e. omega arith), ne_eqb c 10 (λ e. omega arith), ne_eqb c 0 (λ e. omega arith), ne_eqb c 19 (λ e. omega arith))

-- it is the only separator: a return of `count_gaps`
pub one_gap : (format : Format) (text : List ℕ) → LoneEnd text → 1 ≡ leading (format_of format).gap text
one_gap format [] l = absurd (omega (arith, l.0))
one_gap format (a ∷ []) l = absurd (omega (arith, l.0))
one_gap format (a ∷ b ∷ text) l = rw (l.1, lf_gap format, high_gap format b l.2)

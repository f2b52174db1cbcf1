-- Every format that can be chosen is lawful; what its functions answer, by the choice.
use mathlib.Core.Path.{◌≡◌, ap, ◌∙◌, sym}
use Prim.Native.Nat.{ℕ, suc, ◌-◌, ◌%◌, ◌^◌, ◌≤◌}
use native.Mathlib.Omega.{arith}
use mathlib.Core.Bool.{Bool}
use lib.Dec.{eqb}
use borrow.Author.Tests.{ne_eqb}
use Rattle.text.proofs.FormatLaws.{Limits, Lawful}
use Rattle.srec.specs.Canonical.{follow}
use Rattle.srec.proofs.LimitLaws.{limits as recordLimits}
use Rattle.srec.proofs.SrecFormatLaws.{lawful as recordsLawful}
use Rattle.tape.specs.Lines.{xoff, is_gap}
use Rattle.tape.proofs.TapeLimitLaws.{limits as tapeLimits}
use Rattle.tape.proofs.TapeFormatLaws.{lawful as tapesLawful}
use Rattle.formats.specs.declared.Format.{Format as Choice}
use Rattle.formats.specs.declared.Format.TheVariants.{Records, Tape}
use Rattle.formats.specs.Choices.{format_of, follow_of}

-- what its texts can hold
abbrev pub limits_of : Choice → Limits
limits_of Records = recordLimits
limits_of (Tape edition) = tapeLimits

-- it is lawful
pub lawful_of : (c : Choice) → Lawful (format_of c) (limits_of c)
lawful_of Records = recordsLawful
lawful_of (Tape edition) = tapesLawful edition

-- no address is above 2^32
pub top_small : (c : Choice) → (limits_of c).top ≤ 2 ^ 32
top_small Records = omega arith
top_small (Tape edition) = omega arith

-- the last test of a character between a tape's lines
pub pause_last : (c : ℕ) → (c ≡ 13 → ⊥) → (c ≡ 10 → ⊥) → (c ≡ 0 → ⊥) → eqb c xoff ≡ is_gap c
unfolding is_gap
pause_last c h k l = rw (ne_eqb c 13 h, ne_eqb c 10 k, ne_eqb c 0 l)

-- the answer for the chosen format is that of the format
pub gap_chosen : (format choice : Choice) → format ≡ choice → (c : ℕ) (r : Bool) → r ≡ (format_of choice).gap c → r ≡ (format_of format).gap c
gap_chosen format choice e c r q = q ∙ ap (λ (x : Choice). (format_of x).gap c) (sym e)

-- what a row has left, as the code computes it
pub row_left : (a : ℕ) → 16 - a % 16 ≡ suc (follow a)
unfolding follow
row_left a = omega arith

-- the most cells for the chosen format are those of the format
pub most_chosen : (format choice : Choice) → format ≡ choice → (a r : ℕ) → r ≡ suc (follow_of choice a) → r ≡ suc (follow_of format a)
most_chosen format choice e a r q = q ∙ ap (λ (x : Choice). suc (follow_of x a)) (sym e)

-- a data line has at most 24 cells
pub follow_small : (c : Choice) (a : ℕ) → follow_of c a ≤ 23
unfolding follow
follow_small Records a = omega arith
follow_small (Tape edition) a = omega arith

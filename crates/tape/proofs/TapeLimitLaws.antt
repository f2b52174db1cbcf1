-- Any line of a tape read and judged: bounds of its fields, and what it carries.
use mathlib.Core.Path.{◌≡◌, refl}
use Prim.Native.Nat.{ℕ, suc, ◌+◌, ◌^◌, ◌<◌}
use native.Mathlib.Omega.{arith}
use mathlib.Core.Bool.{Bool, false, not, ◌&&◌, ◌||◌}
use mathlib.Core.List.{List}
use mathlib.Core.Logic.{◌⊎◌, inl, inr}
use lib.Dec.{T, eqb, lit<}
use lib.ListN.{length, drop}
use borrow.Author.Tests.{ltb-false}
use Rattle.hex_digits.specs.Digits.{bytes, first_bad}
use Rattle.lists.proofs.TestLaws.{by_test, Of, either}
use Rattle.lists.proofs.ByteLaws.{Bytes, BytesTake, BytesDrop}
use Rattle.hex_digits.proofs.DigitLaws.{bytes_small}
use Rattle.text.specs.Scan.{State, by_row}
use Rattle.text.proofs.FormatLaws.{Limits, Given, Shared, IsRefusal, StepOk}
use Rattle.tape.specs.declared.Edition.{Edition}
use Rattle.tape.specs.Reading.{Read, fault, row3, row4, row5, row6, length_in, address_in, data_in, is_last, read}
use Rattle.tape.specs.Reading.Read.{good, bad}
use Rattle.tape.specs.Canonical.{follow}
use Rattle.tape.specs.Judging.{row7, row10, row11, carries, carried, judge, judged}

-- neither row 8 nor row 9, and never a byte
abbrev pub refuses : ℕ → ℕ → Bool
refuses reason want = not (eqb reason 8 || eqb reason 9) && eqb want 0

-- addresses of 16 bits, no header, no entry, lines of 24 cells, and these refusals
abbrev pub limits : Limits
limits = record { top = 2 ^ 16; most = 0; started = false; follow = follow; refuses = refuses }

-- the rows that no format decides are among them
pub shared : Shared limits
shared = record { one = tt; two = tt; twelve = tt; thirteen = tt; fourteen = tt }

-- a good line is of bytes, a bad one has a reason
abbrev pub ReadOk : Read → Type 0
ReadOk (good bs) = Bytes bs
ReadOk (bad f) = Given limits f.reason f.want

-- whatever the characters, the line is of bytes, or bad for a reason
pub read_ok : (cs : List ℕ) → Of ReadOk (read cs)
unfolding read
read_ok cs =
    either (row3 cs) (no 2 0 tt) (either (row4 cs) (no 3 0 tt) (either (row5 cs) (no 4 (1 + first_bad (drop 1 cs)) tt)
    (either (row6 (length cs) (length_in (bytes (drop 1 cs)))) (no 5 0 tt) (record { got = bytes_small (drop 1 cs) }))))
  where
    no : (reason offset : ℕ) → T (refuses (suc reason) 0) → Of ReadOk (fault (suc reason) offset)
    no reason offset t = record { got = (omega arith, t) }

-- a line that is not refused does what it carries
pub judged_says : (edition : Edition) (s : State) (r : Read) → IsRefusal (judged edition s r) ⊎ (judged edition s r ≡ carried r)
unfolding judge
judged_says edition s (bad f) = inl tt
judged_says edition s (good bs) =
    by_test (row7 edition bs) (λ p. inl (rw p tt))
    (λ p. by_test (is_last bs && row10 s (address_in bs)) (λ q. inl (rw (p, q) tt))
    (λ q. by_test (not (is_last bs) && row11 (address_in bs) (length (data_in bs))) (λ r. inl (rw (p, q, r) tt)) (λ r. inr (rw (p, q, r) refl))))

-- a refusal by a row has a reason
by : (s : State) (reason : ℕ) → T (refuses (suc reason) 0) → Of (StepOk limits s) (by_row (suc reason))
by s reason t = record { got = (omega arith, t) }

-- what a line carries that row 11 lets pass is within the limits
carries_ok : (s : State) (bs : List ℕ) → Bytes bs → (not (is_last bs) && row11 (address_in bs) (length (data_in bs))) ≡ false
    → Of (StepOk limits s) (carries bs)
unfolding carries row11 data_in
carries_ok s bs h r =
    by_test (is_last bs) (λ l. rw l (record { got = record { present = refl; small = lit< tt } }))
    (λ l. rw l (record {
      got = (BytesTake (length_in bs) (drop 3 bs) (BytesDrop 3 bs h), ltb-false (2 ^ 16) (address_in bs + length (data_in bs)) (rw l at r));
    }))

-- a line of bytes, judged by rows 7, 10 and 11, keeps to the limits
judge_ok : (edition : Edition) (s : State) (bs : List ℕ) → Bytes bs → Of (StepOk limits s) (judge edition s bs)
unfolding judge
judge_ok edition s bs h =
    either (row7 edition bs) (by s 6 tt) (either (is_last bs && row10 s (address_in bs)) (by s 9 tt)
    (by_test (not (is_last bs) && row11 (address_in bs) (length (data_in bs))) (λ r. rw r (by s 10 tt)) (λ r. rw r (carries_ok s bs h r))))

-- so does one that is read or cannot be read
judged_ok : (edition : Edition) (s : State) (r : Read) → ReadOk r → StepOk limits s (judged edition s r)
judged_ok edition s (good bs) o = (judge_ok edition s bs o).got
judged_ok edition s (bad f) o = o

-- any line keeps to the limits
pub step_ok : (edition : Edition) (s : State) (cs : List ℕ) → StepOk limits s (judged edition s (read cs))
step_ok edition s cs = judged_ok edition s (read cs) (read_ok cs).got

-- Any record read and judged: bounds of its fields, and what it carries.
use mathlib.Core.Path.{◌≡◌, refl}
use Prim.Native.Nat.{ℕ, suc, ◌+◌, ◌-◌, ◌*◌, ◌^◌, ◌≤◌, ◌<◌}
use native.Mathlib.Omega.{arith}
use mathlib.Core.Bool.{Bool, true, not, ◌&&◌, ◌||◌}
use mathlib.Core.List.{List}
use mathlib.Core.Logic.{◌⊎◌, inl, inr}
use mathlib.Core.Option.{Option, some}
use lib.Dec.{T, eqb, lit≤}
use lib.ListN.{length, get_or, take, drop, length-take}
use lib.Pow.{pow_mono}
use borrow.Author.Tests.{eqb-true, not-false, ltb-false}
use Rattle.hex_digits.specs.Digits.{bytes, first_bad}
use Rattle.lists.proofs.TestLaws.{by_test, Of, either}
use Rattle.lists.proofs.ByteLaws.{Bytes, BytesTake, BytesDrop, BytesAt}
use Rattle.hex_digits.proofs.DigitLaws.{bytes_small}
use Rattle.hex_digits.proofs.NumberLaws.{number_small}
use Rattle.text.specs.Scan.{State, by_row}
use Rattle.text.proofs.FormatLaws.{Limits, Given, Shared, HeaderOk, IsRefusal, StepOk}
use Rattle.srec.specs.Kinds.{Kind, kind_of, width, known}
use Rattle.srec.specs.Kinds.Kind.{S0, Data, S5, End}
use Rattle.srec.specs.Reading.{Read, fault, row3, row4, row5, row6, row7, address_in, data_in, read}
use Rattle.srec.specs.Reading.Read.{good, bad}
use Rattle.srec.specs.Canonical.{follow}
use Rattle.srec.specs.Judging.{row8, row10, row11, carried, judge, judged}

-- no row 9, and a byte for row 7 alone
abbrev pub refuses : ℕ → ℕ → Bool
refuses reason want = not (eqb reason 9) && (eqb reason 7 || eqb want 0)

-- addresses of 32 bits, headers of up to 252 bytes, an entry, rows of sixteen, and these refusals
abbrev pub limits : Limits
limits = record { top = 2 ^ 32; most = 252; started = true; follow = follow; refuses = refuses }

-- the rows that no format decides are among them
pub shared : Shared limits
shared = record { one = tt; two = tt; twelve = tt; thirteen = tt; fourteen = tt }

-- ---- one record

-- a kind has 2 to 4 address bytes
abbrev Wide : Kind → Type 0
Wide k = (2 ≤ width k) × (width k ≤ 4)

-- the same of a type, where S0 stands for a type that is not in the table
abbrev WideOr : Option Kind → Type 0
WideOr o = Wide (known o)

-- it holds of every type character
kind_of_wide : (c : ℕ) → Of WideOr (kind_of c)
unfolding kind_of
kind_of_wide c =
    either (eqb c 48) (of S0 (lit≤ tt, lit≤ tt)) (either (eqb c 49) (of (Data 2) (lit≤ tt, lit≤ tt))
    (either (eqb c 50) (of (Data 3) (lit≤ tt, lit≤ tt)) (either (eqb c 51) (of (Data 4) (lit≤ tt, lit≤ tt))
    (either (eqb c 53) (of S5 (lit≤ tt, lit≤ tt)) (either (eqb c 55) (of (End 4) (lit≤ tt, lit≤ tt))
    (either (eqb c 56) (of (End 3) (lit≤ tt, lit≤ tt)) (either (eqb c 57) (of (End 2) (lit≤ tt, lit≤ tt)) (record { got = (lit≤ tt, lit≤ tt) }))))))))
  where
    of : (k : Kind) → Wide k → Of WideOr (some k)
    of k h = record { got = h }

-- a good record has data, address and width within bounds, a bad one a reason
abbrev pub ReadOk : Read → Type 0
ReadOk (good k a ds) = HeaderOk limits ds × (a < 2 ^ 32) × Wide k
ReadOk (bad f) = Given limits f.reason f.want

-- the address and the data bytes that a kind finds in bytes are within bounds
good_ok : (k : Kind) (bs : List ℕ) → Wide k → Bytes bs → ReadOk (good k (address_in k bs) (data_in k bs))
unfolding address_in data_in
good_ok k bs w h = (
  record {
    bytes = BytesTake (get_or bs 0 0 - (width k + 1)) (drop (width k + 1) bs) (BytesDrop (width k + 1) bs h);
    short = rw length-take (omega (arith, BytesAt bs 0 h, w.0));
  },
  number_small (take (width k) (drop 1 bs)) 4 (rw length-take (omega (arith, w.1))) (BytesTake (width k) (drop 1 bs) (BytesDrop 1 bs h)),
  w,
)

-- whatever the characters, the record is within bounds, or bad for a reason
pub read_ok : (cs : List ℕ) → Of ReadOk (read cs)
unfolding read
read_ok cs =
    let k : Kind = known (kind_of (get_or cs 1 0)) in
    let bs : List ℕ = bytes (drop 2 cs) in
    either (row3 cs) (no 2 0 tt) (either (row4 cs) (no 3 0 tt) (either (row5 cs) (no 4 (2 + first_bad (drop 2 cs)) tt)
    (either (row6 k (length cs) (get_or bs 0 0)) (no 5 0 tt) (either (row7 bs) (record { got = (omega arith, tt) })
    (record { got = good_ok k bs (kind_of_wide (get_or cs 1 0)).got (bytes_small (drop 2 cs)) })))))
  where
    no : (reason offset : ℕ) → T (refuses (suc reason) 0) → Of ReadOk (fault (suc reason) offset)
    no reason offset t = record { got = (omega arith, t) }

-- ---- the record judged

-- a record that is not refused does what it carries
pub judged_says : (s : State) (r : Read) → IsRefusal (judged s r) ⊎ (judged s r ≡ carried r)
unfolding judge
judged_says s (bad f) = inl tt
judged_says s (good S0 a ds) = by_test (row8 s) (λ b. inl (rw b tt)) (λ b. inr (rw b refl))
judged_says s (good (Data w) a ds) =
    by_test (row11 w a (length ds)) (λ b. inl (rw b tt)) (λ b. inr (rw b refl))
judged_says s (good S5 a ds) = by_test (row10 s a) (λ b. inl (rw b tt)) (λ b. inr (rw b refl))
judged_says s (good (End w) a ds) = inr refl

-- a refusal by a row has a reason
by : (s : State) (reason : ℕ) → T (refuses (suc reason) 0) → Of (StepOk limits s) (by_row (suc reason))
by s reason t = record { got = (omega arith, t) }

-- a record within bounds, judged by rows 8, 10 and 11, keeps to the limits
judge_ok : (s : State) (k : Kind) (a : ℕ) (ds : List ℕ) → HeaderOk limits ds → a < 2 ^ 32 → Wide k → Of (StepOk limits s) (judge s k a ds)
unfolding judge row8 row11
judge_ok s S0 a ds d l w =
    by_test (row8 s) (λ b. rw b (by s 7 tt)) (λ b. rw b (record { got = (d, eqb-true s.number 0 (not-false (eqb s.number 0) b)) }))
judge_ok s (Data w) a ds d l v =
    by_test (row11 w a (length ds)) (λ b. rw b (by s 10 tt))
    (λ b. rw b (record {
      got = (
        d.bytes,
        omega (
          arith,
          ltb-false (2 ^ (8 * w)) (a + length ds) b,
          pow_mono {i = 8 * w} {j = 32}
              (omega (arith, v.1)),
        ),
      );
    }))
judge_ok s S5 a ds d l w = either (row10 s a) (by s 9 tt) (record { got = tt })
judge_ok s (End w) a ds d l v = record { got = record { present = refl; small = l } }

-- so does one that is read or cannot be read
judged_ok : (s : State) (r : Read) → ReadOk r → StepOk limits s (judged s r)
judged_ok s (good k a ds) o = (judge_ok s k a ds o.0 o.1 o.2).got
judged_ok s (bad f) o = o

-- any record keeps to the limits
pub step_ok : (s : State) (cs : List ℕ) → StepOk limits s (judged s (read cs))
step_ok s cs = judged_ok s (read cs) (read_ok cs).got

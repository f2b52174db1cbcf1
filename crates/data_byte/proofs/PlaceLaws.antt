-- The data of a line stands where `start_of` says.
use mathlib.Core.Path.{◌≡◌, refl, sym, ap, ap₂, ◌∙◌, subst}
use Prim.Native.Nat.{ℕ, ◌+◌, ◌*◌, ◌≤◌, ◌<◌}
use native.Mathlib.Omega.{arith}
use mathlib.Core.Bool.{true}
use mathlib.Core.List.{List, []}
use lib.ListN.{length, get_or, take, drop, length-drop}
use lib.Seq.{get_or-take, get_or-drop, length-take-le}
use Rattle.lists.proofs.TestLaws.{by_test}
use Rattle.hex_digits.specs.Digits.{byte_of, bytes}
use Rattle.hex_digits.proofs.PairLaws.{byte_at}
use Rattle.srec.specs.Kinds.Kind.{S0, Data, S5, End}
use Rattle.srec.specs.Reading.{Read, read}
use Rattle.srec.specs.Reading.Read.{good, bad}
use Rattle.srec.specs.Judging.{carried}
use Rattle.srec_fields.proofs.FieldLaws.{Fields, read_fields}
use Rattle.tape.specs.Reading.{Read as LineRead, length_in, address_in, data_in, is_last, read as readLine}
use Rattle.tape.specs.Reading.Read.{good as goodLine, bad as badLine}
use Rattle.tape.specs.Judging.{carries, carried as carriedLine}
use Rattle.tape_read.specs.Answers.{as_line}
use Rattle.tape_read.proofs.LineFieldLaws.{bs, LineGot, line_got}
use Rattle.placing.proofs.LineLaws.{length_is, digits_are}
use Rattle.formats.specs.declared.Format.{Format}
use Rattle.formats.specs.declared.Format.TheVariants.{Records, Tape}
use Rattle.formats.specs.Choices.{format_of}
use Rattle.data_byte.specs.Places.{bytes_in, start_of}

-- data bytes and the digits that they stand for, from `start` on
record Digits (chars : List ℕ) (start : ℕ) (ds : List ℕ) : Type 0 where
  long : start + 2 * length ds ≤ length chars
  are : ds ≡ bytes (take (2 * length ds) (drop start chars))

-- a record that has data
record_digits : (chars : List ℕ) (r : Read) → read chars ≡ r → 0 < length (bytes_in (carried r)) → Digits chars (start_of Records chars) (bytes_in (carried r))
record_digits chars (bad f) e h = absurd (omega arith)
record_digits chars (good S0 a ds) e h = absurd (omega arith)
record_digits chars (good (Data w) a ds) e h =
    let f : Fields chars (Data w) a ds = read_fields chars (Data w) a ds e in
    rw f.type_known (record { long = omega (arith, f.long); are = f.data_is })
record_digits chars (good S5 a ds) e h = absurd (omega arith)
record_digits chars (good (End w) a ds) e h = absurd (omega arith)

-- a line of a tape that has data
tape_digits : (chars : List ℕ) (r : LineRead) → readLine chars ≡ r → 0 < length (bytes_in (carriedLine r)) → Digits chars 7 (bytes_in (carriedLine r))
unfolding carries
tape_digits chars (badLine f) e h = absurd (omega arith)
tape_digits chars (goodLine x) e h =
    let g : LineGot chars (address_in x) (length_in x) = line_got chars 0 (address_in x) (length_in x) (sym (ap (as_line 0) e)) in
    let q : goodLine x ≡ goodLine (bs chars) = sym e ∙ g.is in
    let same : x ≡ bs chars = cc in
    by_test (is_last x) (λ t. absurd (nothing t (rw t at h))) (λ t. rw (t, same) (own (subst (λ (y : List ℕ). LineGot chars (address_in y) (length_in y)) same g)))
  where
    nothing : is_last x ≡ true → 0 < 0 → ⊥
    nothing t z = omega arith

    own : LineGot chars (address_in (bs chars)) (length_in (bs chars)) → Digits chars 7 (data_in (bs chars))
    own g = record { long = omega (arith, g.long, length_is [] chars 0 g); are = digits_are [] chars 0 g }

-- the two characters of a data byte, and where they stand
pub record Pair (chars : List ℕ) (start : ℕ) (ds : List ℕ) (j : ℕ) : Type 0 where
  pub inside : start + 2 * j + 1 < length chars
  pub is : byte_of (get_or chars (start + 2 * j) 0) (get_or chars (start + 2 * j + 1) 0) ≡ get_or ds j 0

-- byte j is that of digits 2 * j and 2 * j + 1
pair_at : (chars : List ℕ) (start : ℕ) (ds : List ℕ) (j : ℕ) → Digits chars start ds → j < length ds → Pair chars start ds j
pair_at chars start ds j d h =
    let n : ℕ = 2 * length ds in
    let cs : List ℕ = take n (drop start chars) in
    let l : length cs ≡ n = length-take-le n (drop start chars) (omega (arith, d.long, length-drop start chars)) in
    let k : get_or (bytes cs) j 0 ≡ byte_of (get_or cs (2 * j) 0) (get_or cs (2 * j + 1) 0) = byte_at j cs (omega (arith, l)) in
    record {
      inside = omega (arith, d.long);
      is = sym (ap (λ (x : List ℕ). get_or x j 0) d.are ∙ k ∙ ap₂ byte_of (char (2 * j) (start + 2 * j) (omega arith) (omega arith))
          (char (2 * j + 1) (start + 2 * j + 1) (omega arith) (omega arith)));
    }
  where
    char : (i k : ℕ) → i < 2 * length ds → start + i ≡ k → get_or (take (2 * length ds) (drop start chars)) i 0 ≡ get_or chars k 0
    char i k g e = get_or-take (2 * length ds) (drop start chars) i 0 g ∙ get_or-drop start chars i 0 ∙ ap (λ (n : ℕ). get_or chars n 0) e

-- the characters of a data byte of a line
pub data_at : (format : Format) (chars : List ℕ) (j : ℕ) → j < length (bytes_in ((format_of format).part chars))
    → Pair chars (start_of format chars) (bytes_in ((format_of format).part chars)) j
data_at Records chars j h = pair_at chars (start_of Records chars) (bytes_in (carried (read chars))) j (record_digits chars (read chars) refl (omega arith)) h
data_at (Tape edition) chars j h = pair_at chars 7 (bytes_in (carriedLine (readLine chars))) j (tape_digits chars (readLine chars) refl (omega arith)) h

-- data stands behind the first two characters
pub start_least : (format : Format) (chars : List ℕ) → 4 ≤ start_of format chars
start_least Records chars = omega arith
start_least (Tape edition) chars = omega arith

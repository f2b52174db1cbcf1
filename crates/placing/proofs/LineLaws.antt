-- What one line of a tape that was checked leaves in memory; no line holds a header.
use mathlib.Core.Path.{◌≡◌, refl, sym, ap, ◌∙◌, subst}
use Prim.Native.Nat.{ℕ, ◌+◌, ◌-◌, ◌*◌, ◌≤◌}
use native.Mathlib.Omega.{arith}
use mathlib.Core.List.{List, [], ◌∷◌}
use lib.ListN.{length, get_or, take, drop}
use lib.Seq.{drop-drop}
use borrow.Author.Tests.{eq-eqb, ne_eqb}
use Rattle.lists.proofs.TestLaws.{Of, either}
use Rattle.lists.specs.Lists.{over}
use Rattle.hex_digits.specs.Digits.{byte_of, bytes, first_bad}
use Rattle.hex_digits.specs.Numbers.{number}
use Rattle.hex_digits.proofs.PairLaws.{take_bytes, drop_bytes}
use Rattle.text.specs.Lines.{Line}
use Rattle.text.specs.Scan.Step.{put}
use Rattle.text.specs.Finds.{first_header}
use Rattle.window.specs.Headers.{header_of}
use Rattle.text.specs.Terms.{header_in}
use Rattle.tape.specs.Reading.{Read, length_in, address_in, data_in, is_last, read}
use Rattle.tape.specs.Reading.Read.{good, bad}
use Rattle.tape.specs.Judging.{carries, carried}
use Rattle.tape_read.specs.Answers.{as_line}
use Rattle.tape_read.proofs.LineFieldLaws.{bs, length_at_lem, address_at, LineGot, line_got, length_data}
use Rattle.placing.specs.Stores.{stored_by, Placeable}
use Rattle.placing.proofs.DataLaws.{DataLine, digits_from, in_window, data_stored}

-- a line that has room was read
pub line_readable : (chars : List ℕ) (base size : ℕ) → Placeable base size (carried (read chars))
    → LineGot chars (address_in (bs chars)) (length_in (bs chars))
line_readable chars base size p = go (read chars) refl p
  where
    go : (r : Read) → read chars ≡ r → Placeable base size (carried r) → LineGot chars (address_in (bs chars)) (length_in (bs chars))
    go (bad f) e q = absurd q
    go (good x) e q =
        let g : LineGot chars (address_in x) (length_in x) = line_got chars 0 (address_in x) (length_in x) (sym (ap (as_line 0) e)) in
        subst (λ (a : ℕ). LineGot chars a (length_in (bs chars))) g.address_is (subst (LineGot chars (address_in x)) g.len_is g)

module _ (m chars : List ℕ) (base : ℕ) (g : LineGot chars (address_in (bs chars)) (length_in (bs chars))) where
  -- the last line stores nothing
  pub last_stored : length_in (bs chars) ≡ 0 → m ≡ stored_by base m (carried (read chars))
  unfolding carries is_last
  last_stored z = rw (g.is, eq-eqb (length_in (bs chars)) 0 z)

  -- another has data
  pub put_is : (length_in (bs chars) ≡ 0 → ⊥) → carried (read chars) ≡ put (address_in (bs chars)) (data_in (bs chars))
  unfolding carries is_last
  put_is z = rw (g.is, ne_eqb (length_in (bs chars)) 0 z)

  -- as many bytes as its length field says
  pub length_is : length (data_in (bs chars)) ≡ length_in (bs chars)
  length_is = length_data chars (length_in (bs chars)) refl g.long

  -- whose digits stand behind its address
  pub digits_are : data_in (bs chars) ≡ bytes (take (2 * length (data_in (bs chars))) (drop 7 chars))
  unfolding data_in
  digits_are =
      ap (take (length_in (bs chars))) (drop_bytes 3 (drop 1 chars) ∙ ap bytes (drop-drop 6 1 chars))
      ∙ take_bytes (length_in (bs chars)) (drop 7 chars) ∙ ap (λ (n : ℕ). bytes (take (2 * n) (drop 7 chars))) (sym length_is)

  -- it is for cells
  abbrev pub line_data : (length_in (bs chars) ≡ 0 → ⊥) → Placeable base (length m) (carried (read chars))
      → DataLine chars base (length m) 7 (carried (read chars))
  line_data z p = record {
    a = address_in (bs chars);
    ds = data_in (bs chars);
    is = put_is z;
    data_is = digits_are;
    twelve = subst (Placeable base (length m)) (put_is z) p;
  }

-- the line as code computes it
module _ (chars m : List ℕ) (base n : ℕ) (p : Placeable base (length m) (carried (read chars))) (e : n ≡ byte_of (get_or chars 1 0) (get_or chars 2 0)) where
  got : LineGot chars (address_in (bs chars)) (length_in (bs chars))
  got = line_readable chars base (length m) p

  count_at : n ≡ length_in (bs chars)
  count_at = e ∙ length_at_lem chars (omega (arith, got.long))

  -- its length
  pub long : length chars ≡ 11 + 2 * n
  long = omega (arith, got.long, count_at)

  -- the last line leaves memory as it is
  pub none_left : n ≡ 0 → m ≡ stored_by base m (carried (read chars))
  none_left z = last_stored m chars base got (sym count_at ∙ z)

  -- all characters of the data are digits
  pub data_digits : length (take (2 * n) (drop 7 chars)) ≤ first_bad (take (2 * n) (drop 7 chars))
  data_digits = digits_from chars 1 6 7 (2 * n) refl got.digits

  module _ (z : n ≡ 0 → ⊥) (address : ℕ) (q : address ≡ number (bytes (take 4 (drop 3 chars)))) where
    abbrev line : DataLine chars base (length m) 7 (carried (read chars))
    line = line_data m chars base got (λ y. z (count_at ∙ y)) p

    address_is : address ≡ address_in (bs chars)
    address_is = q ∙ address_at chars

    count_is : n ≡ length (data_in (bs chars))
    count_is = count_at ∙ sym (length_is m chars base got)

    -- some data bytes lie in the window
    pub within : (base ≤ address) × (address - base + n ≤ length m)
    within =
        let x = in_window m chars base 7 line (λ y. z (count_is ∙ y)) in
        (omega (arith, x.0, address_is), omega (arith, x.0, x.1, address_is, count_is))

    -- and are stored
    pub all_stored : (out : List ℕ) → out ≡ over m (address - base) (bytes (take (2 * n) (drop 7 chars))) → out ≡ stored_by base m (carried (read chars))
    all_stored out o = data_stored m chars base 7 line address n out address_is count_is o

-- what a line carries is no header
carries_none : (bs : List ℕ) → Of (λ x. header_in x [] ≡ []) (carries bs)
unfolding carries
carries_none bs = either (is_last bs) (record { got = refl }) (record { got = refl })

-- nor is what it carries that cannot be read
untitled : (r : Read) → header_in (carried r) [] ≡ []
untitled (bad f) = refl
untitled (good bs) = (carries_none bs).got

-- so a tape has none
pub tape_untitled : (ls : List Line) → header_of [] ≡ header_of (first_header (λ chars. carried (read chars)) ls)
tape_untitled [] = refl
tape_untitled (l ∷ ls) = ap header_of (sym (untitled (read l.chars)))

-- A record of the shape of a data record, read.
use mathlib.Core.Path.{◌≡◌, refl, ap, ◌∙◌}
use Prim.Native.Nat.{ℕ, zero, suc, ◌+◌, ◌-◌, ◌*◌, ◌/◌, ◌%◌, ◌≤◌}
use native.Mathlib.Omega.{arith}
use mathlib.Core.List.{List}
use lib.ListN.{length, get_or, take, drop}
use Rattle.hex_digits.specs.Digits.{byte_of, bytes, first_bad}
use Rattle.hex_digits.specs.Numbers.{number, sum}
use Rattle.hex_digits.proofs.DigitLaws.{value_small}
use Rattle.srec.specs.Kinds.{kind_of}
use Rattle.srec.specs.Reading.{read}
use Rattle.srec_fields.specs.Records.{width_or0, as_record}
use Rattle.srec_fields.specs.Shapes.{DataShape}
use Rattle.srec_fields.proofs.KindLaws.{known_type, row_6_data}
use Rattle.srec_fields.proofs.FieldLaws.{says, count_at}
use Rattle.srec_fields.proofs.ReadLaws.{Head, Sized, sized, checked, good_record}

-- the type of data records with w address bytes
data_kind : (w : ℕ) → 2 ≤ w → w ≤ 4 → w ≡ width_or0 (kind_of (47 + w))
unfolding kind_of
data_kind zero l h = absurd (omega arith)
data_kind (suc zero) l h = absurd (omega arith)
data_kind (suc (suc zero)) l h = refl
data_kind (suc (suc (suc zero))) l h = refl
data_kind (suc (suc (suc (suc zero)))) l h = refl
data_kind (suc (suc (suc (suc (suc w))))) l h = absurd (omega arith)

module _ (cs : List ℕ) (w : ℕ) (z : DataShape cs) (e : w ≡ get_or cs 1 0 - 47) where
  -- its count
  abbrev pub n : ℕ
  n = byte_of (get_or cs 2 0) (get_or cs 3 0)

  pub bounds : (2 ≤ w) × (w ≤ 4) × (w + 1 ≤ n) × (length cs ≡ 4 + 2 * n) × (length cs ≤ 514)
  bounds =
      (omega (arith, z.2, e), omega (arith, z.3, e), omega (arith, z.4, e), z.0, omega (arith, z.0, value_small (get_or cs 2 0), value_small (get_or cs 3 0)))

  -- rows 3 and 4 let it pass
  head : Head cs w
  head =
      let kind : 47 + w ≡ get_or cs 1 0 = omega (arith, e, z.2) in
      record {
        short = bounds.4;
        four = omega (arith, bounds.3);
        letter = z.1;
        type_known = known_type (get_or cs 1 0) w (data_kind w bounds.0 bounds.1 ∙ ap (λ (c : ℕ). width_or0 (kind_of c)) kind) (λ q. omega (arith, bounds.0, q));
      }

  -- so do rows 5 and 6 if all are digits
  data_sized : length (drop 2 cs) ≤ first_bad (drop 2 cs) → Sized cs w n
  data_sized d =
      sized cs w n head (count_at cs head.four)
      (row_6_data (get_or cs 1 0) w (length cs) n head.type_known bounds.3 bounds.2 z.3) d

  -- and row 7 if their sum is 255 modulo 256: the return of `read_data`
  pub data_good : length (drop 2 cs) ≤ first_bad (drop 2 cs) → sum (bytes (drop 2 cs)) % 256 ≡ 255
      → says (get_or cs 1 0) (number (bytes (take (2 * w) (drop 4 cs)))) (length cs / 2 - 2 - (w + 1)) ≡ as_record 0 (read cs)
  data_good d s =
      let t = data_sized d in
      let count : length cs / 2 - 2 ≡ n = omega (arith, bounds.3) in
      rw count (good_record cs w n t (checked cs w n t s) 0)

-- The statements of specs/Across.antt hold.
use mathlib.Core.Path.{◌≡◌, refl, sym, ap, subst}
use Prim.Native.Nat.{ℕ}
use native.Mathlib.Omega.{arith}
use mathlib.Core.List.{List, []}
use lib.ListN.{take}
use Rattle.window.specs.declared.Header.{Header}
use Rattle.window.specs.Windows.{Window}
use Rattle.std.specs.Prelude.{None, Some}
use Rattle.text.specs.Terms.{loaded, header_bytes}
use Rattle.text.proofs.FormatLaws.{HeaderOk}
use Rattle.text.proofs.AcrossLaws.{carry_over}
use Rattle.srec.specs.Formats.{srec}
use Rattle.srec.proofs.LimitLaws.{limits as recordLimits}
use Rattle.srec.proofs.SrecFormatLaws.{lawful as recordsLawful}
use Rattle.tape.specs.declared.Edition.{Edition}
use Rattle.tape.specs.Formats.{tape}
use Rattle.tape.proofs.TapeLimitLaws.{limits as tapeLimits}
use Rattle.tape.proofs.TapeFormatLaws.{lawful as tapesLawful}
use Rattle.tape.proofs.TapeFacts.{no_header_no_entry}
use Rattle.formats.specs.Across.{TapeToRecords, TapeToTape, RecordsToTape}

-- an empty header is within the limits of both formats
record_header : (h : List ℕ) → h ≡ [] → HeaderOk recordLimits h
record_header h e = subst (HeaderOk recordLimits) (sym e) (record { bytes = tt; short = omega arith })

tape_header : (h : List ℕ) → h ≡ [] → HeaderOk tapeLimits h
tape_header h e = subst (HeaderOk tapeLimits) (sym e) (record { bytes = tt; short = omega arith })

-- a loaded tape has an empty one
bare_header : (edition : Edition) (W : Window) (t : List ℕ) → header_bytes (loaded (tape edition) W t) ≡ []
bare_header edition W t = ap (λ (x : Header). take x.len x.bytes) (no_header_no_entry edition W t).header

-- what a tape loads has addresses of 16 bits, which S-records can have
pub tape_to_records : TapeToRecords
tape_to_records edition W t a room ok small r =
    carry_over (tape edition) srec tapeLimits recordLimits (tapesLawful edition) recordsLawful W t (header_bytes (loaded (tape edition) W t)) (Some a)
    room ok
    (λ s img b. record {
      rising = b.storable.rising;
      small = λ A B k. let q = b.storable.small A B k in (omega (arith, q.0), q.1);
      header = record_header (header_bytes (loaded (tape edition) W t)) (bare_header edition W t);
      entry = record { present = refl; small = small };
    }) r

-- both editions have the same limits
pub tape_to_tape : TapeToTape
tape_to_tape edition other W t room ok r =
    carry_over (tape edition) (tape other) tapeLimits tapeLimits (tapesLawful edition) (tapesLawful other) W t (header_bytes (loaded (tape edition) W t))
    None room ok
    (λ s img b. record {
      rising = b.storable.rising;
      small = b.storable.small;
      header = tape_header (header_bytes (loaded (tape edition) W t)) (bare_header edition W t);
      entry = record { present = refl; small = omega arith };
    }) r

-- S-records without a header and above FFFF nothing
pub records_to_tape : RecordsToTape
records_to_tape edition W t room ok empty below r =
    carry_over srec (tape edition) recordLimits tapeLimits recordsLawful (tapesLawful edition) W t (header_bytes (loaded srec W t)) None room ok
    (λ s img b. record {
      rising = b.storable.rising;
      small = λ A B k. (below A B ((b.members A B).0 k), (b.storable.small A B k).1);
      header = tape_header (header_bytes (loaded srec W t)) empty;
      entry = record { present = refl; small = omega arith };
    }) r

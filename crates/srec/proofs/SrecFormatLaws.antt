-- S-records are a lawful format.
use mathlib.Core.Path.{◌≡◌, refl, ap, subst}
use Prim.Native.Nat.{ℕ, ◌*◌, ◌^◌, ◌<◌}
use native.Mathlib.Omega.{arith}
use mathlib.Core.Bool.{true, false, not}
use mathlib.Core.List.{List}
use lib.ListN.{length}
use borrow.Author.Tests.{le-ltb}
use Rattle.window.specs.Entries.{Entry}
use Rattle.std.specs.Prelude.{None, Some}
use Rattle.window.specs.Windows.{Window, Allowed}
use Rattle.window.specs.Cells.{Cell, shown}
use Rattle.window.specs.Plans.{is_present, address_of}
use Rattle.window.specs.Plans.Plan.{done}
use Rattle.text.specs.Runs.{runs}
use Rattle.text.specs.Formats.{Row, plan}
use Rattle.text.proofs.RunLaws.{good_runs, cells_ok}
use Rattle.text.proofs.FormatLaws.{Storable, Gives, summary_of, NoRow, Lawful}
use Rattle.srec.specs.Reading.{read}
use Rattle.srec.specs.Canonical.{follow, largest, width_for, canonical}
use Rattle.srec.specs.Formats.{row18, rows, srec}
use Rattle.window.specs.Headers.{row15}
use Rattle.srec.proofs.LimitLaws.{limits, shared, judged_says, step_ok}
use Rattle.srec.proofs.CanonicalLaws.{Writable, text_gives}
use Rattle.srec.proofs.FitLaws.{in_largest, entry_largest, largest_below, wide_enough, width_is, all_fit, end_fit, head_fit}

-- the width that cells and entry ask
abbrev pub width_of : List Cell → Entry → ℕ
width_of cs e = width_for (largest (address_of e) cs)

-- this width holds the largest address, entry included
pub holds_all : (cs : List Cell) (h : List ℕ) (e : Entry) → Storable limits cs h e → largest (address_of e) cs < 2 ^ (8 * width_of cs e)
holds_all cs h e m = wide_enough (largest (address_of e) cs) (largest_below (address_of e) (2 ^ 32) cs m.entry.small (λ A B k. (m.small A B k).0))

-- what is storable can be written with this width
pub writable : (cs : List Cell) (h : List ℕ) (e : Entry) → Storable limits cs h e → Writable (width_of cs e) (runs follow cs) h (address_of e)
writable cs h e m =
    let a : ℕ = address_of e in
    let w : ℕ = width_of cs e in
    let l : largest a cs < 2 ^ (8 * w) = holds_all cs h e m in
    record {
      head = head_fit h m.header.bytes m.header.short;
      cells = all_fit w (runs follow cs) (width_is (largest a cs))
          (good_runs follow (2 ^ (8 * w)) cs (cells_ok (2 ^ (8 * w)) cs (λ A B k. (omega (arith, in_largest A B a cs k, l), (m.small A B k).1))));
      last = end_fit w a (width_is (largest a cs)) (omega (arith, entry_largest a cs, l));
    }

-- an entry that is present is the one at its address
there : (e : Entry) → is_present e ≡ true → Some (address_of e) ≡ e
there None q = absurd (let z : ◌≡◌ {A = ℕ} 0 1 = cc in omega arith)
there (Some a) q = refl

-- the canonical text of what is storable asks for the runs of its cells, and ends with its header and entry
canonical_gives : (cs : List Cell) (h : List ℕ) (e : Entry) → Storable limits cs h e
    → Gives (plan srec (canonical cs h e)) (runs follow cs) (done (summary_of (runs follow cs) h e))
unfolding plan canonical
canonical_gives cs h e m =
    subst (λ (x : Entry). Gives (plan srec (canonical cs h e)) (runs follow cs) (done (summary_of (runs follow cs) h x))) (there e m.entry.present)
    (text_gives (length (canonical cs h e)) (width_of cs e) (runs follow cs) h (address_of e) (writable cs h e m))

-- rows 15 and 18 let pass what is storable
no_row : (bad : Row) → bad.applies ≡ false → (W : Window) (h : List ℕ) (e : Entry) → Allowed W → Storable limits (shown W) h e → NoRow (rows bad W h e)
unfolding row15 row18
no_row bad odd W h e a m = (le-ltb 252 (length h) m.header.short, (odd, (ap not m.entry.present, tt)))

-- what every format has to show
pub lawful : Lawful srec limits
lawful = record {
  says = λ s cs. judged_says s (read cs);
  shared = shared;
  bounded = step_ok;
  gives = canonical_gives;
  passes = no_row;
}

-- Tapes of each edition are a lawful format.
use mathlib.Core.Path.{◌≡◌, refl, ap, ◌∙◌}
use Prim.Native.Nat.{ℕ, zero, suc, ◌^◌, ◌≤◌, ◌<◌}
use native.Mathlib.Omega.{arith}
use mathlib.Core.Bool.{false, not, ◌&&◌, and-false}
use mathlib.Core.List.{List, [], ◌∷◌}
use mathlib.Core.Logic.{inl, inr}
use lib.Dec.{ltb, eqb}
use lib.ListN.{length}
use borrow.Author.Tests.{le-ltb}
use Rattle.window.specs.Entries.{Entry}
use Rattle.std.specs.Prelude.{None, Some}
use Rattle.window.specs.Windows.{Window, Allowed}
use Rattle.window.specs.Images.{image}
use Rattle.window.specs.Cells.{Cell, Run, cells, shown}
use Rattle.window.specs.Plans.{is_present}
use Rattle.window.specs.Plans.Plan.{done}
use Rattle.window.proofs.CellLaws.{In}
use Rattle.window.proofs.RowLaws.{allowed_inv}
use Rattle.text.specs.Runs.{runs}
use Rattle.text.specs.Formats.{Row, plan}
use Rattle.text.proofs.RunLaws.{AllGood, good_runs, cells_ok, rising_runs, longest_runs}
use Rattle.text.proofs.FormatLaws.{Storable, Gives, summary_of, NoRow, Lawful}
use Rattle.tape.specs.declared.Edition.{Edition}
use Rattle.tape.specs.Reading.{read}
use Rattle.tape.specs.Canonical.{follow, canonical}
use Rattle.tape.specs.Formats.{row19, first_above, row11_marks, rows, tape}
use Rattle.tape.proofs.TapeLimitLaws.{limits, shared, judged_says, step_ok}
use Rattle.tape.proofs.TapeCanonicalLaws.{number_fits, text_gives}

-- no more than 0 bytes are none
pub no_bytes : (h : List ℕ) → length h ≤ 0 → [] ≡ h
no_bytes [] l = refl
no_bytes (b ∷ h) l = absurd (omega arith)

-- an entry that is not present is absent
pub no_entry : (e : Entry) → is_present e ≡ false → None ≡ e
no_entry None q = refl
no_entry (Some a) q = absurd (let z : ◌≡◌ {A = ℕ} 0 1 = cc in omega arith)

-- the canonical tape of what is storable asks for the runs of its cells, and ends without header and entry
canonical_gives : (edition : Edition) (cs : List Cell) (h : List ℕ) (e : Entry) → Storable limits cs h e
    → Gives (plan (tape edition) (canonical edition cs)) (runs follow cs) (done (summary_of (runs follow cs) h e))
unfolding plan canonical
canonical_gives edition cs h e m =
    let rs : List Run = runs follow cs in
    let g : AllGood follow (2 ^ 16) rs = good_runs follow (2 ^ 16) cs (cells_ok (2 ^ 16) cs m.small) in
    let k : Gives (plan (tape edition) (canonical edition cs)) rs (done (summary_of rs [] None))
    = text_gives edition (length (canonical edition cs)) rs g
    (number_fits rs g (longest_runs follow cs m.rising) (rising_runs follow cs m.rising)) in
    record { asks = k.asks; ends = k.ends ∙ (λ i. done (summary_of rs (no_bytes h m.header.short i) (no_entry e m.entry.present i))) }

-- a cell up to FFFF is not above it, marked or not
and_above : (m a : ℕ) → ltb 65535 a ≡ false → (not (eqb m 0) && ltb 65535 a) ≡ false
and_above m a e = rw e (and-false (not (eqb m 0)))

-- where no cell is above FFFF, no marked cell is found there
none_above : (a : ℕ) (memory marks : List ℕ) → length marks ≡ length memory → ((A B : ℕ) → In A B (cells a (image memory marks)) → A < 2 ^ 16)
    → first_above a marks ≡ length marks
none_above a memory [] e h = refl
none_above a [] (m ∷ marks) e h = absurd (omega arith)
none_above a (b ∷ memory) (zero ∷ marks) e h = ap suc (none_above (suc a) memory marks (omega arith) h)
none_above a (b ∷ memory) (suc m ∷ marks) e h =
    rw (and_above (suc m) a (le-ltb 65535 a (omega (arith, h a b (inl (refl, refl))))))
    (ap suc (none_above (suc a) memory marks (omega arith) (λ A B k. h A B (inr k))))

-- rows 16, 19 and 11 let pass what is storable
no_row : (bad : Row) → bad.applies ≡ false → (W : Window) (h : List ℕ) (e : Entry) → Allowed W → Storable limits (shown W) h e → NoRow (rows bad W h e)
unfolding row19 row11_marks
no_row bad odd W h e a m =
    let n : first_above W.base W.marks ≡ length W.marks
    = none_above W.base W.memory W.marks (allowed_inv W a).0 (λ A B k. (m.small A B k).0) in
    (odd, (rw (le-ltb 0 (length h) m.header.short, m.entry.present) refl, (rw n (le-ltb (length W.marks) (length W.marks) (omega arith)), tt)))

-- what every format has to show
pub lawful : (edition : Edition) → Lawful (tape edition) limits
lawful edition = record {
  says = λ s cs. judged_says edition s (read cs);
  shared = shared;
  bounded = step_ok edition;
  gives = canonical_gives edition;
  passes = no_row;
}

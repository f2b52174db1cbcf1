-- The statements of specs/Facts.antt hold.
use mathlib.Core.Path.{◌≡◌, refl, sym, subst}
use Prim.Native.Nat.{ℕ, suc, ◌+◌, ◌-◌, ◌%◌, ◌<◌}
use native.Mathlib.Omega.{arith}
use mathlib.Core.Bool.{true, false, not, ◌||◌}
use mathlib.Core.List.{List, [], ◌∷◌}
use mathlib.Core.Logic.{⊎_elim, ◌⊎◌, inl, inr}
use lib.Dec.{T, eqb, ltb}
use lib.ListN.{length}
use borrow.Author.Tests.{eqb-true, eq-eqb, ne_eqb, le-leb, lt-leb, le-ltb, lt-ltb, ltb-true, ltb-false, not-false}
use Rattle.window.specs.Entries.{Entry}
use Rattle.std.specs.Prelude.{None, Some}
use Rattle.window.specs.Images.{Image, image}
use Rattle.window.specs.Cells.{Run, shown}
use Rattle.window.specs.Plans.{Summary}
use Rattle.window.specs.Plans.Outcome.{accepted}
use Rattle.lists.proofs.TestLaws.{by_test, TTrue, and_both}
use Rattle.text.specs.Lines.{lines}
use Rattle.text.specs.Scan.{State, Step, start}
use Rattle.text.specs.Scan.Step.{refuse, skip, title, put, finish}
use Rattle.text.specs.Formats.{plan}
use Rattle.text.specs.Load.{load}
use Rattle.text.specs.Runs.{runs}
use Rattle.text.specs.Write.{text_of}
use Rattle.text.specs.Terms.{loaded}
use Rattle.text.proofs.WalkLaws.{Inductive, accepted_walk}
use Rattle.text.proofs.FormatLaws.{IsRefusal, EntryOk}
use Rattle.window.proofs.OrderLaws.{Rising, rising_image}
use Rattle.window.proofs.RoomLaws.{RisingRuns}
use Rattle.text.proofs.RunLaws.{AllSized, Longest, sized_runs, longest_runs, rising_runs}
use Rattle.text.proofs.LoadLaws.{load_inv, accepted_is, answer_given}
use Rattle.text.proofs.Facts.{text_is_loaded as carried, cells_are_data as data_bytes, cells_are_marks as marked, records_are_counted as counted, runs_marked}
use Rattle.srec.specs.Lines.{is_end}
use Rattle.srec.specs.Kinds.Kind.{S0, Data, S5, End}
use Rattle.srec.specs.Reading.{Read, row3, read}
use Rattle.srec.specs.Reading.Read.{good, bad}
use Rattle.srec.specs.Writing.{record_with}
use Rattle.srec.specs.Judging.{row8, row10, row11, judge, judged}
use Rattle.srec.specs.Canonical.{follow, line, count_line, canonical}
use Rattle.srec.specs.Formats.{srec}
use Rattle.srec.specs.Facts.{TextIsLoaded, ByteFor7, Never9, EntryIsPresent, CellsAreData, CellsAreMarks, RecordsAreCounted, Counted, TrueCounts, S5IsTrue, NeverEmpty, Rows, RunsAreRows, CountsTo65535, Row3From515}
use Rattle.srec.proofs.LimitLaws.{refuses, limits}
use Rattle.srec.proofs.SrecFormatLaws.{lawful}

-- an accepted load leaves what its text carries
pub text_is_loaded : TextIsLoaded
text_is_loaded = carried srec limits lawful

-- an accepted load counts the data bytes of its text
pub cells_are_data : CellsAreData
cells_are_data = data_bytes srec limits lawful

-- an accepted load counts as many cells as it leaves marks that are 1
pub cells_are_marks : CellsAreMarks
cells_are_marks = marked srec limits lawful

-- an accepted load counts the data records of its text
pub records_are_counted : RecordsAreCounted
records_are_counted = counted srec limits lawful

-- ---- S5

-- the data records after a step, n of them before it
abbrev records_after : ℕ → Step → ℕ
records_after n (refuse f) = n
records_after n skip = n
records_after n (title h) = n
records_after n (put a ds) = suc n
records_after n (finish e) = n

-- a record that is not refused is counted, and row 10 holds of an S5
count_step : (s : State) (r : Read) (x : Step) → judged s r ≡ x → (IsRefusal x → ⊥) → (rest : ℕ → Type 0)
    → rest (records_after s.records x) → Counted s.records r rest
unfolding judge row10
count_step s (bad f) x q n rest k = absurd (n (subst IsRefusal q tt))
count_step s (good S0 a ds) x q n rest k =
    by_test (row8 s) (λ b. absurd (n (subst IsRefusal (rw b at q) tt)))
    (λ b. subst (λ (y : Step). rest (records_after s.records y)) (sym (rw b at q)) k)
count_step s (good (Data w) a ds) x q n rest k =
    by_test (row11 w a (length ds)) (λ b. absurd (n (subst IsRefusal (rw b at q) tt)))
    (λ b. subst (λ (y : Step). rest (records_after s.records y)) (sym (rw b at q)) k)
count_step s (good S5 a ds) x q n rest k =
    by_test (row10 s a) (λ b. absurd (n (subst IsRefusal (rw b at q) tt)))
    (λ b. (eqb-true a s.records (not-false (eqb a s.records) b), subst (λ (y : Step). rest (records_after s.records y)) (sym (rw b at q)) k))
count_step s (good (End w) a ds) x q n rest k =
    subst (λ (y : Step). rest (records_after s.records y)) (sym q) k

-- the counts are true from each kind of record on where they are true behind it
true_counts : (t : Summary) → Inductive srec.step t (λ s ls p. TrueCounts s.records ls)
true_counts t = record {
  at_skip = λ s l ls p e k. count_step s (read l.chars) skip e (λ r. r) (λ m. TrueCounts m ls) k;
  at_title = λ s l ls p h e k. count_step s (read l.chars) (title h) e (λ r. r) (λ m. TrueCounts m ls) k;
  at_put = λ s l ls p a ds e k. count_step s (read l.chars) (put a ds) e (λ r. r) (λ m. TrueCounts m ls) k;
  at_finish = λ s l e q m. count_step s (read l.chars) (finish e) q (λ r. r) (λ m. TrueCounts m []) tt;
}

-- in an accepted text every S5 has the number of data records before it
pub s5_is_true : S5IsTrue
unfolding plan
s5_is_true W t h =
    let l : (s : Summary) × (img : Image) × (load W (plan srec t) ≡ accepted s img) = accepted_is srec limits lawful W t h in
    accepted_walk srec.step l.0 (λ s ls p. TrueCounts s.records ls) (true_counts l.0) (length t) (lines is_end 0 t) start
    (load_inv srec limits lawful W t l.0 l.1 l.2).ends

-- ---- the canonical text

-- the canonical text has at least one character, whatever the window
pub never_empty : NeverEmpty
unfolding text_of canonical line record_with
never_empty W header entry = omega arith

-- runs that keep to the cut rule and are longest are rows of sixteen
rows_of : (lo : ℕ) (rs : List Run) → AllSized follow rs → RisingRuns lo rs → Longest follow rs → Rows rs
unfolding follow
rows_of lo [] g h l = tt
rows_of lo (r ∷ []) g h l = (record { some = g.0; row = omega (arith, g.1) }, tt, tt)
rows_of lo (r ∷ q ∷ rs) g h l = (
  record { some = g.0; row = omega (arith, g.1) },
  ⊎_elim (λ k. inl k) (λ k. full k) l.0,
  rows_of (r.addr + length r.bytes)
      (q ∷ rs) g.2 h.1 l.1,
)
  where
    full : length r.bytes ≡ suc (15 - r.addr % 16)
        → (r.addr + length r.bytes < q.addr) ⊎ ((r.addr + length r.bytes ≡ q.addr) × (q.addr % 16 ≡ 0))
    full k =
        by_test (ltb (r.addr + length r.bytes) q.addr) (λ t. inl (ltb-true (r.addr + length r.bytes) q.addr t))
        (λ t. let e : r.addr + length r.bytes ≡ q.addr = omega (arith, ltb-false (r.addr + length r.bytes) q.addr t, h.1.0) in
        inr (e, omega (arith, e, k)))

-- the data records of a window are its marked cells, cut into rows
pub runs_are_rows : RunsAreRows
runs_are_rows W a odd =
    let rising : Rising 0 (shown W) = rising_image W.base (image W.memory W.marks) in
    record {
      cells = runs_marked follow W a odd;
      rows = rows_of 0 (runs follow (shown W)) (sized_runs follow (shown W)) (rising_runs follow (shown W) rising)
          (longest_runs follow (shown W) rising);
    }

-- S5 is written up to 65,535 data records
pub counts_to_65535 : CountsTo65535
unfolding count_line
counts_to_65535 = record { counted = λ n rest h. rw (le-leb n 65535 h); left_out = λ n rest h. rw (lt-leb n 65535 h) }

-- a record may have 514 characters, and not one more
pub row_3_from_515 : Row3From515
unfolding row3
row_3_from_515 = record { pass = λ chars h. le-ltb 514 (length chars) h; refuse = λ chars h. lt-ltb 514 (length chars) h }

-- ---- the entry

-- an entry that keeps to the limits of S-records is there
present : (e : Entry) → EntryOk limits e → (a : ℕ) × (e ≡ Some a)
present None k = absurd (let q : false ≡ true = k.present in let z : ◌≡◌ {A = ℕ} 0 1 = cc in omega arith)
present (Some a) k = (a, refl)

-- a row that a load may be refused by is not 9, and has a byte only if it is 7
not_9 : (n w : ℕ) → T (refuses n w) → n ≡ 9 → ⊥
not_9 n w h e = rw (eq-eqb n 9 e) at h

no_byte : (n w : ℕ) → T (refuses n w) → (n ≡ 7 → ⊥) → w ≡ 0
no_byte n w h k = eqb-true w 0 (rw (ne_eqb n 7 k) at (and_both (not (eqb n 9)) (eqb n 7 || eqb w 0) (TTrue h)).1)

-- row 7 alone has a byte
pub byte_for_7 : ByteFor7
byte_for_7 W t k =
    let f = (loaded srec W t).refusal in
    ⊎_elim (λ z. z.1) (λ g. no_byte f.reason f.want g.1 k) (answer_given srec limits lawful W t)

-- no load is refused by row 9
pub never_9 : Never9
never_9 W t e =
    let f = (loaded srec W t).refusal in
    ⊎_elim (λ z. omega (arith, z.0, e)) (λ g. not_9 f.reason f.want g.1 e) (answer_given srec limits lawful W t)

-- every accepted load has an entry
pub entry_is_present : EntryIsPresent
entry_is_present W t h =
    let l : (s : Summary) × (img : Image) × (load W (plan srec t) ≡ accepted s img) = accepted_is srec limits lawful W t h in
    let e = present l.0.entry (load_inv srec limits lawful W t l.0 l.1 l.2).storable.entry in
    rw l.2 e

-- What `size_of` has counted so far, and the rest, make up the whole.
use mathlib.Core.Path.{◌≡◌, refl, sym, ap, ◌∙◌}
use Prim.Native.Nat.{ℕ, zero, suc, ◌+◌, ◌-◌, ◌*◌, ◌/◌, ◌≤◌, ◌<◌, max}
use native.Mathlib.Nat.{add-zero, zero-add}
use native.Mathlib.Omega.{arith}
use mathlib.Core.List.{List, [], ◌∷◌, ◌++◌, map}
use mathlib.Core.Option.{some}
use lib.ListN.{length, take, drop, length-append}
use Rattle.window.specs.Cells.{Cell, cells, shown, cells_of, flat}
use Rattle.window.proofs.CellLaws.{length_cells}
use Rattle.text.specs.Runs.{runs}
use Rattle.window.specs.Walks.{unmarked}
use Rattle.text.proofs.RunLaws.{flat_runs}
use Rattle.text.proofs.RunWalkLaws.{cells_from, NextAt, from_next, from_zero, from_end, EndsAt, run_bounds, run_at, length_run, runs_at}
use Rattle.srec.specs.Canonical.{largest}
use Rattle.formats.specs.declared.Format.{Format}
use Rattle.formats.specs.Choices.{follow_of}
use Rattle.size.specs.declared.Size.{Size}
use Rattle.window.specs.Windows.{window_of}
use Rattle.size.specs.Sizes.{size_of}
use Rattle.size.specs.Rows.{IsRow, AreRows, RowsTo}
use Rattle.size.proofs.RowLaws.{row_marked}

-- ---- the largest address

-- the entry may be a larger address
largest_more : (e x : ℕ) (cs : List Cell) → largest (max e x) cs ≡ max x (largest e cs)
largest_more e x [] = omega arith
largest_more e x (c ∷ cs) = omega (arith, largest_more e x cs)

-- cells of one run before the others
largest_run : (e a b : ℕ) (bs : List ℕ) (cs : List Cell) → largest e (cells a (map some (b ∷ bs)) ++ cs) ≡ max (a + length bs) (largest e cs)
largest_run e a b [] cs = omega arith
largest_run e a b (c ∷ bs) cs = omega (arith, largest_run e (suc a) c bs cs)

-- the last cell of a run is its largest
largest_behind : (e a n : ℕ) (bs : List ℕ) (cs : List Cell) → length bs ≡ suc n → largest e (cells a (map some bs) ++ cs) ≡ largest (max e (a + n)) cs
largest_behind e a n [] cs h = absurd (omega arith)
largest_behind e a n (b ∷ bs) cs h =
    let q : length bs ≡ n = omega arith in
    largest_run e a b bs cs ∙ ap (λ (k : ℕ). max (a + k) (largest e cs)) q ∙ sym (largest_more e (a + n) cs)

-- ---- counted so far

-- data lines, cells and largest address so far, which those of the rest complete to those of the whole
pub record Measured (format : Format) (whole rest : List Cell) (entry records cells top : ℕ) : Type 0 where
  pub all_records : records + length (runs (follow_of format) rest) ≡ length (runs (follow_of format) whole)
  pub all_cells : cells + length rest ≡ length whole
  pub the_largest : largest top rest ≡ largest entry whole

module _ (format : Format) where
  -- where runs are cut
  abbrev follow : ℕ → ℕ
  follow = follow_of format

  -- before the first run nothing is counted
  pub measured_start : (base : ℕ) (memory marks : List ℕ) (entry i : ℕ) → NextAt marks 0 i
      → Measured format (shown (window_of base memory marks)) (cells_from base memory marks i) entry 0 0 entry
  measured_start base memory marks entry i q =
      let e : cells_from base memory marks i ≡ shown (window_of base memory marks)
      = from_next base memory marks 0 i q ∙ from_zero base memory marks in
      record { all_records = rw e (zero-add _); all_cells = rw e (zero-add _); the_largest = rw e }

  module _ (base : ℕ) (memory marks : List ℕ) (i j : ℕ) (e : length memory ≡ length marks) (h : i < length marks)
      (g : unmarked (drop i marks) ≡ 0) (q : EndsAt follow base marks i j) where
    -- the cells from a marked cell on: those of its run, and those behind it
    cells_at : cells_from base memory marks i ≡ cells_of (run_at base memory i j) ++ cells_from base memory marks j
    cells_at =
        sym (flat_runs follow (cells_from base memory marks i)) ∙ ap flat (runs_at follow base memory marks i j e h g q)
        ∙ ap (λ (cs : List Cell). cells_of (run_at base memory i j) ++ cs) (flat_runs follow (cells_from base memory marks j))

    -- a run more, up to where the same cells are left
    pub measured_run : (whole : List Cell) (entry records count top n : ℕ) → cells_from base memory marks n ≡ cells_from base memory marks j
        → Measured format whole (cells_from base memory marks i) entry records count top
        → Measured format whole (cells_from base memory marks n) entry (records + 1) (count + (j - i)) (max top (base + (j - 1)))
    measured_run whole entry records count top n f m =
        let b : (i < j) × (j ≤ length marks) × (j ≤ i + 1 + follow (base + i)) = run_bounds follow base marks i j h g q in
        let own : List ℕ = take (j - i) (drop i memory) in
        let l : length own ≡ j - i = length_run memory i j (omega (arith, b.1)) in
        let last : base + i + (j - i - 1) ≡ base + (j - 1) = omega (arith, b.0) in
        record {
          all_records = rw f (omega (arith, m.all_records, ap length (runs_at follow base memory marks i j e h g q)));
          all_cells = rw f
              (omega (
                arith,
                b.0,
                m.all_cells,
                ap length cells_at
                    ∙ length-append (cells (base + i) (map some own)) (cells_from base memory marks j),
                length_cells (base + i) own,
                l,
              ));
          the_largest = rw (f, ← last)
              (sym (ap (largest top) cells_at ∙ largest_behind top (base + i) (j - i - 1) own (cells_from base memory marks j)
              (omega (arith, b.0, l))) ∙ m.the_largest);
        }

    -- a run more, and the gap after it: a turn of `size_of`
    pub measured_more : (whole : List Cell) (entry records count top n : ℕ) → NextAt marks j n
        → Measured format whole (cells_from base memory marks i) entry records count top
        → Measured format whole (cells_from base memory marks n) entry (records + 1) (count + (j - i)) (max top (base + (j - 1)))
    measured_more whole entry records count top n p = measured_run whole entry records count top n (from_next base memory marks j n p)

  module _ (base : ℕ) (memory marks : List ℕ) (e : length memory ≡ length marks) (whole : List Cell) (entry : ℕ) where
    -- counted up to index i
    abbrev Upto : ℕ → ℕ → ℕ → ℕ → Type 0
    Upto i records count top = Measured format whole (cells_from base memory marks i) entry records count top

    -- a row is a run of sixteen cells
    measured_row : (i records count top : ℕ) → IsRow format base marks (length marks) i → Upto i records count top
        → Upto (i + 16) (records + 1) (count + 16) (max top (base + (i + 15)))
    measured_row i records count top row m =
        let wide : i + 16 - i ≡ 16 = omega arith in
        let last : i + 16 - 1 ≡ i + 15 = omega arith in
        rw (wide, last) at
        (measured_run base memory marks i (i + 16) e (omega (arith, row.0)) (row_marked format base marks (length marks) i row) row.1
        whole entry records count top (i + 16) refl m)

    -- rows one after the other
    measured_rows : (at n records count top : ℕ) → AreRows format base marks (length marks) at (suc n) → Upto at records count top
        → Upto (at + 16 * n + 16) (records + (n + 1)) (count + (16 * n + 16)) (max top (base + (at + 16 * n + 15)))
    measured_rows at zero records count top h m =
        let here : at + 16 * 0 ≡ at = omega arith in
        rw here (measured_row at records count top (rw here at h.1) m)
    measured_rows at (suc n) records count top h m =
        let before = measured_rows at n records count top h.0 m in
        let i : ℕ = at + 16 * suc n in
        let here : at + 16 * n + 16 ≡ i = omega arith in
        let more = measured_row i (records + (n + 1)) (count + (16 * n + 16)) (max top (base + (at + 16 * n + 15))) h.1 (rw here at before) in
        let lines : records + (n + 1) + 1 ≡ records + (suc n + 1) = omega arith in
        let cells : count + (16 * n + 16) + 16 ≡ count + (16 * suc n + 16) = omega arith in
        let last : max (max top (base + (at + 16 * n + 15))) (base + (i + 15)) ≡ max top (base + (i + 15)) = omega arith in
        rw (lines, cells, last) at more

    -- all of them, and the gap after them: a turn of `size_of`
    pub measured_stretch : (at to n records count top : ℕ) → RowsTo format base marks (length marks) at to → (to ≡ at → ⊥) → NextAt marks to n
        → Upto at records count top → Upto n (records + (to - at) / 16) (count + (to - at)) (max top (base + (to - 1)))
    measured_stretch at to n records count top (zero, k, h) any q m = absurd (any (omega arith))
    measured_stretch at to n records count top (suc r, k, h) any q m =
        let lines : r + 1 ≡ (to - at) / 16 = omega arith in
        let cells : 16 * r + 16 ≡ to - at = omega arith in
        let last : at + 16 * r + 15 ≡ to - 1 = omega arith in
        let end : at + 16 * r + 16 ≡ to = omega arith in
        rw (from_next base memory marks to n q) (rw (lines, cells, last, end) at (measured_rows at r records count top h m))

  -- behind the last run all is counted: the return of `size_of`
  pub measured_end : (base : ℕ) (memory marks : List ℕ) (entry records count top i : ℕ) → length memory ≡ length marks → length marks ≤ i
      → Measured format (shown (window_of base memory marks)) (cells_from base memory marks i) entry records count top
      → ◌≡◌ {A = Size} (record { records = records; cells = count; largest = top }) (size_of format (shown (window_of base memory marks)) entry)
  measured_end base memory marks entry records count top i e h m =
      let none : cells_from base memory marks i ≡ [] = from_end base memory marks i e h in
      let r : records ≡ length (runs follow (shown (window_of base memory marks))) = sym (add-zero records) ∙ (rw none at m.all_records) in
      let c : count ≡ length (shown (window_of base memory marks)) = sym (add-zero count) ∙ (rw none at m.all_cells) in
      let t : top ≡ largest entry (shown (window_of base memory marks)) = rw none at m.the_largest in
      λ k. record { records = r k; cells = c k; largest = t k }

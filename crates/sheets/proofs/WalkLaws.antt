-- A walk over the pairs of a sheet, whatever it keeps of the image: what is left gives what the whole gives.
use mathlib.Core.Path.{◌≡◌, refl, sym, ap, ◌∙◌, subst}
use Prim.Native.Nat.{ℕ, ◌+◌, ◌-◌, ◌≤◌}
use native.Mathlib.Omega.{arith}
use mathlib.Core.Bool.{false}
use mathlib.Core.List.{List, [], ◌∷◌}
use lib.ListN.{length, drop, length-drop}
use lib.Seq.{length-take-le}
use Rattle.std.specs.Prelude.{Option, Some, None, Result, Ok, Err}
use Rattle.window.specs.Images.{Image, blank}
use Rattle.window.specs.Plans.{refusal, Outcome, row12, row13, filled, placed}
use Rattle.window.specs.Plans.Plan.{store}
use Rattle.window.specs.Plans.Outcome.{refused, accepted}
use Rattle.window.proofs.RoomLaws.{length_blank, fill_length}
use Rattle.symbol_table.specs.Symbols.{Symbol}
use Rattle.operands.specs.Values.{row_of}
use Rattle.sheet_fields.specs.declared.Fault.{Fault}
use Rattle.sheet_fields.specs.declared.Store.{Store}
use Rattle.sheet_fields.specs.Fields.{fields_from, fields}
use Rattle.sheets.specs.Sheets.{summary, planned, sheet_plan}
use Rattle.sheet_fields.specs.Pairs.{pair_at}
use Rattle.sheets.proofs.TurnLaws.{bytes_at, Within, within, by_pair, turned}

-- the outcome of the whole sheet
abbrev pub whole_of : List Symbol → List ℕ → ℕ → ℕ → Outcome
whole_of S sheet base size = placed base (blank size) (sheet_plan S sheet)

-- the walk has come to `at`, k fields, n pairs and c cells being read
pub record Walk (S : List Symbol) (sheet : List ℕ) (base size : ℕ) (img : Image) (k n c at : ℕ) : Type 0 where
  pub fuel : ℕ
  pub inside : at ≤ length sheet
  pub enough : length sheet - at ≤ fuel
  pub long : length img ≡ size
  pub rest : placed base img (planned S k n c (fields_from fuel sheet at)) ≡ whole_of S sheet base size

-- before the first field
pub walk_start : (S : List Symbol) (sheet : List ℕ) (base size : ℕ) → Walk S sheet base size (blank size) 0 0 0 0
unfolding sheet_plan fields
walk_start S sheet base size = record { fuel = length sheet; inside = omega arith; enough = omega arith; long = length_blank size; rest = refl }

-- the bytes from f to t are t - f
pub bytes_long : (sheet : List ℕ) (f t : ℕ) → f ≤ t → t ≤ length sheet → length (bytes_at sheet f t) ≡ t - f
bytes_long sheet f t h l = length-take-le (t - f) (drop f sheet) (omega (arith, length-drop f sheet))

module _ (S : List Symbol) (sheet : List ℕ) (base size : ℕ) (img : Image) (k n c at : ℕ) (w : Walk S sheet base size img k n c at) where
  abbrev whole : Outcome
  whole = whole_of S sheet base size

  turn : (x : Option (Result Store Fault)) → x ≡ pair_at S sheet at → placed base img (by_pair S sheet at k n c w.fuel x) ≡ whole
  turn x q =
      ap (λ y. placed base img (by_pair S sheet at k n c w.fuel y)) q
      ∙ ap (placed base img) (sym (turned S sheet at k n c w.fuel w.enough)) ∙ w.rest

  -- no field is left: the sheet is accepted
  pub walk_end : None ≡ pair_at S sheet at → accepted (summary n c) img ≡ whole
  walk_end q = turn None q

  module _ (b : Fault) (q : Some (Err b) ≡ pair_at S sheet at) where
    -- a field is refused
    pub walk_bad : refused (refusal (row_of b.error) (k + b.which) b.place) ≡ whole
    walk_bad = turn (Some (Err b)) q

    -- it is the first or the second of its pair
    pub bad_which : b.which ≤ 2
    bad_which = subst (Within S sheet at) (sym q) (within S sheet at)

  module _ (p : Store) (q : Some (Ok p) ≡ pair_at S sheet at) where
    abbrev bytes : List ℕ
    bytes = bytes_at sheet p.from p.to

    -- where its bytes stand
    pub store_within : (at + 6 ≤ p.from) × (p.from ≤ p.to) × (p.to ≤ length sheet)
    store_within = subst (Within S sheet at) (sym q) (within S sheet at)

    -- the outcome is that of storing them, and the rest
    pub walk_store : placed base img (store (k + 2) p.place p.address bytes (planned S (k + 2) (n + 1) (c + length bytes) (fields_from (w.fuel - 1 - 1) sheet p.to))) ≡ whole
    walk_store = turn (Some (Ok p)) q

    -- rows 12 and 13 let them pass: the walk goes on
    pub walk_put : row12 base (length img) p.address (length bytes) ≡ false → row13 base img p.address (length bytes) ≡ false
        → Walk S sheet base size (filled base img p.address bytes) (k + 2) (n + 1) (c + length bytes) p.to
    walk_put twelve thirteen =
        record {
          fuel = w.fuel - 1 - 1;
          inside = store_within.2;
          enough = omega (arith, w.enough, store_within.0, store_within.1, store_within.2);
          long = fill_length base img (record { addr = p.address; bytes = bytes } ∷ []) (twelve, thirteen, tt) ∙ w.long;
          rest = sym (rw (twelve, thirteen) refl) ∙ walk_store;
        }

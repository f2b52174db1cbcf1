-- The walk over the pairs of a sheet: the span so far, with what is left, is that of the whole.
use mathlib.Core.Path.{◌≡◌, refl, sym, ap, ◌∙◌, subst}
use Prim.Native.Nat.{ℕ, ◌+◌, ◌-◌, ◌≤◌}
use native.Mathlib.Omega.{arith}
use mathlib.Core.List.{List}
use lib.ListN.{length}
use Rattle.std.specs.Prelude.{Option, Some, None, Result, Ok, Err}
use Rattle.symbol_table.specs.Symbols.{Symbol}
use Rattle.sheet_fields.specs.declared.Fault.{Fault}
use Rattle.sheet_fields.specs.declared.Store.{Store}
use Rattle.sheet_fields.specs.Fields.{fields_from, fields}
use Rattle.sheet_fields.specs.Pairs.{pair_at}
use Rattle.sheets.specs.Sheets.{planned, sheet_plan}
use Rattle.sheets.proofs.TurnLaws.{bytes_at, Within, within, by_pair, turned}
use Rattle.sheets.proofs.WalkLaws.{bytes_long}
use Rattle.spans.specs.declared.Span.{Span}
use Rattle.spans.specs.Spans.{stores_of, no_span, widened, span_with, span_of}

-- the walk has come to `at`, k fields, n pairs and c cells being read
pub record Going (S : List Symbol) (sheet : List ℕ) (span : Span) (at : ℕ) : Type 0 where
  pub fuel : ℕ
  pub k : ℕ
  pub n : ℕ
  pub c : ℕ
  pub inside : at ≤ length sheet
  pub enough : length sheet - at ≤ fuel
  pub rest : span_with span (stores_of (planned S k n c (fields_from fuel sheet at))) ≡ span_of (sheet_plan S sheet)

-- before the first field
pub going_start : (S : List Symbol) (sheet : List ℕ) → Going S sheet no_span 0
unfolding sheet_plan fields
going_start S sheet = record { fuel = length sheet; k = 0; n = 0; c = 0; inside = omega arith; enough = omega arith; rest = refl }

module _ {S : List Symbol} {sheet : List ℕ} {span : Span} {at : ℕ} (g : Going S sheet span at) where
  -- what is left by the pair at hand
  turn : (x : Option (Result Store Fault)) → x ≡ pair_at S sheet at → span_with span (stores_of (by_pair S sheet at g.k g.n g.c g.fuel x)) ≡ span_of (sheet_plan S sheet)
  turn x q =
      ap (λ y. span_with span (stores_of (by_pair S sheet at g.k g.n g.c g.fuel y))) q
      ∙ ap (λ p. span_with span (stores_of p)) (sym (turned S sheet at g.k g.n g.c g.fuel g.enough)) ∙ g.rest

  -- no field is left
  pub going_end : None ≡ pair_at S sheet at → span ≡ span_of (sheet_plan S sheet)
  going_end q = turn None q

  -- a field is refused
  pub going_bad : (b : Fault) → Some (Err b) ≡ pair_at S sheet at → span ≡ span_of (sheet_plan S sheet)
  going_bad b q = turn (Some (Err b)) q

  module _ (p : Store) (q : Some (Ok p) ≡ pair_at S sheet at) where
    abbrev bytes : List ℕ
    bytes = bytes_at sheet p.from p.to

    -- where the bytes of the pair stand
    pub where_at : (at + 6 ≤ p.from) × (p.from ≤ p.to) × (p.to ≤ length sheet)
    where_at = subst (Within S sheet at) (sym q) (within S sheet at)

    -- they are taken into the span
    pub going_store : (s' : Span) → s' ≡ widened span p.address (p.to - p.from) → Going S sheet s' p.to
    going_store s' e =
        let long : length bytes ≡ p.to - p.from = bytes_long sheet p.from p.to where_at.1 where_at.2 in
        record {
          fuel = g.fuel - 1 - 1;
          k = g.k + 2;
          n = g.n + 1;
          c = g.c + length bytes;
          inside = where_at.2;
          enough = omega (arith, g.enough, where_at.0, where_at.1, where_at.2);
          rest = ap (λ (z : Span). span_with z (stores_of (planned S (g.k + 2) (g.n + 1) (g.c + length bytes) (fields_from (g.fuel - 1 - 1) sheet p.to))))
              (e ∙ ap (widened span p.address) (sym long)) ∙ turn (Some (Ok p)) q;
        }

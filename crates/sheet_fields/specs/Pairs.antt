-- One pair of fields of a patch sheet, as the reading functions take it (Req 13); sheets `Sheets` says what a sheet means.
use Rattle.std.specs.Prelude.{ℕ, ◌+◌, cond, List, leb, eqb, length, get_or, take, drop, Option, Some, None, Result, Ok, Err}
use Rattle.symbol_table.specs.Symbols.{Symbol}
use Rattle.operands.specs.declared.ExpressionError.{ExpressionError}
use Rattle.operands.specs.declared.ExpressionError.TheVariants.{Malformed}
use Rattle.operands.specs.Values.{worth_of}
use Rattle.sheet_fields.specs.declared.Fault.{Fault}
use Rattle.sheet_fields.specs.declared.Store.{Store}
use Rattle.sheet_fields.specs.Fields.{length_at, end_at, field_at, is_field}

-- a refused field
abbrev pub bad : ExpressionError → ℕ → ℕ → Result Store Fault
bad e which place = Err (record { error = e; which = which; place = place })

-- the second field of a pair, at `mid`, for the address a
unfoldable pub second_at : List ℕ → ℕ → ℕ → Result Store Fault
second_at sheet mid a =
    cond (is_field 2 (field_at sheet mid)) (Ok (record { place = mid; address = a; from = mid + 3; to = end_at sheet mid })) (bad Malformed 2 mid)

-- the first field, at `at`, whose text is worth w
unfoldable pub first_at : List ℕ → ℕ → Result ℕ ExpressionError → Result Store Fault
first_at sheet at (Ok a) = second_at sheet (end_at sheet at) a
first_at sheet at (Err e) = bad e 1 at

-- the pair whose first field stands at a place; without a byte behind the first field that one is bad, whatever it is
unfoldable pub read_at : List Symbol → List ℕ → ℕ → Result Store Fault
read_at S sheet at =
    cond (leb (length sheet) (end_at sheet at)) (bad Malformed 1 at)
    (cond (eqb (get_or sheet at 0) 1) (first_at sheet at (worth_of S (take (length_at sheet at) (drop (at + 3) sheet)))) (bad Malformed 1 at))

-- the pair at a place, if a field stands there
unfoldable pub pair_at : List Symbol → List ℕ → ℕ → Option (Result Store Fault)
pair_at S sheet at = cond (leb (length sheet) at) None (Some (read_at S sheet at))

-- Parts of an expression put together, as the reading functions do it.
use Rattle.std.specs.Prelude.{ℕ, ◌+◌, ◌-◌, ◌^◌, cond, List, leb, ltb, eqb, get_or, Option, Some, None, Result, Ok, Err}
use Rattle.lists.specs.Characters.{char}
use Rattle.operands.specs.declared.Part.{Part}
use Rattle.operands.specs.declared.ValueError.{ValueError}
use Rattle.operands.specs.declared.ValueError.TheVariants.{UnknownName, OutOfRange}

-- behind a part of the form stands the closing bracket
unfoldable pub closed : List ℕ → Option Part → Option Part
closed s None = None
closed s (Some p) = cond (eqb (get_or s p.next 0) (char ")")) (Some (record { value = p.value; next = p.next + 1 })) None

-- a sum, or row 27
abbrev pub sum_value : ℕ → ℕ → Result ℕ ValueError
sum_value v w = cond (ltb (v + w) (2 ^ 32)) (Ok (v + w)) (Err OutOfRange)

-- a difference, or row 27
abbrev pub difference_value : ℕ → ℕ → Result ℕ ValueError
difference_value v w = cond (leb w v) (Ok (v - w)) (Err OutOfRange)

-- two values under a sign: row 26 of either, row 27 of either, then the result
abbrev pub joined_value : Result ℕ ValueError → ℕ → Result ℕ ValueError → Result ℕ ValueError
joined_value (Err UnknownName) sign y = Err UnknownName
joined_value (Err OutOfRange) sign (Err UnknownName) = Err UnknownName
joined_value (Err OutOfRange) sign (Err OutOfRange) = Err OutOfRange
joined_value (Err OutOfRange) sign (Ok w) = Err OutOfRange
joined_value (Ok v) sign (Err e) = Err e
joined_value (Ok v) sign (Ok w) = cond (eqb sign (char "+")) (sum_value v w) (difference_value v w)

-- a part of the form; what has not the form counts as 0 at place 0
abbrev pub part_or0 : Option Part → Part
part_or0 None = record { value = Ok 0; next = 0 }
part_or0 (Some p) = p

-- two parts under a sign
abbrev pub joined : Option Part → ℕ → Option Part → Part
joined a sign b = record { value = joined_value (part_or0 a).value sign (part_or0 b).value; next = (part_or0 b).next }

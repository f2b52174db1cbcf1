-- The address where a program starts, if an image has one.
use Rattle.std.specs.Prelude.{ℕ, Option}

abbrev pub Entry : Type 0
Entry = Option ℕ

-- Symbols and their table: a stretch of a symbol block, its words being names and numbers in turn (Req 13).
use Rattle.std.specs.Prelude as Rust
use Rattle.std.specs.Prelude.{ℕ, Bool, true, false, cond, List, [], ◌∷◌, drop}
use Rattle.std.proofs.Math.Option.{Option, none, some}
use Rattle.text.specs.Lines.{Line, lines}
use Rattle.words.specs.Words.{is_blank, number_in, same}

-- a name, and what it stands for
pub record Symbol : Type 0 where
  pub name : List ℕ
  pub value : ℕ

-- "`NAME $hex` pairs", one word after the other
abbrev pub in_pairs : List Line → List Symbol
in_pairs [] = []
in_pairs (n ∷ []) = []
in_pairs (n ∷ v ∷ ws) = record { name = n.chars; value = number_in (drop 1 v.chars) } ∷ in_pairs ws

-- the symbols of a table
unfoldable pub symbols_in : List ℕ → List Symbol
symbols_in table = in_pairs (lines is_blank 0 table)

-- what a name stands for, if it is a symbol
abbrev pub meaning : List Symbol → List ℕ → Option ℕ
meaning [] name = none
meaning (s ∷ ss) name = let r = meaning ss name in cond (same s.name name) (some s.value) r

-- it stands for something
abbrev pub is_some : Option ℕ → Bool
is_some none = false
is_some (some v) = true

-- that in Rust's `Option`
abbrev pub sought : Option ℕ → Rust.Option ℕ
sought none = Rust.None
sought (some v) = Rust.Some v

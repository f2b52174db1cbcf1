-- Names of a line that are symbols already, as a loop comes to them.
use mathlib.Core.Path.{◌≡◌, sym, ap, ◌∙◌}
use Prim.Native.Nat.{ℕ, ◌+◌, ◌≤◌}
use mathlib.Core.Bool.{true, false}
use mathlib.Core.List.{List}
use mathlib.Core.Option.{Option, none, some}
use lib.ListN.{length, drop}
use Rattle.std.specs.Prelude as Rust
use Rattle.std.specs.Prelude.{Some, None}
use Rattle.std.specs.Option as RustOption
use Rattle.text.specs.declared.Found.{Found}
use Rattle.text.specs.Lines.{Line, lines}
use Rattle.text.specs.Finds.{found}
use Rattle.text.proofs.FindLaws.{part, Next, next_is, next_none}
use Rattle.words.specs.Words.{is_blank}
use Rattle.symbol_table.specs.Symbols.{symbols_in, meaning, is_some, sought}
use Rattle.symbols.specs.Blocks.{again}

-- `find` says whether there is a meaning
known_is : (m : Option ℕ) (f : Rust.Option ℕ) → f ≡ sought m → RustOption.is_some f ≡ is_some m
known_is none f q = ap RustOption.is_some q
known_is (some v) f q = ap RustOption.is_some q

module _ (text : List ℕ) (begin place : ℕ) (line : List ℕ) (at : ℕ) where
  -- the words from a place on
  abbrev words : ℕ → List Line
  words at = lines is_blank at (drop at line)

  -- no word is left
  pub again_end : None ≡ found (words at) → again text begin place (words at) ≡ false
  again_end q = rw (next_none is_blank line at q)

  module _ (within : at ≤ length line) (k : Found) (q : Some k ≡ found (words at)) where
    name : Next is_blank line at k.from k.to
    name = next_is is_blank line at k.from k.to within q

    -- one word is left
    pub again_odd : None ≡ found (words k.to) → again text begin place (words at) ≡ false
    again_odd e = rw (name.is, next_none is_blank line k.to e)

    module _ (v : Found) (p : Some v ≡ found (words k.to)) (f : Rust.Option ℕ) (s : f ≡ sought (meaning (symbols_in (part text begin (place + k.from))) (part line k.from k.to))) where
      value : Next is_blank line k.to v.from v.to
      value = next_is is_blank line k.to v.from v.to name.high p

      known : RustOption.is_some f ≡ is_some (meaning (symbols_in (part text begin (place + k.from))) (part line k.from k.to))
      known = known_is (meaning (symbols_in (part text begin (place + k.from))) (part line k.from k.to)) f s

      -- a symbol already
      pub again_here : RustOption.is_some f ≡ true → again text begin place (words at) ≡ true
      again_here e = rw (name.is, value.is, sym known ∙ e)

      -- not yet
      pub again_on : RustOption.is_some f ≡ false → again text begin place (words at) ≡ again text begin place (words v.to)
      again_on e = rw (name.is, value.is, sym known ∙ e)

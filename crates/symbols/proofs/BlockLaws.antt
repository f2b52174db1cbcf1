-- The lines of a symbol block, as `read_block` comes to them: a law for each way out, and for a turn of the loop.
use mathlib.Core.Path.{◌≡◌, refl, sym, ap, ◌∙◌}
use Prim.Native.Nat.{ℕ, suc, ◌+◌, ◌-◌, ◌≤◌, ◌<◌}
use native.Mathlib.Numerals.{add-one}
use native.Mathlib.Omega.{arith}
use borrow.Author.Tests.{lt-ltb, le-ltb, ltb-false, eq-eqb, ne_eqb}
use mathlib.Core.Bool.{true, false}
use mathlib.Core.List.{List, [], ◌∷◌}
use lib.Dec.{eqb, ltb}
use lib.ListN.{length, drop, length-take, length-drop}
use Rattle.std.specs.Prelude.{Option, Some, None, Result}
use Rattle.lists.proofs.TestLaws.{by_test}
use Rattle.window.specs.declared.Refusal.{Refusal}
use Rattle.text.specs.declared.Found.{Found}
use Rattle.text.specs.Lines.{Line, lines}
use Rattle.text.specs.Finds.{found}
use Rattle.text.proofs.FindLaws.{part, Next, next_is, next_none}
use Rattle.words.specs.Words.{is_break, same}
use Rattle.symbols.specs.declared.Table.{Table}
use Rattle.symbols.specs.declared.Fault.{Fault}
use Rattle.symbols.specs.declared.Fault.TheVariants.{Unpaired, Twice, Full}
use Rattle.symbol_lines.specs.Lines.{dollars, is_last, is_title, row22, symbol_count, pairs_of}
use Rattle.symbols.specs.Blocks.{bad, table, line_at, row_of, row23, row24, line_row, walked, block_of}

-- the bare `$$` has two characters
pub last_long : (chars : List ℕ) → is_last chars ≡ true → length chars ≡ 2
unfolding is_last
last_long chars e = go chars dollars e
  where
    go : (xs ys : List ℕ) → same xs ys ≡ true → length xs ≡ length ys
    go [] [] h = refl
    go [] (y ∷ ys) h = absurd (let z : ◌≡◌ {A = ℕ} 0 1 = cc in omega arith)
    go (x ∷ xs) [] h = absurd (let z : ◌≡◌ {A = ℕ} 0 1 = cc in omega arith)
    go (x ∷ xs) (y ∷ ys) h = by_test (eqb x y) (λ q. ap suc (go xs ys (rw q at h))) (λ q. absurd (let w = rw q at h in let z : ◌≡◌ {A = ℕ} 0 1 = cc in omega arith))

-- ---- the rows of a line

-- a line that is none of pairs, and one that is
none_22 : (chars : List ℕ) → None ≡ pairs_of chars → row22 chars ≡ true
unfolding pairs_of
none_22 chars q = by_test (row22 chars) (λ r. r) (λ r. absurd (let w = rw r at q in let z : ◌≡◌ {A = ℕ} 0 1 = cc in omega arith))

some_22 : (chars : List ℕ) (count : ℕ) → Some count ≡ pairs_of chars → (row22 chars ≡ false) × (count ≡ symbol_count chars)
unfolding pairs_of
some_22 chars count q =
    by_test (row22 chars) (λ r. absurd (let w = rw r at q in let z : ◌≡◌ {A = ℕ} 0 1 = cc in omega arith))
    (λ r. (r, let w : Some count ≡ Some (symbol_count chars) = rw r at q in cc))

module _ (text : List ℕ) (begin n : ℕ) (l : Line) where
  pub line_22 : None ≡ pairs_of l.chars → line_row text begin n l ≡ 22
  unfolding line_row
  line_22 q = rw (none_22 l.chars q)

  module _ (count : ℕ) (q : Some count ≡ pairs_of l.chars) where
    pub line_count : count ≡ symbol_count l.chars
    line_count = (some_22 l.chars count q).1

    pub line_23 : row23 text begin l ≡ true → line_row text begin n l ≡ 23
    unfolding line_row
    line_23 a = rw ((some_22 l.chars count q).0, a)

    pub line_24 : row23 text begin l ≡ false → 1024 < n + count → line_row text begin n l ≡ 24
    unfolding line_row row24
    line_24 a m = rw ((some_22 l.chars count q).0, a, lt-ltb 1024 (n + symbol_count l.chars) (omega (arith, line_count)))

    pub line_none : row23 text begin l ≡ false → n + count ≤ 1024 → line_row text begin n l ≡ 0
    unfolding line_row row24
    line_none a m = rw ((some_22 l.chars count q).0, a, le-ltb 1024 (n + symbol_count l.chars) (omega (arith, line_count)))

  -- a line without a row has pairs, and they have room
  pub line_inv : (p : Option ℕ) → p ≡ pairs_of l.chars → line_row text begin n l ≡ 0 → (p ≡ Some (symbol_count l.chars)) × (n + symbol_count l.chars ≤ 1024)
  unfolding line_row row24 pairs_of
  line_inv p q z =
      by_test (row22 l.chars) (λ r. absurd (let w : 22 ≡ 0 = rw r at z in omega arith))
      (λ r. by_test (row23 text begin l) (λ s. absurd (let w : 23 ≡ 0 = rw (r, s) at z in omega arith))
      (λ s. by_test (ltb 1024 (n + symbol_count l.chars)) (λ t. absurd (let w : 24 ≡ 0 = rw (r, s, t) at z in omega arith))
      (λ t. (rw r at q, ltb-false 1024 (n + symbol_count l.chars) t))))

-- a fault has a row
pub row_some : (fault : Fault) → row_of fault ≡ 0 → ⊥
row_some Unpaired e = omega arith
row_some Twice e = omega arith
row_some Full e = omega arith

-- ---- the lines behind the title

module _ (text : List ℕ) (begin : ℕ) where
  -- the lines from a place on, and what they come to behind the title
  abbrev rest : ℕ → List Line
  rest at = lines is_break at (drop at text)

  abbrev pub Whole : Result Table Refusal
  Whole = walked text begin 1 0 (rest begin)

  -- the loop's invariant: k lines and n symbols were read, and what is left gives the whole
  pub record Going (at k n : ℕ) : Type 0 where
    pub low : begin ≤ at
    pub high : at ≤ length text
    pub lines_read : k ≤ at
    pub few : n ≤ 1024
    pub is : walked text begin k n (rest at) ≡ Whole

  pub going_start : 0 < begin → begin ≤ length text → Going begin 1 0
  going_start h l = record { low = omega arith; high = l; lines_read = h; few = omega arith; is = refl }

  module _ {at k n : ℕ} (g : Going at k n) where
    -- no bare `$$`
    pub block_open : None ≡ found (rest at) → bad 22 k (length text) ≡ Whole
    block_open q = rw (next_none is_break text at q) at g.is

    module _ (w : Found) (q : Some w ≡ found (rest at)) where
      line : Next is_break text at w.from w.to
      line = next_is is_break text at w.from w.to g.high q

      -- the bare `$$`
      pub block_table : is_last (part text w.from w.to) ≡ true → table begin w.from ≡ Whole
      block_table e = rw (line.is, e) at g.is

      module _ (e : is_last (part text w.from w.to) ≡ false) where
        -- rows 22 to 24
        pub block_bad : (row : ℕ) → line_row text begin n (line_at text w.from w.to) ≡ row → (row ≡ 0 → ⊥) → bad row (k + 1) w.from ≡ Whole
        block_bad row r z = rw (add-one, ← r) (rw (line.is, e, ne_eqb (line_row text begin n (line_at text w.from w.to)) 0 (λ y. z (sym r ∙ y))) at g.is)

        -- a line more
        pub block_on : line_row text begin n (line_at text w.from w.to) ≡ 0 → (count : ℕ) → count ≡ symbol_count (part text w.from w.to)
            → Going w.to (k + 1) (n + count)
        block_on z count c =
            record {
              low = omega (arith, g.low, line.low, line.some_chars);
              high = line.high;
              lines_read = omega (arith, g.lines_read, line.low, line.some_chars);
              few = omega (arith, c, v.1);
              is = rw (add-one, c) (rw (line.is, e, eq-eqb (line_row text begin n (line_at text w.from w.to)) 0 z) at g.is);
            }
          where
            v : (pairs_of (part text w.from w.to) ≡ Some (symbol_count (part text w.from w.to))) × (n + symbol_count (part text w.from w.to) ≤ 1024)
            v = line_inv text begin n (line_at text w.from w.to) (pairs_of (part text w.from w.to)) refl z

-- ---- the title

module _ (text : List ℕ) where
  -- no line at all
  pub block_empty : None ≡ found (lines is_break 0 text) → bad 22 0 (length text) ≡ block_of text
  unfolding block_of
  block_empty q = let e : lines is_break 0 text ≡ [] = next_none is_break text 0 q in rw e

  module _ (t : Found) (q : Some t ≡ found (lines is_break 0 text)) where
    title : Next is_break text 0 t.from t.to
    title = next_is is_break text 0 t.from t.to (omega arith) q

    first : lines is_break 0 text ≡ line_at text t.from t.to ∷ lines is_break t.to (drop t.to text)
    first = title.is

    -- a line ends behind its characters
    ends : t.from + length (part text t.from t.to) ≡ t.to
    ends = rw (length-take (t.to - t.from) (drop t.from text)) (omega (arith, length-drop t.from text, title.some_chars, title.high))

    -- the first line is no title
    pub block_untitled : is_title (part text t.from t.to) ≡ false → bad 22 1 t.from ≡ block_of text
    unfolding block_of
    block_untitled e = rw (first, e)

    -- it is one
    pub block_titled : is_title (part text t.from t.to) ≡ true → Whole text t.to ≡ block_of text
    unfolding block_of
    block_titled e = rw (first, e, ends)

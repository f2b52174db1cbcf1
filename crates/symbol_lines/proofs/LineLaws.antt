-- One line of a symbol block, as the functions come to its words.
use mathlib.Core.Path.{◌≡◌, refl, sym, ap, ◌∙◌}
use Prim.Native.Nat.{ℕ, suc, ◌+◌, ◌-◌, ◌*◌, ◌≤◌}
use native.Mathlib.Omega.{arith}
use mathlib.Core.Bool.{true, false, cond}
use mathlib.Core.List.{List, [], ◌∷◌}
use lib.ListN.{length, drop}
use Rattle.std.specs.Prelude.{Option, Some, None, nat_eq}
use Rattle.std.specs.Option.{is_some}
use Rattle.std.specs.Cmp.Lexicographic.{pointwise}
use Rattle.text.specs.declared.Found.{Found}
use Rattle.text.specs.Lines.{Line, lines}
use Rattle.text.specs.Finds.{found}
use Rattle.text.proofs.FindLaws.{part, Next, next_is, next_none}
use Rattle.words.specs.Words.{is_blank, is_name}
use Rattle.words.proofs.SameLaws.{same_slices}
use Rattle.symbol_lines.specs.Lines.{tight, parts_of, dollars, is_last, is_title, is_pair, paired, row22, symbol_count, pairs_of}

-- `==` with a bare `$$`
pub last_slices : (line : List ℕ) → pointwise nat_eq line dollars ≡ is_last line
unfolding is_last
last_slices line = same_slices line dollars

module _ (line : List ℕ) where
  -- the words from a place on
  abbrev words : ℕ → List Line
  words at = lines is_blank at (drop at line)

  -- ---- the title

  -- a space at an end
  pub title_loose : tight line ≡ false → false ≡ is_title line
  unfolding is_title
  title_loose e = rw e

  module _ (t : tight line ≡ true) where
    -- no word
    pub title_empty : None ≡ found (words 0) → false ≡ is_title line
    unfolding is_title parts_of
    title_empty q = let e : lines is_blank 0 line ≡ [] = next_none is_blank line 0 q in rw (t, e)

    module _ (k : Found) (q : Some k ≡ found (words 0)) where
      first : lines is_blank 0 line ≡ record { place = k.from; chars = part line k.from k.to } ∷ words k.to
      first = (next_is is_blank line 0 k.from k.to (omega arith) q).is

      high : k.to ≤ length line
      high = (next_is is_blank line 0 k.from k.to (omega arith) q).high

      -- one word
      pub title_one : None ≡ found (words k.to) → false ≡ is_title line
      unfolding is_title parts_of
      title_one e = rw (t, first, next_none is_blank line k.to e)

      module _ (v : Found) (p : Some v ≡ found (words k.to)) where
        second : Next is_blank line k.to v.from v.to
        second = next_is is_blank line k.to v.from v.to high p

        -- three words
        pub title_more : (r : Option Found) → r ≡ found (words v.to) → is_some r ≡ true → false ≡ is_title line
        unfolding is_title parts_of
        title_more None e h = absurd (let z : ◌≡◌ {A = ℕ} 0 1 = cc in omega arith)
        title_more (Some u) e h = rw (t, first, second.is, (next_is is_blank line v.to u.from u.to second.high e).is)

        -- two words
        pub title_two : (r : Option Found) → r ≡ found (words v.to) → is_some r ≡ false
            → cond (is_last (part line k.from k.to)) (is_name (part line v.from v.to)) false ≡ is_title line
        unfolding is_title parts_of is_last
        title_two None e h = rw (t, first, second.is, next_none is_blank line v.to e)
        title_two (Some u) e h = absurd (let z : ◌≡◌ {A = ℕ} 0 1 = cc in omega arith)

  -- ---- pairs

  -- a space at an end
  pub pairs_loose : tight line ≡ false → None ≡ pairs_of line
  unfolding pairs_of row22
  pairs_loose e = rw e

  -- something else than pairs, or too many
  pairs_bad : tight line ≡ true → paired 4 (parts_of line) ≡ false → None ≡ pairs_of line
  unfolding pairs_of row22
  pairs_bad t e = rw (t, e)

  -- the loop's invariant: n pairs were read, and what is left decides
  pub record Going (at n : ℕ) : Type 0 where
    pub clean : tight line ≡ true
    pub low : at ≤ length line
    pub few : n ≤ 4
    pub is : paired (4 - n) (words at) ≡ paired 4 (parts_of line)
    pub total : 2 * n + length (words at) ≡ length (parts_of line)

  pub going_start : tight line ≡ true → Going 0 0
  unfolding parts_of
  going_start t = record { clean = t; low = omega arith; few = omega arith; is = refl; total = omega arith }

  module _ {at n : ℕ} (g : Going at n) where
    -- no word is left
    pub pairs_end : None ≡ found (words at) → Some n ≡ pairs_of line
    unfolding pairs_of row22 symbol_count
    pairs_end q =
        let e = next_none is_blank line at q in
        let p : true ≡ paired 4 (parts_of line) = rw e at g.is in
        let k : 2 * n + 0 ≡ length (parts_of line) = rw e at g.total in
        rw (g.clean, ← p, ← k) (ap (λ (i : ℕ). Some i) (omega arith))

    module _ (k : Found) (q : Some k ≡ found (words at)) where
      name : Next is_blank line at k.from k.to
      name = next_is is_blank line at k.from k.to g.low q

      -- one word is left
      pub pairs_odd : None ≡ found (words k.to) → None ≡ pairs_of line
      pairs_odd e = pairs_bad g.clean (sym g.is ∙ rw (name.is, next_none is_blank line k.to e))

      module _ (v : Found) (p : Some v ≡ found (words k.to)) where
        value : Next is_blank line k.to v.from v.to
        value = next_is is_blank line k.to v.from v.to name.high p

        -- a fifth pair
        pub pairs_full : n ≡ 4 → None ≡ pairs_of line
        pairs_full e = pairs_bad g.clean (sym g.is ∙ rw (name.is, value.is, e))

        module _ (m : n ≡ 4 → ⊥) where
          one_less : 4 - n ≡ suc (4 - (n + 1))
          one_less = omega (arith, g.few, m)

          -- no pair
          pub pairs_unlike : is_pair (part line k.from k.to) (part line v.from v.to) ≡ false → None ≡ pairs_of line
          pairs_unlike e = pairs_bad g.clean (sym g.is ∙ rw (name.is, value.is, one_less, e))

          -- one pair more
          pub pairs_on : is_pair (part line k.from k.to) (part line v.from v.to) ≡ true → Going v.to (n + 1)
          pairs_on e =
              record {
                clean = g.clean;
                low = value.high;
                few = omega (arith, g.few, m);
                is = sym (rw (name.is, value.is, one_less, e)) ∙ g.is;
                total = count;
              }
            where
              count : 2 * (n + 1) + length (words v.to) ≡ length (parts_of line)
              count = let t = rw (name.is, value.is) at g.total in omega (arith, t)

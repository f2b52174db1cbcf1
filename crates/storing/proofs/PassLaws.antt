-- The storing pass over a text that was accepted, in any lawful format: no row refuses, and memory follows the image.
use mathlib.Core.Path.{◌≡◌, refl, sym, ap, ◌∙◌, subst}
use Prim.Native.Nat.{ℕ, suc, ◌+◌, ◌-◌, ◌*◌, ◌≤◌}
use native.Mathlib.Omega.{arith}
use mathlib.Core.List.{List, [], ◌∷◌}
use mathlib.Core.Logic.{◌⊎◌, inl, inr, ⊎_elim}
use lib.ListN.{length, drop}
use Rattle.lists.proofs.TestLaws.{by_test}
use Rattle.window.specs.declared.Refusal.{Refusal}
use Rattle.window.specs.Entries.{Entry}
use Rattle.lists.specs.Lists.{over}
use Rattle.window.specs.Images.{Image, blank, overlaid}
use Rattle.window.specs.Plans.{Plan, Outcome, row12, row13, filled, placed, Accepts}
use Rattle.window.specs.Plans.Plan.{store}
use Rattle.window.specs.Plans.Outcome.{refused, accepted}
use Rattle.window.proofs.ViewLaws.{length_overlaid}
use Rattle.window.proofs.OverlayLaws.{overlaid_blank, overlaid_filled}
use Rattle.text.specs.Lines.{Line, lines}
use Rattle.text.specs.Finds.{found}
use Rattle.text.specs.Scan.{Fault, State, Step, start, more, more_data, ended, scan}
use Rattle.text.specs.Scan.Step.{refuse, skip, title, put, finish}
use Rattle.text.specs.Formats.{Format, plan}
use Rattle.text.specs.Load.{memory_after}
use Rattle.text.proofs.FindLaws.{part, Next, next_is}
use Rattle.text.proofs.TurnLaws.{Walk, walk_start, walk_refused, walk_skip, walk_title, walk_ended, walk_store, walk_put}
use Rattle.text.proofs.FormatLaws.{Limits, Lawful, IsRefusal}
use Rattle.tape_read.proofs.LineFieldLaws.{length_at_lem}
use Rattle.formats.specs.declared.Format.{Format as Choice}
use Rattle.formats.specs.declared.Format.TheVariants.{Records, Tape}
use Rattle.formats.specs.Choices.{format_of}
use Rattle.formats.proofs.ChoiceLaws.{limits_of, lawful_of}
use Rattle.line_counts.specs.Counts.{size_of, LongAsCounted}
use Rattle.placing.specs.Stores.{stored_by, Placeable}
use Rattle.placing.proofs.StoreLaws.{Readable, readable}
use Rattle.placing.proofs.LineLaws.{line_readable}

-- memory shows the image of a walk
pub record Walking (F : Format) (text : List ℕ) (base : ℕ) (m₀ m : List ℕ) (at : ℕ) : Type 0 where
  pub img : Image
  pub s : State
  pub walk : Walk F text base (length m₀) img s at
  pub memory_is : m ≡ overlaid m₀ img

-- the line that ends the text is behind the walk
pub record Done (F : Format) (text : List ℕ) (base : ℕ) (m₀ m : List ℕ) (at : ℕ) : Type 0 where
  pub inside : at ≤ length text
  pub none_left : lines F.gap at (drop at text) ≡ []
  pub memory_is : m ≡ memory_after m₀ (placed base (blank (length m₀)) (plan F text))

-- the loop's invariant
abbrev pub Storing : Format → List ℕ → ℕ → List ℕ → List ℕ → ℕ → Type 0
Storing F text base m₀ m at = Walking F text base m₀ m at ⊎ Done F text base m₀ m at

-- before the first line
pub storing_start : (F : Format) (text : List ℕ) (base : ℕ) (m : List ℕ) → Storing F text base m m 0
storing_start F text base m =
    inl (record { img = blank (length m); s = start; walk = walk_start F text base (length m); memory_is = sym (overlaid_blank m) })

-- the place is within the text
pub storing_inside : (F : Format) (text : List ℕ) (base : ℕ) (m₀ m : List ℕ) (at : ℕ) → Storing F text base m₀ m at → at ≤ length text
storing_inside F text base m₀ m at (inl g) = g.walk.inside
storing_inside F text base m₀ m at (inr g) = g.inside

module _ (F : Format) (L : Limits) (laws : Lawful F L) (text : List ℕ) (base : ℕ) (m₀ : List ℕ)
    (acc : Accepts (placed base (blank (length m₀)) (plan F text))) where
  -- what the whole text comes to
  abbrev whole : Outcome
  whole = placed base (blank (length m₀)) (plan F text)

  -- this is no refusal
  never : {f : Refusal} → refused f ≡ whole → ⊥
  never p = let q : refused _ ≡ accepted acc.sum acc.img = p ∙ acc.is in let z : ◌≡◌ {A = ℕ} 0 1 = cc in omega arith

  -- what one line comes to: it can be stored, and what it leaves goes on
  pub record Turn (m : List ℕ) (to : ℕ) (x : Step) : Type 0 where
    pub placeable : Placeable base (length m) x
    pub goes_on : (m' : List ℕ) → m' ≡ stored_by base m x → Storing F text base m₀ m' to

  module _ (m : List ℕ) (at from to : ℕ) (x : Next F.gap text at from to) (g : Walking F text base m₀ m at) where
    -- the characters of the line
    abbrev chars : List ℕ
    chars = part text from to

    -- no row of the walk refuses
    not_refused : (f : Fault) → F.step g.s chars ≡ refuse f → ⊥
    not_refused f e = never (walk_refused F text base (length m₀) g.img g.s at g.walk from to x f e)

    -- a line without data for cells
    on : (u : State) → Walk F text base (length m₀) g.img u to → (m' : List ℕ) → m' ≡ m → Storing F text base m₀ m' to
    on u w m' q = inl (record { img = g.img; s = u; walk = w; memory_is = q ∙ g.memory_is })

    -- a data line has room
    put_on : (a : ℕ) (ds : List ℕ) → F.step g.s chars ≡ put a ds → Turn m to (put a ds)
    put_on a ds e =
        let u : State = more_data g.s (length ds) in
        let rest : Plan = scan F.step (length text) u (lines F.gap to (drop to text)) in
        let st : placed base g.img (store (suc g.s.number) from a ds rest) ≡ whole
        = walk_store F text base (length m₀) g.img g.s at g.walk from to x a ds e in
        by_test (row12 base (length g.img) a (length ds)) (λ t. absurd (never (rw t at st)))
        (λ t. by_test (row13 base g.img a (length ds)) (λ v. absurd (never (rw (t, v) at st)))
        (λ v. record {
          placeable = rw (g.memory_is, length_overlaid m₀ g.img, ← g.walk.long) t;
          goes_on = λ m' q. inl (record {
            img = filled base g.img a ds;
            s = u;
            walk = walk_put F text base (length m₀) g.img g.s at g.walk from to x a ds e t v;
            memory_is = q ∙ ap (λ (y : List ℕ). over y (a - base) ds) g.memory_is
                ∙ sym (overlaid_filled m₀ base g.img a ds (sym g.walk.long) t);
          });
        }))

    -- the line that ends the text is the last
    end_on : (a : Entry) → F.step g.s chars ≡ finish a → (m' : List ℕ) → m' ≡ m → Storing F text base m₀ m' to
    end_on a e m' q = go (lines F.gap to (drop to text)) refl (walk_ended F text base (length m₀) g.img g.s at g.walk from to x a e)
      where
        go : (ls : List Line) → lines F.gap to (drop to text) ≡ ls → placed base g.img (ended g.s a ls) ≡ whole
            → Storing F text base m₀ m' to
        go [] p z = inr (record { inside = x.high; none_left = p; memory_is = q ∙ g.memory_is ∙ ap (memory_after m₀) z })
        go (l ∷ ls) p z = absurd (never z)

    -- each step that the line may take can be stored, and the pass goes on behind it
    turned : (y : Step) → F.step g.s chars ≡ y → Turn m to y
    turned (refuse f) e = absurd (not_refused f e)
    turned skip e = record {
      placeable = tt;
      goes_on = on (more g.s g.s.header)
          (walk_skip F text base (length m₀) g.img g.s at g.walk from to x e);
    }
    turned (title h) e = record {
      placeable = tt;
      goes_on = on (more g.s h)
          (walk_title F text base (length m₀) g.img g.s at g.walk from to x h e);
    }
    turned (put a ds) e = put_on a ds e
    turned (finish a) e = record { placeable = tt; goes_on = end_on a e }

    -- the step is no refusal
    no_refusal : (y : Step) → F.step g.s chars ≡ y → IsRefusal y → ⊥
    no_refusal (refuse f) e r = not_refused f e
    no_refusal skip e r = r
    no_refusal (title h) e r = r
    no_refusal (put a ds) e r = r
    no_refusal (finish a) e r = r

    -- the step is what the line carries
    step_is : F.step g.s chars ≡ F.part chars
    step_is =
        ⊎_elim {C = F.step g.s chars ≡ F.part chars} (λ r. absurd (no_refusal (F.step g.s chars) refl r)) (λ q. q) (laws.says g.s chars)

  -- one turn of the loop: the line can be stored, and what it leaves goes on
  pub storing_turn : (m : List ℕ) (at from to : ℕ) → Storing F text base m₀ m at → (x : Next F.gap text at from to)
      → Turn m to (F.part (part text from to))
  storing_turn m at from to (inl g) x =
      subst (Turn m to) (step_is m at from to x g) (turned m at from to x g (F.step g.s (part text from to)) refl)
  storing_turn m at from to (inr g) x = absurd (none (sym g.none_left ∙ x.is))
    where
      none : {l : Line} {ls : List Line} → [] ≡ l ∷ ls → ⊥
      none q = let z : ◌≡◌ {A = ℕ} 0 1 = cc in omega arith

-- a line that has room is as long as its count says
counted : (format : Choice) (own : List ℕ) (base size : ℕ) → Placeable base size ((format_of format).part own) → length own ≡ size_of format own
counted Records own base size p =
    let r : Readable own base size = readable own base size p in
    omega (arith, r.fields.long, r.fields.count_is)
counted (Tape edition) own base size p =
    let g = line_readable own base size p in
    g.long ∙ ap (λ (n : ℕ). 11 + 2 * n) (sym (length_at_lem own (omega (arith, g.long))))

-- and so is each line that is left
pub storing_counted : (format : Choice) (text : List ℕ) (base : ℕ) (m₀ : List ℕ)
    → Accepts (placed base (blank (length m₀)) (plan (format_of format) text)) → (m : List ℕ) (at : ℕ)
    → Storing (format_of format) text base m₀ m at → LongAsCounted format (lines (format_of format).gap at (drop at text))
storing_counted format text base m₀ acc m at g = go (lines F.gap at (drop at text)) refl
  where
    F : Format
    F = format_of format

    go : (ls : List Line) → lines F.gap at (drop at text) ≡ ls → LongAsCounted format (lines F.gap at (drop at text))
    go [] e = subst (LongAsCounted format) (sym e) tt
    go (l ∷ ls) e =
        let to : ℕ = l.place + length l.chars in
        let x : Next F.gap text at l.place to
        = next_is F.gap text at l.place to (storing_inside F text base m₀ m at g) (ap found (sym e)) in
        let own : List ℕ = part text l.place to in
        let turn = storing_turn F (limits_of format) (lawful_of format) text base m₀ acc m at l.place to g x in
        subst (LongAsCounted format) (sym x.is) (counted format own base (length m) turn.placeable)

-- `first_row` meets its contract: each row in its order.
use mathlib.Core.Path.{◌≡◌, sym, ◌∙◌}
use native.Mathlib.Omega.{arith}
use mathlib.Core.Bool.{false}
use borrow.Author.Tests.{not-true, not-false}
use Rattle.window.specs.Windows.{Window, window_of}
use Rattle.marks.specs.declared.Form.{Form}
use Rattle.std.specs.Prelude.{None}
use Rattle.overlay.specs.Refusals.{row1_both_in, bad_of}
use Rattle.overlay.proofs.RefusalLaws.{AlikeIn, alike_in, row_1, row_15, row_16_base, row_16_patch, no_row}
use borrow.Author.Rules.{rules}
use Rattle.overlay.proofs.first_row.Statement.{statement}
use Rattle.overlay.proofs.first_row.Tie as tie

-- the windows of a call
module _ (c : tie.After-are_allowed) where
  abbrev start : tie.Start
  start = c.before.before.before.before.before

  abbrev form : Form
  form = start.args.form

  abbrev base : Window
  base = window_of start.args.base start.args.base_memory.now start.args.base_marks.now

  abbrev patch : Window
  patch = window_of start.args.base start.args.patch_memory.now start.args.patch_marks.now

-- row 1 does not apply
fit : (c : tie.Else-not-are_allowed) → row1_both_in (form c.before) (base c.before) (patch c.before) ≡ false
fit c = not-true _ (sym c.are_allowed.ensures ∙ c.if-not-are_allowed.false)

like : (c : tie.Else-not-are_allowed) → AlikeIn (form c.before) (base c.before) (patch c.before)
like c = alike_in (form c.before) (base c.before) (patch c.before) (fit c)

returns : tie.Need-returns-then-not-are_allowed
returns c =
    let t = c.before in
    let j = t.before in
    c.refuse.ensures
    ∙ row_1 (row1_both_in (form j) (base j) (patch j)) (start j).args.long (bad_of (form j) (base j)) (bad_of (form j) (patch j))
    (not-false _ (sym j.are_allowed.ensures ∙ t.if-not-are_allowed.true))

returns-2 : tie.Need-returns-then-long
returns-2 c =
    let t = c.before in
    let e = t.before in
    let j = e.before in
    c.refuse-then-long.ensures
    ∙ row_15 (row1_both_in (form j) (base j) (patch j)) (start j).args.long (bad_of (form j) (base j)) (bad_of (form j) (patch j)) (fit e) t.if-long.true

first-bad-requires : tie.Need-first_bad-first-requires
first-bad-requires c κs = let l = like c.before in (omega (arith, l.reach.0), l.base)

-- the base's marks are looked at, and where they are clean the patch's
abbrev short : tie.After-first_bad-first → tie.Else-long
short c = c.before

abbrev first : tie.In_default → tie.After-first_bad-first
first c = c.before

clean : (c : tie.In_default) → let j = (short (first c)).before.before in None ≡ bad_of (form j) (base j)
clean c = sym c.in_default.is ∙ (first c).first_bad-first.ensures

returns-3 : tie.Need-returns-in-Some
returns-3 c =
    let t = c.before in
    let k = t.before in
    let f = short k in
    let j = f.before.before in
    c.refuse-in-Some.ensures
    ∙ row_16_base (row1_both_in (form j) (base j) (patch j)) (start j).args.long (bad_of (form j) (base j)) (bad_of (form j) (patch j)) (fit f.before) f.if-long.false _
    (sym t.in-Some.is ∙ k.first_bad-first.ensures)

first-bad-requires-2 : tie.Need-first_bad-second-requires
first-bad-requires-2 c κs = let l = like (short (first c)).before in (omega (arith, l.reach.1), l.patch)

returns-4 : tie.Need-returns-in-Some-second
returns-4 c =
    let t = c.before in
    let k = t.before in
    let f = short (first k.before) in
    let j = f.before.before in
    c.refuse-in-Some-second.ensures
    ∙ row_16_patch (row1_both_in (form j) (base j) (patch j)) (start j).args.long (bad_of (form j) (base j)) (bad_of (form j) (patch j)) (fit f.before) f.if-long.false
    (clean k.before) _ (sym t.in-Some-second.is ∙ k.first_bad-second.ensures)

returns-5 : tie.Need-returns
returns-5 c =
    let t = c.before in
    let k = t.before in
    let f = short (first k.before) in
    let j = f.before.before in
    c.refuse-2.ensures
    ∙ no_row (row1_both_in (form j) (base j) (patch j)) (start j).args.long (bad_of (form j) (base j)) (bad_of (form j) (patch j)) (fit f.before) f.if-long.false
    (clean k.before) (sym t.in_default-second.is ∙ k.first_bad-second.ensures)

pub first_row_spec : {M : Type 1} → statement M
first_row_spec =
    tie.close
    (tie.spec
    (λ c κs. search rules)
    (λ c κs. search rules)
    returns
    (λ c κs. search rules)
    returns-2
    first-bad-requires
    (λ c. search rules)
    (λ c κs. search rules)
    returns-3
    (λ c. search rules)
    first-bad-requires-2
    (λ c. search rules)
    (λ c κs. search rules)
    returns-4
    (λ c. search rules)
    (λ c κs. search rules)
    returns-5)

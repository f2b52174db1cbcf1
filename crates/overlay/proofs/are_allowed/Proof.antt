-- `are_allowed` meets its contract: row 1 of either window, and then the two memories.
use mathlib.Core.Path.{◌≡◌, sym, ◌∙◌}
use mathlib.Core.Bool.{false}
use borrow.Author.Tests.{not-true, not-false}
use Rattle.window.specs.Windows.{Window, window_of}
use Rattle.marks.specs.declared.Form.{Form}
use Rattle.marks.specs.Forms.{row1_in}
use Rattle.overlay.proofs.RefusalLaws.{row_1_base, row_1_patch, row_1_lengths}
use borrow.Author.Rules.{rules}
use Rattle.overlay.proofs.are_allowed.Statement.{statement}
use Rattle.overlay.proofs.are_allowed.Tie as tie

-- the two windows
module _ (c : tie.After-is_allowed) where
  abbrev start : tie.Start
  start = c.before.before.before.before.before

  abbrev form : Form
  form = start.args.form

  abbrev base : Window
  base = window_of start.args.base start.args.base_memory.now start.args.base_marks.now

  abbrev patch : Window
  patch = window_of start.args.base start.args.patch_memory.now start.args.patch_marks.now

-- row 1 of the base's does not apply
good : (c : tie.Else-not-is_allowed) → row1_in (form c.before) (base c.before) ≡ false
good c = not-true _ (sym c.is_allowed.ensures ∙ c.if-not-is_allowed.false)

returns : tie.Need-returns-then-not-is_allowed
returns c =
    let j = c.before in
    row_1_base (form j) (base j) (patch j) (not-false _ (sym j.is_allowed.ensures ∙ c.if-not-is_allowed.true))

returns-2 : tie.Need-returns-then-not-is_allowed-2
returns-2 c =
    let k = c.before in
    let j = k.before.before in
    row_1_patch (form j) (base j) (patch j) (good k.before) (not-false _ (sym k.is_allowed-2.ensures ∙ c.if-not-is_allowed-2.true))

returns-3 : tie.Need-returns
returns-3 c =
    let k = c.before in
    let j = k.before.before in
    row_1_lengths (form j) (base j) (patch j) (good k.before) (not-true _ (sym k.is_allowed-2.ensures ∙ c.if-not-is_allowed-2.false))

pub are_allowed_spec : {M : Type 1} → statement M
are_allowed_spec = tie.close (tie.spec (λ c κs. search rules) returns (λ c κs. search rules) returns-2 returns-3)

-- `look_source_as` meets its contract: the rows, and then the source of the cell.
use mathlib.Core.Path.{◌≡◌, ◌∙◌}
use mathlib.Core.Bool.{true}
use Rattle.window.specs.Windows.{Window, window_of}
use Rattle.marks.specs.declared.Form.{Form}
use Rattle.window.specs.Plans.{passes}
use Rattle.overlay.specs.Refusals.{look_refusal_in}
use Rattle.overlay.proofs.RefusalLaws.{look_fit_in}
use Rattle.look.proofs.SourceLaws.{passed, is_refused, is_source}
use borrow.Author.Rules.{rules}
use Rattle.look.proofs.look_source_as.Statement.{statement}
use Rattle.look.proofs.look_source_as.Tie as tie

-- the windows of a call
module _ (c : tie.After-first_row-refusal) where
  abbrev start : tie.Start
  start = c.before.before.before.before.before

  abbrev form : Form
  form = start.args.form

  abbrev base : Window
  base = window_of start.args.base start.args.base_memory.now start.args.base_marks.now

  abbrev patch : Window
  patch = window_of start.args.base start.args.patch_memory.now start.args.patch_marks.now

-- no row applies
fit : (c : tie.Else-refusal-ne0) → let j = c.before.before in passes (look_refusal_in (form j) (base j) (patch j)) ≡ true
fit c =
    let j = c.before.before in
    passed (form j) (base j) (patch j) j.first_row-refusal.result j.first_row-refusal.ensures c.if-refusal-ne0.false

returns : tie.Need-returns-then-refusal-ne0
returns c =
    let j = c.before.before in
    is_refused (form j) (base j) (patch j) j.first_row-refusal.result j.first_row-refusal.ensures c.if-refusal-ne0.true (start j).args.address

source-at-requires : tie.Need-source_at-requires
source-at-requires c κs =
    let j = c.before.before in
    let s = look_fit_in (form j) (base j) (patch j) (fit c) in
    (s.base, s.patch, s.both)

returns-2 : tie.Need-returns
returns-2 c =
    let e = c.before in
    let j = e.before.before in
    c.source_at.ensures ∙ is_source (form j) (base j) (patch j) (fit e) (start j).args.address

pub look_source_as_spec : {M : Type 1} → statement M
look_source_as_spec = tie.close (tie.spec (λ c κs. search rules) returns source-at-requires returns-2)

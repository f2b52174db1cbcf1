-- `source_at` meets its contract: each way out is one law.
use mathlib.Core.Path.{sym}
use native.Mathlib.Omega.{arith}
use Rattle.window.specs.Windows.{Window, window_of}
use Rattle.marks.specs.Forms.{plain}
use Rattle.overlay.proofs.RefusalLaws.{Alike, plain_alike}
use Rattle.overlay.proofs.SourceLaws.{source_below, source_behind}
use Rattle.look.proofs.SourceLaws.{is_patch, is_base, is_neither}
use borrow.Author.Rules.{rules}
use Rattle.look.proofs.source_at.Statement.{statement}
use Rattle.look.proofs.source_at.Tie as tie

-- the windows of a call, as flags
module _ (c : tie.After-shared_slice_known-4-1) where
  abbrev start : tie.Start
  start = c.before.before.before.before

  abbrev base : Window
  base = plain start.args.form (window_of start.args.base start.args.base_memory.now start.args.base_marks.now)

  abbrev patch : Window
  patch = plain start.args.form (window_of start.args.base start.args.patch_memory.now start.args.patch_marks.now)

  like : Alike base patch
  like =
      let a = start.args in
      plain_alike a.form (window_of a.base a.base_memory.now a.base_marks.now) (window_of a.base a.patch_memory.now a.patch_marks.now)
      start.requires.0 start.requires.1 start.requires.2

returns : tie.Need-returns-then-address-base
returns c = let j = c.before in sym (source_below (base j) (patch j) (start j).args.address c.if-address-base.true)

returns-2 : tie.Need-returns-then-at-cells
returns-2 c =
    let e = c.before in
    let j = e.before in
    sym (source_behind (base j) (patch j) (like j) (start j).args.address e.if-address-base.false c.if-at-cells.true)

is-marked-requires : tie.Need-is_marked-requires
is-marked-requires c κs = let s = start c.before.before in (omega (arith, s.requires.2, c.if-at-cells.false), s.requires.1)

returns-3 : tie.Need-returns-then-is_marked
returns-3 c =
    let k = c.before in
    let e = k.before in
    let j = e.before.before in
    is_patch (base j) (patch j) (like j) (start j).args.address e.if-address-base.false k.is_marked.result
    k.is_marked.ensures c.if-is_marked.true

is-marked-requires-2 : tie.Need-is_marked-requires-2
is-marked-requires-2 c κs =
    let e = c.before.before in
    let s = start e.before.before in
    (omega (arith, e.if-at-cells.false), s.requires.0)

returns-4 : tie.Need-returns-then-is_marked-2
returns-4 c =
    let l = c.before in
    let f = l.before in
    let k = f.before in
    let e = k.before in
    let j = e.before.before in
    is_base (base j) (patch j) (like j) (start j).args.address e.if-address-base.false k.is_marked.result
    k.is_marked.ensures f.if-is_marked.false l.is_marked-2.result l.is_marked-2.ensures c.if-is_marked-2.true

returns-5 : tie.Need-returns
returns-5 c =
    let l = c.before in
    let f = l.before in
    let k = f.before in
    let e = k.before in
    let j = e.before.before in
    is_neither (base j) (patch j) (like j) (start j).args.address e.if-address-base.false k.is_marked.result
    k.is_marked.ensures f.if-is_marked.false l.is_marked-2.result l.is_marked-2.ensures c.if-is_marked-2.false

pub source_at_spec : {M : Type 1} → statement M
source_at_spec =
    tie.close
    (tie.spec
    returns
    (λ c. search rules)
    returns-2
    is-marked-requires
    returns-3
    is-marked-requires-2
    returns-4
    returns-5)

-- `merge_as` meets its contract: nothing is changed where a row applies; else cells, header and entry are merged.
use mathlib.Core.Path.{◌≡◌, sym, ap, ◌∙◌}
use Prim.Native.Nat.{ℕ, ◌<◌}
use native.Mathlib.Omega.{arith}
use mathlib.Core.Bool.{Bool, ◌||◌}
use lib.ListN.{get_or}
use Rattle.window.specs.Headers.{row15}
use Rattle.marks.specs.declared.Form.{Form}
use Rattle.marks.specs.Forms.{mark_bytes}
use Rattle.overlay.specs.Refusals.{row1_both_in, bad_of, first_row}
use Rattle.overlay.specs.Merges.{Lent, lent, window_at}
use Rattle.overlay.proofs.RefusalLaws.{FitIn}
use Rattle.merge.proofs.MergeLaws.{joined_marks, merge_refused, accepted, merge_accepted}
use borrow.Author.Rules.{rules}
use Rattle.merge.proofs.merge_as.Statement.{statement}
use Rattle.merge.proofs.merge_as.Tie as tie

-- the two images of a call
module _ (c : tie.After-is_long-long) where
  abbrev start : tie.Start
  start = c.before.before.before.before.before.before.before

  abbrev form : Form
  form = start.args.form

  abbrev base : Lent
  base = lent start.args.base_memory.now start.args.base_marks.now start.args.base_header.now start.args.base_entry

  abbrev patch : Lent
  patch = lent start.args.patch_memory.now start.args.patch_marks.now start.args.patch_header.now start.args.patch_entry

  -- the marks are bytes
  base_bytes : (k : ℕ) → get_or base.marks k 0 < 256
  base_bytes k = omega (arith, c.slice_known-2-1.given k)

  patch_bytes : (k : ℕ) → get_or patch.marks k 0 < 256
  patch_bytes k = omega (arith, c.shared_slice_known-3-1.given k)

-- where the rows were tried
abbrev asked : tie.After-first_row-refusal → tie.After-is_long-long
asked c = c.before

-- the refusal by the rows
tried : (c : tie.After-first_row-refusal) → let j = asked c in let B = window_at (start j).args.base (base j) in let P = window_at (start j).args.base (patch j) in
    c.first_row-refusal.result ≡ first_row (row1_both_in (form j) B P) (row15 (base j).header || row15 (patch j).header) (bad_of (form j) B) (bad_of (form j) P)
tried c =
    let j = asked c in
    let B = window_at (start j).args.base (base j) in
    let P = window_at (start j).args.base (patch j) in
    c.first_row-refusal.ensures ∙ ap (λ (long : Bool). first_row (row1_both_in (form j) B P) long (bad_of (form j) B) (bad_of (form j) P)) j.is_long-long.ensures

-- what is known once none applies
fit : (c : tie.Else-refusal-ne0) → let j = asked c.before.before in
    FitIn (form j) (window_at (start j).args.base (base j)) (base j).header (window_at (start j).args.base (patch j)) (patch j).header
fit c =
    let m = c.before.before in
    let j = asked m in
    accepted (form j) (start j).args.base (base j) (patch j) m.first_row-refusal.result (tried m) c.if-refusal-ne0.false

returns : tie.Need-returns-then-refusal-ne0
returns c =
    let m = c.before.before.before in
    let j = asked m in
    merge_refused (form j) (start j).args.base (base j) (patch j) m.first_row-refusal.result (tried m) c.refused.result c.if-refusal-ne0.true c.refused.ensures

lay-requires : tie.Need-lay-requires
lay-requires c κs =
    let l = (fit c.before).like in
    (omega (arith, l.both), l.patch ∙ ap (mark_bytes (form (asked c.before.before.before))) l.both)

-- the cells were laid, and the marks joined
abbrev laid_at : tie.After-slice_known-3-1 → tie.After-lay
laid_at c = c.before.before

abbrev passed : tie.After-lay → tie.Else-refusal-ne0
passed c = c.before.before

abbrev joined_at : tie.After-slice_known-4-1 → tie.After-join
joined_at c = c.before.before

abbrev behind-lay : tie.After-join → tie.After-lay
behind-lay c = laid_at c.before.before

join-requires : tie.Need-join-requires
join-requires c κs =
    let e = passed (laid_at c.before) in
    let l = (fit e).like in
    l.patch ∙ ap (mark_bytes (form (asked e.before.before))) l.both ∙ sym l.base

merged-header-requires : tie.Need-merged_header-header-requires
merged-header-requires c κs = (fit (passed (behind-lay (joined_at c)))).short

returns-2 : tie.Need-returns
returns-2 c =
    let at-header = c.before in
    let at_join = joined_at at-header.before in
    let at-lay = behind-lay at_join in
    let e = passed at-lay in
    let m = e.before.before in
    let j = asked m in
    merge_accepted (form j) (start j).args.base (base j) (patch j) m.first_row-refusal.result (tried m) e.if-refusal-ne0.false
    at-header.merged_header-header.result c.merged_entry-entry.result at-lay.lay.new.memory at_join.join.new.marks
    at-header.merged_header-header.ensures c.merged_entry-entry.ensures at-lay.lay.ensures
    (at_join.join.ensures ∙ joined_marks (form j) (start j).args.base (base j) (patch j) (fit e) (base_bytes j) (patch_bytes j))

pub merge_as_spec : {M : Type 1} → statement M
merge_as_spec =
    tie.close
    (tie.spec
    (λ c κs. search rules)
    (λ c κs. search rules)
    (λ c κs. search rules)
    (λ c. search rules)
    (λ c. search rules)
    returns
    lay-requires
    join-requires
    merged-header-requires
    (λ c κs. search rules)
    (λ c. search rules)
    (λ c. search rules)
    returns-2)

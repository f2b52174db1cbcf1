-- `part_at` meets its contract: the run of the image that the source names.
use mathlib.Core.Path.{◌≡◌, refl}
use Prim.Native.Nat.{◌-◌, ◌≤◌, ◌<◌}
use native.Mathlib.Nat.{add_comm}
use native.Mathlib.Omega.{arith}
use mathlib.Core.Bool.{true}
use lib.ListN.{length}
use Rattle.window.specs.Windows.{Window, window_of}
use Rattle.marks.specs.Forms.{mark_bytes, plain}
use Rattle.overlay.specs.declared.Source.{Source}
use Rattle.overlay.specs.declared.Source.TheVariants.{Patch, Base, Neither, Refused}
use Rattle.overlay.specs.Facts.{names}
use Rattle.overlay.proofs.RefusalLaws.{Alike, plain_alike}
use Rattle.look.proofs.PartLaws.{patch_within, patch_part, base_within, base_part, empty_part}
use borrow.Author.Rules.{rules}
use Rattle.look.proofs.part_at.Statement.{statement}
use Rattle.look.proofs.part_at.Tie as tie

-- the windows of a call, as flags
module _ (c : tie.After-shared_slice_known-4-1) where
  abbrev start : tie.Start
  start = c.before.before.before.before

  abbrev base : Window
  base = plain start.args.form (window_of start.args.base start.args.base_memory.now start.args.base_marks.now)

  abbrev patch : Window
  patch = plain start.args.form (window_of start.args.base start.args.patch_memory.now start.args.patch_marks.now)

  -- where the source names an image the windows have one length, and the address lies in them
  pub record Here : Type 0 where
    pub like : Alike base patch
    pub base_marks : length start.args.base_marks.now ≡ mark_bytes start.args.form (length start.args.base_memory.now)
    pub patch_marks : length start.args.patch_marks.now ≡ mark_bytes start.args.form (length start.args.patch_memory.now)
    pub low : start.args.base ≤ start.args.address
    pub high : start.args.address - start.args.base < length start.args.base_memory.now

  here : (w : Source) → start.args.source ≡ w → names w ≡ true → Here
  here w e h =
      let a = start.args in
      let p = start.requires (rw e h) in
      record {
        like = plain_alike a.form (window_of a.base a.base_memory.now a.base_marks.now)
            (window_of a.base a.patch_memory.now a.patch_marks.now) p.0 p.1 p.2;
        base_marks = p.0;
        patch_marks = p.1;
        low = p.3;
        high = p.4;
      }

patch-here : (c : tie.In-Patch) → Here c.before
patch-here c = here c.before Patch c.in-Patch.is refl

base-here : (c : tie.In-Base) → Here c.before
base-here c = here c.before Base c.in-Base.is refl

sub-from : tie.Need-overflow_sub-from
sub-from c = (patch-here c).low

run-end-requires : tie.Need-run_end-to-requires
run-end-requires c κs = let h = patch-here c in (omega (arith, h.high, h.like.both), h.patch_marks)

part-result-end : tie.Need-slice_bounds-result-end
part-result-end c =
    let t = c.before in
    let j = t.before in
    patch_within (base j) (patch j) (patch-here t).like _ (omega (arith, (patch-here t).high)) c.run_end-to.result c.run_end-to.ensures

returns : tie.Need-returns-in-Patch
returns c =
    let k = c.before in
    let t = k.before in
    let j = t.before in
    let a = (start j).args in
    let e = t.in-Patch.is in (
      rw e (patch_part (base j) (patch j) (patch-here t).like (a.address - a.base) (omega (arith, (patch-here t).high)) k.run_end-to.result k.run_end-to.ensures),
      rw (e, add_comm (a.address - a.base)),
    )

sub-from-2 : tie.Need-overflow_sub-from-in-Base
sub-from-2 c = (base-here c).low

next-marked-requires : tie.Need-next_marked-stop-requires
next-marked-requires c κs = let h = base-here c in (omega (arith, h.high, h.like.both), h.patch_marks)

run-end-requires-2 : tie.Need-run_end-to-requires-in-Base
run-end-requires-2 c κs =
    let h = base-here c.before in
    (omega (arith, h.high), h.base_marks)

part-result-end-2 : tie.Need-slice_bounds-result-end-in-Base
part-result-end-2 c =
    let n = c.before in
    let t = n.before in
    let j = t.before in
    base_within (base j) (patch j) (base-here t).like _ (omega (arith, (base-here t).high)) n.next_marked-stop.result n.next_marked-stop.ensures
    c.run_end-to-in-Base.result c.run_end-to-in-Base.ensures

returns-2 : tie.Need-returns-in-Base
returns-2 c =
    let k = c.before in
    let n = k.before in
    let t = n.before in
    let j = t.before in
    let a = (start j).args in
    let e = t.in-Base.is in (
      rw e (base_part (base j) (patch j) (base-here t).like (a.address - a.base) (omega (arith, (base-here t).high)) n.next_marked-stop.result
          n.next_marked-stop.ensures k.run_end-to-in-Base.result k.run_end-to-in-Base.ensures),
      rw (e, add_comm (a.address - a.base)),
    )

returns-3 : tie.Need-returns-in-Neither
returns-3 c =
    let t = c in
    let j = t.before in
    let a = (start j).args in
    let e = t.in-Neither.is in
    (rw e (empty_part (base j) (patch j) Neither refl (a.address - a.base)), rw e)

returns-4 : tie.Need-returns-in-Refused
returns-4 c =
    let t = c in
    let j = t.before in
    let a = (start j).args in
    (rw t.in-Refused.is (empty_part (base j) (patch j) (Refused t.in-Refused.field-0) refl (a.address - a.base)), rw t.in-Refused.is)

pub part_at_spec : {M : Type 1} → statement M
part_at_spec =
    tie.close
    (tie.spec
    (λ c. search rules)
    sub-from
    (λ c. search rules)
    run-end-requires
    (λ c. search rules)
    (λ c. search rules)
    part-result-end
    returns
    (λ c. search rules)
    sub-from-2
    (λ c. search rules)
    next-marked-requires
    (λ c. search rules)
    run-end-requires-2
    (λ c. search rules)
    (λ c. search rules)
    part-result-end-2
    returns-2
    (λ c. search rules)
    (λ c. search rules)
    returns-3
    (λ c. search rules)
    (λ c. search rules)
    returns-4)

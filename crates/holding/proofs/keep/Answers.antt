-- The characters are held behind those that were.
use mathlib.Core.Path.{◌≡◌, refl, ap, ◌∙◌}
use Prim.Native.Nat.{ℕ, ◌+◌, min}
use native.Mathlib.Omega.{arith}
use mathlib.Core.List.{List, map}
use lib.ListN.{length, take}
use Rattle.tally.specs.Tallies.{known_of}
use Rattle.session.specs.Sessions.{visible}
use Rattle.holding.proofs.VisibleLaws.{shown_more}
use Rattle.holding.proofs.keep.Goals as goal

pub returns : goal.returns
returns c =
    let s = c.args.session in
    let chars = c.args.chars.now in
    let hold = c.hold-held in
    let within : min hold.result 515 ≡ hold.result = omega (arith, hold.ensures.1) in
    let shown = ap (λ (n : ℕ). map visible (take n hold.new.line)) within ∙ ap (λ (cs : List ℕ). map visible cs) hold.ensures.0
    ∙ shown_more (take (min s.held 515) s.line) chars c.requires.1 in (
      refl,
      ap (λ (cs : List ℕ). record {
        size = s.size;
        total = s.total + length chars;
        known = known_of s.tally s.header;
        place = s.place;
        held = cs;
      }) shown,
      refl,
    )

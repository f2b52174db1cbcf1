-- The rows of a call: one law for each answer of `feed` before the part is read.
use mathlib.Core.Path.{◌≡◌}
use Prim.Native.Nat.{ℕ, ◌+◌, ◌-◌, ◌≤◌, ◌<◌}
use native.Mathlib.Omega.{arith}
use mathlib.Core.Bool.{true, false}
use mathlib.Core.List.{List}
use lib.ListN.{length}
use borrow.Author.Tests.{eq-eqb, lt-ltb, le-ltb}
use Rattle.lists.proofs.TestLaws.{by_test}
use Rattle.window.specs.Windows.{Window, window_of}
use Rattle.window.specs.Plans.{refusal}
use Rattle.marks.specs.declared.Form.{Form}
use Rattle.marks.specs.Forms.{flags, plain, row1_in}
use Rattle.marks.proofs.RowLaws.{allowed_in}
use Rattle.parts.specs.Parts.{Stage, stage, stopped, fed, most, row1_later, row20}
use Rattle.parts.specs.Parts.Status.{going}
use Rattle.parts.specs.Forms.{in_form, row1_later_in, feed_as}
use Rattle.parts.proofs.SoundLaws.{allowed_sound}
use Rattle.session.specs.declared.Session.{Session}
use Rattle.session.specs.Sessions.{going_of, status_of}
use Rattle.session.proofs.FormLaws.{allows, stopped_in}

module _ (s : Session) (base : ℕ) (memory marks part : List ℕ) where
  abbrev form : Form
  form = s.form

  abbrev W : Window
  W = window_of base memory marks

  -- what the marks say of each cell
  abbrev own : List ℕ
  own = flags form (length memory) marks

  -- the stage that the definitions give
  abbrev whole : Stage
  whole = feed_as form (status_of s) W part

  module _ (z : s.refusal.reason ≡ 0) where
    -- row 1
    pub feed_barred : row1_later_in form W (going_of s) ≡ true → whole ≡ stopped (refusal 1 0 0) memory marks
    unfolding row1_later_in
    feed_barred q =
        by_test (row1_in form W) (λ t. rw (eq-eqb s.refusal.reason 0 z, t))
        (λ t. let later : row1_later (plain form W) (going_of s) ≡ true = rw t at q in
        rw (eq-eqb s.refusal.reason 0 z, t, later) (stopped_in form (length memory) memory marks (allowed_in form W t).0 (refusal 1 0 0)))

    module _ (q : row1_later_in form W (going_of s) ≡ false) where
      -- not too many characters arrived so far
      pub few_so_far : s.total ≤ most
      few_so_far = let o = allowed_sound base (going_of s) memory own (allows form W (going_of s) q).later in omega (arith, o.few)

      -- row 20 applies, or not
      pub past : most - s.total < length part → row20 (going_of s) part ≡ true
      unfolding row20
      past l = lt-ltb most (s.total + length part) (omega (arith, few_so_far))

      pub not_past : length part ≤ most - s.total → row20 (going_of s) part ≡ false
      unfolding row20
      not_past l = le-ltb most (s.total + length part) (omega (arith, few_so_far))

      pub feed_past : row20 (going_of s) part ≡ true → whole ≡ stopped (refusal 20 s.tally.state.number s.total) memory marks
      feed_past e =
          let a = allows form W (going_of s) q in
          rw (eq-eqb s.refusal.reason 0 z, a.own, a.later, e) (stopped_in form (length memory) memory marks a.long _)

      -- the part is read
      pub feed_read : row20 (going_of s) part ≡ false → whole ≡ in_form form (fed base (stage (going (going_of s)) memory own) part)
      feed_read e = let a = allows form W (going_of s) q in rw (eq-eqb s.refusal.reason 0 z, a.own, a.later, e)

-- "However cut", and that refusals stay: the statements of specs/Agreement.antt hold.
use mathlib.Core.Path.{◌≡◌, refl, sym, ap, ◌∙◌, subst}
use Prim.Native.Nat.{ℕ, zero, suc, ◌+◌, ◌≤◌}
use native.Mathlib.Nat.{zero-add}
use native.Mathlib.Omega.{arith}
use mathlib.Core.Bool.{Bool, true, false, not, ◌||◌}
use lib.Dec.{eqb}
use mathlib.Core.List.{List, [], ◌∷◌}
use mathlib.Core.Option.{none}
use mathlib.Core.Logic.{⊎_elim, ◌⊎◌}
use lib.ListN.{length, replicate, length-replicate}
use Rattle.lists.proofs.TestLaws.{by_test}
use Rattle.window.specs.declared.Refusal.{Refusal}
use Rattle.window.specs.Windows.{Window, window_of, row1}
use Rattle.window.specs.Images.{Image, blank, overlaid, marks_of}
use Rattle.window.specs.Plans.{Summary, refusal, Plan, row12, row13, filled, placed}
use Rattle.window.specs.Plans.Plan.{store, stop, done}
use Rattle.window.specs.Plans.Outcome.{refused, accepted}
use Rattle.window.proofs.RowLaws.{allowed_inv}
use Rattle.window.proofs.RoomLaws.{length_blank}
use Rattle.window.proofs.OverlayLaws.{overlaid_blank}
use Rattle.text.specs.Lines.{lines}
use Rattle.text.specs.Scan.{start}
use Rattle.text.specs.Formats.{plan}
use Rattle.text.specs.Load.{load, load_answer, memory_after, marks_after}
use Rattle.text.specs.Terms.{data_records}
use Rattle.srec.specs.Lines.{is_end}
use Rattle.srec.specs.Formats.{srec}
use Rattle.parts.specs.Parts.{Going, Status, Stage, stage, closed, fed, most, row1_later, row20, begun, feed_in, feed, conclude, end_in, end}
use Rattle.parts.specs.Parts.Status.{going, halted}
use Rattle.parts.specs.Agreement.Cut.{at_record, at_end, at_begin}
use Rattle.parts.specs.Agreement.{feeds, joined, Ending, seen, in_parts, stored_before, memory_kept, laid, Keeps, Agrees, HoweverCut, ShortAgrees, PartsAtOnce, AsLent, GivenOut, GivenOutGoesOn, RefusalsStay}
use Rattle.parts.proofs.SoundLaws.{Sound, SoundIn, SoundAt, fed_sound, end_sound, sound_possible, sound_allowed, allowed_sound, roomy, fed_append}
use Rattle.parts.proofs.PartWalkLaws.{finished_at, ending, walk}
use Rattle.parts.proofs.KeptLaws.{Named, scan_kept}
use Rattle.parts.proofs.ArrivalLaws.{feeds_halted, feeds_are_fed, end_finishes, By20, Arrived, feeds_arrive}

-- ---- the load

blank_marks : (n : ℕ) → replicate n 0 ≡ marks_of (blank n)
blank_marks zero = refl
blank_marks (suc n) = ap {B = List ℕ} (λ (r : List ℕ). 0 ∷ r) (blank_marks n)

-- a load that has begun
abbrev first : Window → Going
first W = record { size = length W.memory; total = 0; known = record { state = start; entry = none }; place = 0; held = [] }

-- what the whole load leaves
abbrev whole : Window → List ℕ → Ending
whole W text =
    record { answer = load_answer (load W (plan srec text)); memory = memory_kept W text; marks = marks_after W.marks (load W (plan srec text)) }

-- row 1 refuses the window
refused_parts : (W : Window) (ps : List (List ℕ)) → row1 W ≡ true → in_parts W ps ≡ whole W (joined ps)
unfolding begun load memory_kept
refused_parts W ps e = rw (e, feeds_halted W.base (refusal 1 0 0) W.memory (replicate (length W.marks) 0) ps)

-- the stage behind begin, its memory and marks as views of a blank image
begun_is : (W : Window) → row1 W ≡ false
    → begun W ≡ stage (going (first W)) (overlaid W.memory (blank (length W.memory))) (marks_of (blank (length W.memory)))
unfolding begun
begun_is W e =
    rw (e, overlaid_blank W.memory)
    (ap (λ (k : List ℕ). stage (going (first W)) W.memory k) (ap (λ (n : ℕ). replicate n 0) (allowed_inv W e).0 ∙ blank_marks (length W.memory)))

begun_sound : (W : Window) (room : ℕ) → row1 W ≡ false → room ≤ most → SoundAt W.base room (begun W)
unfolding begun
begun_sound W room e h =
    rw e (record {
      memory_long = refl;
      marks_long = length-replicate (length W.marks) 0 ∙ (allowed_inv W e).0;
      reach = (allowed_inv W e).1;
      few = omega arith;
      begins = omega arith;
      number = omega arith;
      records = omega arith;
      cells = omega arith;
    })

-- characters that arrived, all of them, in an allowed window
arrived_parts : (W : Window) (ps : List (List ℕ)) → row1 W ≡ false → Arrived W.base ps (begun W) → in_parts W ps ≡ whole W (joined ps)
unfolding load memory_kept plan
arrived_parts W ps e a =
    let base : ℕ = W.base in
    let n : ℕ = length W.memory in
    end_finishes base (feeds base (begun W) ps) a.sound
    ∙ ap (finished_at base) a.at_once
    ∙ ap (λ (w : Stage). finished_at base (fed base w (joined ps))) (begun_is W e)
    ∙ walk base W.memory W.marks (joined ps) (length (joined ps)) (first W) [] (blank n) (length_blank n)
    (length_blank n ∙ sym (allowed_inv W e).0) refl (omega arith)
    ∙ in_whole
  where
    in_whole : ending W.base W.memory W.marks (blank (length W.memory)) (plan srec (joined ps)) ≡ whole W (joined ps)
    in_whole = rw e

-- ---- memory of an accepted load

-- a plan that is accepted has all its stores in the image
all_stored : (p : Plan) (base : ℕ) (img : Image) (s : Summary) (img' : Image) → placed base img p ≡ accepted s img' → stored_before base img p ≡ img'
all_stored (store n at a ds p) base img s img' q =
    by_test (row12 base (length img) a (length ds)) (λ t. absurd (never (refusal 12 n at) (rw t at q)))
    (λ t. by_test (row13 base img a (length ds)) (λ v. absurd (never (refusal 13 n at) (rw (t, v) at q)))
    (λ v. rw (t, v) (all_stored p base (filled base img a ds) s img' (rw (t, v) at q))))
  where
    never : (f : Refusal) → refused f ≡ accepted s img' → ⊥
    never f k = let z : ◌≡◌ {A = ℕ} 0 1 = cc in omega arith
all_stored (stop f) base img s img' q = absurd (let z : ◌≡◌ {A = ℕ} 0 1 = cc in omega arith)
all_stored (done s') base img s img' q = cc

accepted_kept : (W : Window) (text : List ℕ) (s : Summary) (img : Image) → load W (plan srec text) ≡ accepted s img
    → memory_kept W text ≡ memory_after W.memory (load W (plan srec text))
unfolding load memory_kept
accepted_kept W text s img q =
    by_test (row1 W) (λ e. absurd (let k : refused (refusal 1 0 0) ≡ accepted s img = rw e at q in let z : ◌≡◌ {A = ℕ} 0 1 = cc in omega arith))
    (λ e. rw (q, e) (ap (overlaid W.memory) (all_stored (plan srec text) W.base (blank (length W.memory)) s img (rw e at q))))

-- ---- memory of a refused load

refused_kept : (W : Window) (text : List ℕ) (f : Refusal) (memory : List ℕ) → load W (plan srec text) ≡ refused f → memory ≡ memory_kept W text
    → Keeps W text f memory
unfolding load memory_kept plan
refused_kept W text f memory q m =
    by_test (row1 W)
    (λ e. let z : refused (refusal 1 0 0) ≡ refused f = rw e at q in
    let r : f.reason ≡ 1 = cc in
    record { before = []; rest = lines is_end 0 text; all_lines = refl; cut = at_begin r refl; stored = rw e at m })
    (λ e. let k = scan_kept W.base W.memory (lines is_end 0 text) (length text) f start (blank (length W.memory))
    (length_blank (length W.memory)) (rw e at q) in
    record {
      before = k.before;
      rest = k.rest;
      all_lines = k.all_lines;
      cut = ⊎_elim
          (λ (o : Named f (0 + length k.before) k.rest). at_record o.line o.others o.rest_is
          (o.ordinal ∙ ap suc (zero-add (length k.before))) o.not_14)
          (λ o. at_end o.0 o.1) k.cut;
      stored = (rw e at m) ∙ k.stored ∙ ap (λ (x : List ℕ). laid W.base x (data_records srec.part k.before)) (overlaid_blank W.memory);
    })

-- ---- the statements

-- an end that is what the whole load leaves agrees with it
agrees : (W : Window) (ps : List (List ℕ)) → in_parts W ps ≡ whole W (joined ps) → Agrees W ps
agrees W ps q =
    record {
      answer = ap (λ (x : Ending). x.answer) q;
      marks = ap (λ (x : Ending). x.marks) q;
      memory = ap (λ (x : Ending). x.memory) q;
      accepted_memory = λ s img a. ap (λ (x : Ending). x.memory) q ∙ accepted_kept W (joined ps) s img a;
      refused_memory = λ f r. refused_kept W (joined ps) f (in_parts W ps).memory r (ap (λ (x : Ending). x.memory) q);
    }

-- however a text is cut into parts, the load in parts is the load of the text, or row 20 refused it
pub however_cut : HoweverCut
however_cut W ps not-20 =
    agrees W ps (by_test (row1 W) (λ e. refused_parts W ps e)
    (λ e. ⊎_elim (λ a. arrived_parts W ps e a) (λ b. absurd (not-20 (says_20 b))) (feeds_arrive W.base ps (begun W) (begun_sound W 0 e (omega arith)))))
  where
    says_20 : By20 (feeds W.base (begun W) ps) → (in_parts W ps).answer.refusal.reason ≡ 20
    says_20 b = ap (λ (w : Stage). (seen (end W.base w)).answer.refusal.reason) b.halts ∙ b.reason

-- a text that is short enough arrives
pub short_agrees : ShortAgrees
short_agrees W ps h = agrees W ps (by_test (row1 W) (λ e. refused_parts W ps e) (λ e. arrived_parts W ps e (arrives e)))
  where
    arrives : row1 W ≡ false → Arrived W.base ps (begun W)
    arrives e =
        let q : feeds W.base (begun W) ps ≡ fed W.base (begun W) (joined ps) = feeds_are_fed W.base ps (begun W) (begun_sound W _ e h) in
        let s : SoundAt W.base 0 (fed W.base (begun W) (joined ps)) =
        fed_sound W.base (joined ps) 0 (begun W) (begun_sound W (length (joined ps) + 0) e (omega arith)) in
        record { at_once = q; sound = subst (SoundAt W.base 0) (sym q) s }

pub parts_at_once : PartsAtOnce
parts_at_once base w xs ys = sym (fed_append base xs ys w)

-- a state of a sound stage is refused by what is lent alone
as_lent : (base room : ℕ) (x : Status) (memory marks : List ℕ) → SoundIn base room x memory marks → AsLent x
unfolding row1_later
as_lent base room (halted f) memory marks s = tt
as_lent base room (going g) memory marks s =
    λ W. rw (sound_possible base room g memory marks s) (or_false (row1 W || not (eqb (length W.memory) g.size)))
  where
    or_false : (b : Bool) → (b || false) ≡ b
    or_false true = refl
    or_false false = refl

-- every stage that is given out is sound, or refused
pub given_out : GivenOut
unfolding begun
given_out =
    record {
      by_begin = λ W. by_test (row1 W) (λ e. rw e tt)
          (λ e. as_lent W.base 0 (begun W).status (begun W).memory (begun W).marks (begun_sound W 0 e (omega arith)));
      by_feed = fed_lent;
      by_end = end_lent;
    }
  where
    fed_lent : (x : Status) (W : Window) (part : List ℕ) → AsLent (feed_in x W part).status
    fed_lent (halted f) W part = tt
    fed_lent (going g) W part =
        by_test (row1_later W g) (λ e. rw e tt)
        (λ e. by_test (row20 g part) (λ t. rw (e, t) tt)
        (λ t. let s = roomy W.base g W.memory W.marks part (allowed_sound W.base g W.memory W.marks e) t in
        let w : Stage = fed W.base (stage (going g) W.memory W.marks) part in
        rw (e, t) (as_lent W.base 0 w.status w.memory w.marks (fed_sound W.base part 0 (stage (going g) W.memory W.marks) s))))

    end_lent : (x : Status) (W : Window) → AsLent (end_in x W).status
    end_lent (halted f) W = tt
    end_lent (going g) W =
        by_test (row1_later W g) (λ e. rw e tt)
        (λ e. let w : Stage = conclude (closed W.base g W.memory W.marks) in
        rw e (as_lent W.base 0 w.status w.memory w.marks
        (end_sound W.base g W.memory W.marks (allowed_sound W.base g W.memory W.marks e))))

-- a stage that is given out is sound, so row 1 does not apply to it
pub given_out_goes_on : GivenOutGoesOn
unfolding begun
given_out_goes_on W ps g q =
    by_test (row1 W) (λ e. absurd (never_going e))
    (λ e. ⊎_elim (λ a. allowed a.sound) (λ b. absurd (never_20 b)) (feeds_arrive W.base ps (begun W) (begun_sound W 0 e (omega arith))))
  where
    last : Stage
    last = feeds W.base (begun W) ps

    halted_going : (f : Refusal) → halted f ≡ going g → ⊥
    halted_going f z = let n : ◌≡◌ {A = ℕ} 0 1 = cc in omega arith

    never_going : row1 W ≡ true → ⊥
    never_going e =
        halted_going (refusal 1 0 0)
        (sym (ap (λ (w : Stage). w.status) (feeds_halted W.base (refusal 1 0 0) W.memory (replicate (length W.marks) 0) ps)) ∙ (rw e at q))

    never_20 : By20 last → ⊥
    never_20 b = halted_going b.why (sym (ap (λ (w : Stage). w.status) b.halts) ∙ q)

    allowed : SoundAt W.base 0 last → row1_later (window_of W.base last.memory last.marks) g ≡ false
    allowed s = sound_allowed W.base 0 g last.memory last.marks (subst (λ (x : Status). SoundIn W.base 0 x last.memory last.marks) q s)

-- a refusal is all that is kept
pub refusals_stay : RefusalsStay
refusals_stay base f memory marks = record { fed_stays = λ part. refl; end_stays = refl; says = refl }

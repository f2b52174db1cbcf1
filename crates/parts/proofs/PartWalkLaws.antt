-- A load in parts against the plan of its text: what is left to arrive comes to what is left of the plan.
use mathlib.Core.Path.{◌≡◌, refl, sym, ap, ◌∙◌}
use Prim.Native.Nat.{ℕ, suc, ◌+◌, ◌≤◌, ◌<◌}
use native.Mathlib.Omega.{arith}
use mathlib.Core.Bool.{true, false}
use mathlib.Core.List.{List, [], ◌∷◌, ◌++◌, append-nil, append_assoc}
use mathlib.Core.Option.{Option, none, some}
use lib.Dec.{leb, eqb}
use lib.ListN.{length, take, replicate, length-map}
use lib.Seq.{take_all, take-take, take-append-le, length-take-le}
use borrow.Author.Tests.{eqb-true, eqb-false, lt-ltb, leb-true, leb-false}
use Rattle.lists.proofs.TestLaws.{by_test}
use Rattle.window.specs.declared.Refusal.{Refusal}
use Rattle.window.specs.Entries.{Entry}
use Rattle.std.specs.Prelude.{None}
use Rattle.window.specs.Images.{Image, overlaid, marks_of}
use Rattle.window.specs.Plans.{Summary, refusal, Plan, row12, row13, filled, placed}
use Rattle.window.specs.Plans.Plan.{store, stop, done}
use Rattle.window.specs.Plans.Outcome.{refused, accepted}
use Rattle.window.specs.Marks.{claim_row}
use Rattle.window.proofs.ClaimLaws.{claim_refused, claim_granted, claim_marks}
use Rattle.window.proofs.OverlayLaws.{overlaid_filled}
use Rattle.window.proofs.RoomLaws.{fill_length}
use Rattle.text.specs.Lines.{Line, front, push, behind}
use Rattle.text.specs.Scan.{State, Step, more, more_data, summary, ended, onward, scan}
use Rattle.text.specs.Scan.Step.{refuse, skip, title, put, finish}
use Rattle.text.specs.Load.{load_answer, marks_after}
use Rattle.srec.specs.Lines.{is_end}
use Rattle.srec.specs.Reading.{fault, row3, read}
use Rattle.srec.specs.Judging.{judged}
use Rattle.srec.specs.Formats.{srec}
use Rattle.parts.specs.Parts.{Known, Going, Status, Stage, stage, Turn, stored, step_turn, record_turn, line_turn, after_turn, closed, counted, kept, received, fed, conclude}
use Rattle.parts.specs.Parts.Status.{going, halted}
use Rattle.parts.specs.Parts.Turn.{halt, next}
use Rattle.parts.specs.Agreement.{Ending, seen, stored_before}
use Rattle.parts.proofs.SoundLaws.{fed_halted}

-- ---- the record at hand

-- row 3 refuses a record by its first 515 characters
too_long : (cs : List ℕ) → 515 ≤ length cs → read cs ≡ fault 3 0
unfolding read row3
too_long cs h = rw (lt-ltb 514 (length cs) h)

-- they say what the record says
read_first : (cs : List ℕ) → read (take 515 cs) ≡ read cs
read_first cs =
    by_test (leb (length cs) 515) (λ t. ap read (take_all 515 cs (leb-true (length cs) 515 t)))
    (λ t. let l : 515 < length cs = leb-false (length cs) 515 t in
    too_long (take 515 cs) (rw (length-take-le 515 cs (omega arith)) (omega arith)) ∙ sym (too_long cs (omega arith)))

-- and so they do what it does
pub step_first : (s : State) (cs : List ℕ) → srec.step s (take 515 cs) ≡ srec.step s cs
step_first s cs = ap (judged s) (read_first cs)

-- what is held, and more: of all of it the first 515 characters are held
pub held_more : (cs xs : List ℕ) → take 515 (take 515 cs ++ xs) ≡ take 515 (cs ++ xs)
held_more cs xs =
    by_test (leb (length cs) 515) (λ t. ap (λ (x : List ℕ). take 515 (x ++ xs)) (take_all 515 cs (leb-true (length cs) 515 t)))
    (λ t. let l : 515 < length cs = leb-false (length cs) 515 t in
    take-append-le 515 (take 515 cs) xs (rw (length-take-le 515 cs (omega arith)) (omega arith))
    ∙ take-take 515 515 cs (omega arith) ∙ sym (take-append-le 515 cs xs (omega arith)))

-- ---- what is left

-- the plan of the records that are left, behind these; the terminator, once it was read, is one of them
abbrev rest : ℕ → State → Option Entry → List Line → Plan
rest size s none ls = scan srec.step size s ls
rest size s (some e) [] = done (summary s e)
rest size s (some e) (l ∷ ls) = stop (refusal 2 (suc s.number) l.place)

-- behind a terminator it is that of the walk
ended_is : (size : ℕ) (s : State) (e : Entry) (ls : List Line) → ended s e ls ≡ rest size (more s s.header) (some e) ls
ended_is size s e [] = refl
ended_is size s e (l ∷ ls) = refl

-- the end of a text, whatever the lengths: the record at hand is read
abbrev finished : ℕ → Status → List ℕ → List ℕ → Stage
finished base (halted f) memory marks = stage (halted f) memory marks
finished base (going g) memory marks = conclude (closed base g memory marks)

abbrev pub finished_at : ℕ → Stage → Ending
finished_at base w = seen (finished base w.status w.memory w.marks)

-- a load behind a turn: the next record begins here
abbrev behind_turn : Going → Known → Going
behind_turn g k = record { size = g.size; total = g.total; known = k; place = g.total; held = [] }

-- a character that is a line end, and one that is none
pub received_end : (base : ℕ) (g : Going) (memory marks : List ℕ) (c : ℕ) → is_end c ≡ true
    → received base (going g) memory marks c ≡ closed base (counted g) memory marks
received_end base g memory marks c e = rw e

pub received_kept : (base : ℕ) (g : Going) (memory marks : List ℕ) (c : ℕ) → is_end c ≡ false
    → received base (going g) memory marks c ≡ stage (going (kept g c)) memory marks
received_kept base g memory marks c e = rw e

-- the window at begin
module _ (base : ℕ) (m₀ k₀ : List ℕ) where
  -- what a plan leaves in it
  abbrev pub ending : Image → Plan → Ending
  ending img p =
      record { answer = load_answer (placed base img p); memory = overlaid m₀ (stored_before base img p); marks = marks_after k₀ (placed base img p) }

  -- a turn follows a plan: both go on with the same image ..
  record Goes (img : Image) (p : Plan) (size : ℕ) (ls : List Line) (k : Known) (memory marks : List ℕ) : Type 0 where
    img' : Image
    long : length img' ≡ length img
    memory_is : memory ≡ overlaid m₀ img'
    marks_are : marks ≡ marks_of img'
    outcome : placed base img p ≡ placed base img' (rest size k.state k.entry ls)
    stores : stored_before base img p ≡ stored_before base img' (rest size k.state k.entry ls)

  -- .. or both are refused
  abbrev Follows : Image → Plan → ℕ → List Line → Turn → Type 0
  Follows img p size ls (halt f) = (placed base img p ≡ refused f) × (stored_before base img p ≡ img)
  Follows img p size ls (next k memory marks) = Goes img p size ls k memory marks

  -- a claim that is denied leaves the image of the stores as it is
  denied_stores : (img : Image) (n place a : ℕ) (ds : List ℕ) (p : Plan) → (claim_row base (marks_of img) a (length ds) ≡ 0 → ⊥)
      → stored_before base img (store n place a ds p) ≡ img
  denied_stores img n place a ds p z =
      by_test (row12 base (length img) a (length ds)) (λ t. rw t)
      (λ t. by_test (row13 base img a (length ds)) (λ v. rw (t, v))
      (λ v. absurd (never _ _ _ (rw (t, v) at (claim_refused base img a ds (claim_row base (marks_of img) a (length ds)) n place (done nothing) refl z)))))
    where
      nothing : Summary
      nothing = record { header = []; entry = None; records = 0; cells = 0 }

      never : (f : Refusal) (s : Summary) (x : Image) → accepted s x ≡ refused f → ⊥
      never f s x q = let e : ◌≡◌ {A = ℕ} 0 1 = cc in omega arith

  module _ (img : Image) (long : length img ≡ length m₀) (size : ℕ) (ls : List Line) where
    -- the plan from the step x of the next record on
    abbrev from_step : State → ℕ → Step → Plan
    from_step s place x = onward s place (λ u. scan srec.step size u ls) (λ e. ended s e ls) x

    -- a record that leaves the image as it is
    stays : (p : Plan) (k : Known) → p ≡ rest size k.state k.entry ls → Goes img p size ls k (overlaid m₀ img) (marks_of img)
    stays p k e = record {
      img' = img;
      long = refl;
      memory_is = refl;
      marks_are = refl;
      outcome = ap (placed base img) e;
      stores = ap (stored_before base img) e;
    }

    -- a data record
    put_follows : (s : State) (place a : ℕ) (ds : List ℕ)
        → Follows img (from_step s place (put a ds)) size ls
        (stored base (suc s.number) place (overlaid m₀ img) (marks_of img) (more_data s (length ds)) a ds)
    unfolding stored
    put_follows s place a ds =
        let n : ℕ = suc s.number in
        let u : State = more_data s (length ds) in
        by_test (eqb (claim_row base (marks_of img) a (length ds)) 0)
        (λ t. let z : 0 ≡ claim_row base (marks_of img) a (length ds) = sym (eqb-true (claim_row base (marks_of img) a (length ds)) 0 t) in
        let r : (row12 base (length img) a (length ds) ≡ false) × (row13 base img a (length ds) ≡ false) = claim_granted base img a ds z in
        rw t (record {
          img' = filled base img a ds;
          long = fill_length base img (record { addr = a; bytes = ds } ∷ []) (r.0, r.1, tt);
          memory_is = sym (overlaid_filled m₀ base img a ds (sym long) r.0);
          marks_are = claim_marks base img a ds z;
          outcome = rw (r.0, r.1);
          stores = rw (r.0, r.1);
        }))
        (λ t. let z : claim_row base (marks_of img) a (length ds) ≡ 0 → ⊥ = eqb-false (claim_row base (marks_of img) a (length ds)) 0 t in
        rw t (
          claim_refused base img a ds (claim_row base (marks_of img) a (length ds)) n place (scan srec.step size u ls) refl z,
          denied_stores img n place a ds (scan srec.step size u ls) z,
        ))

    -- any step
    step_follows : (s : State) (place : ℕ) (x : Step) → Follows img (from_step s place x) size ls (step_turn base place (overlaid m₀ img) (marks_of img) s x)
    step_follows s place (refuse f) = (refl, refl)
    step_follows s place skip = stays _ _ refl
    step_follows s place (title h) = stays _ _ refl
    step_follows s place (put a ds) = put_follows s place a ds
    step_follows s place (finish e) = stays (ended s e ls) _ (ended_is size s e ls)

    -- a record and the plan from it on
    record_follows : (place : ℕ) (chars : List ℕ) (s : State) (e : Option Entry)
        → Follows img (rest size s e (record { place = place; chars = chars } ∷ ls)) size ls
        (record_turn base place chars (overlaid m₀ img) (marks_of img) s e)
    record_follows place chars s none = step_follows s place (srec.step s chars)
    record_follows place chars s (some e) = (refl, refl)

    -- the record at hand, of which the first 515 characters are held, or none
    line_follows : (place : ℕ) (cs held : List ℕ) (k : Known) → held ≡ take 515 cs
        → Follows img (rest size k.state k.entry (push place cs ls)) size ls (line_turn base place held (overlaid m₀ img) (marks_of img) k)
    line_follows place [] held k h = rw h (stays _ k refl)
    line_follows place (c ∷ cs) held k h = rw h (same k.entry)
      where
        same : (e : Option Entry)
            → Follows img (rest size k.state e (record { place = place; chars = c ∷ cs } ∷ ls)) size ls
            (record_turn base place (take 515 (c ∷ cs)) (overlaid m₀ img) (marks_of img) k.state e)
        same none = rw (step_first k.state (c ∷ cs)) (record_follows place (c ∷ cs) k.state none)
        same (some e) = record_follows place (c ∷ cs) k.state (some e)

  -- ---- behind a turn

  -- nothing is left
  none_left : (size : ℕ) (g : Going) (s : State) (e : Option Entry) (img : Image) → length img ≡ length k₀ → size ≡ g.total
      → seen (conclude (stage (going (behind_turn g (record { state = s; entry = e }))) (overlaid m₀ img) (marks_of img)))
      ≡ ending img (rest size s e [])
  none_left size g s none img long n = rw (length-map, long, n)
  none_left size g s (some e) img long n = refl

  -- a turn that follows a plan, and what comes of both
  module _ (size : ℕ) (g : Going) (img : Image) (p : Plan) (ls : List Line) (long : length img ≡ length k₀) where
    halted_ending : (f : Refusal) → Follows img p size ls (halt f)
        → seen (stage (halted f) (overlaid m₀ img) (replicate (length (marks_of img)) 0)) ≡ ending img p
    halted_ending f h = rw (h.0, h.1, length-map, long)

    going_ending : (k : Known) (memory marks : List ℕ) (h : Goes img p size ls k memory marks)
        → ending h.img' (rest size k.state k.entry ls) ≡ ending img p
    going_ending k memory marks h = rw (h.outcome, h.stores)

    -- the text ends behind the turn
    end_turn : ls ≡ [] → size ≡ g.total → (t : Turn) → Follows img p size ls t
        → seen (conclude (after_turn g (overlaid m₀ img) (marks_of img) t)) ≡ ending img p
    end_turn None-more n (halt f) h = halted_ending f h
    end_turn None-more n (next k memory marks) h =
        rw (h.memory_is, h.marks_are)
        (none_left size g k.state k.entry h.img' (h.long ∙ long) n
        ∙ ap (λ (x : List Line). ending h.img' (rest size k.state k.entry x)) (sym None-more) ∙ going_ending k memory marks h)

    -- the text goes on behind the turn
    fed_turn : (ys : List ℕ)
        → ((k : Known) (x : Image) → length x ≡ length img
        → finished_at base (fed base (stage (going (behind_turn g k)) (overlaid m₀ x) (marks_of x)) ys) ≡ ending x (rest size k.state k.entry ls))
        → (t : Turn) → Follows img p size ls t → finished_at base (fed base (after_turn g (overlaid m₀ img) (marks_of img) t) ys) ≡ ending img p
    fed_turn ys more (halt f) h = rw fed_halted (halted_ending f h)
    fed_turn ys more (next k memory marks) h =
        rw (h.memory_is, h.marks_are) (more k h.img' h.long ∙ going_ending k memory marks h)

  -- the records of what arrives behind a line end
  abbrev later : Going → List ℕ → List Line
  later g ys = push (suc g.total) (front is_end ys) (behind is_end (suc g.total) ys)

  -- the turn of the record at hand
  abbrev turn_at : Going → Image → Turn
  turn_at g img = line_turn base g.place g.held (overlaid m₀ img) (marks_of img) g.known

  -- what these records come to
  abbrev planned : ℕ → Going → Image → List Line → Ending
  planned size g img ls = ending img (rest size g.known.state g.known.entry ls)

  -- what arrives, and what it is the rest of, come to the same
  pub walk : (ys : List ℕ) (size : ℕ) (g : Going) (cs : List ℕ) (img : Image) → length img ≡ length m₀ → length img ≡ length k₀
      → g.held ≡ take 515 cs → size ≡ g.total + length ys
      → finished_at base (fed base (stage (going g) (overlaid m₀ img) (marks_of img)) ys)
      ≡ ending img (rest size g.known.state g.known.entry (push g.place (cs ++ front is_end ys) (behind is_end g.total ys)))
  walk [] size g cs img m k h n =
      rw append-nil
      (end_turn size g img (rest size g.known.state g.known.entry (push g.place cs [])) [] k refl (omega arith) (turn_at g img)
      (line_follows img m size [] g.place cs g.held g.known h))
  walk (c ∷ ys) size g cs img m k h n =
      by_test (is_end c)
      (λ e. ap (λ (w : Stage). finished_at base (fed base w ys)) (received_end base g (overlaid m₀ img) (marks_of img) c e)
      ∙ at_end e
      (fed_turn size (counted g) img (rest size g.known.state g.known.entry (push g.place cs (later g ys))) (later g ys) k ys
      (λ j x l. walk ys size (behind_turn (counted g) j) [] x (l ∙ m) (l ∙ k) refl (omega arith)) (turn_at g img)
      (line_follows img m size (later g ys) g.place cs g.held g.known h)))
      (λ e. ap (λ (w : Stage). finished_at base (fed base w ys)) (received_kept base g (overlaid m₀ img) (marks_of img) c e)
      ∙ walk ys size (kept g c) (cs ++ (c ∷ [])) img m k (rw h (held_more cs (c ∷ []))) (omega arith)
      ∙ on_line e)
    where
      at_end : is_end c ≡ true → {x : Ending} → x ≡ planned size g img (push g.place cs (later g ys))
          → x ≡ planned size g img (push g.place (cs ++ front is_end (c ∷ ys)) (behind is_end g.total (c ∷ ys)))
      at_end e q = rw (e, append-nil) q

      on_line : is_end c ≡ false
          → planned size g img (push g.place ((cs ++ (c ∷ [])) ++ front is_end ys) (behind is_end (suc g.total) ys))
          ≡ planned size g img (push g.place (cs ++ front is_end (c ∷ ys)) (behind is_end g.total (c ∷ ys)))
      on_line e = rw (e, append_assoc)

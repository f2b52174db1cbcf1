-- A text with one character replaced: the other lines and all places stay; and a line that is then refused decides the load.
use mathlib.Core.Path.{◌≡◌, refl, sym, ap, ◌∙◌}
use Prim.Native.Nat.{ℕ, zero, suc, ◌+◌, ◌-◌, ◌≤◌, ◌<◌}
use native.Mathlib.Nat.{zero-add, add-suc, suc-add}
use native.Mathlib.Omega.{arith}
use mathlib.Core.Bool.{Bool, false, cond}
use mathlib.Core.List.{List, [], ◌∷◌, ◌++◌, map}
use mathlib.Core.Logic.{◌⊎◌, ⊎_elim, inl}
use lib.Dec.{ltb}
use lib.ListN.{length, get_or, set, length-set}
use lib.Seq.{set_out, set-get_or, get_or-set_same}
use borrow.Author.Tests.{lt-ltb, le-ltb}
use Rattle.lists.proofs.TestLaws.{by_test}
use Rattle.window.specs.declared.Refusal.{Refusal}
use Rattle.window.specs.Entries.{Entry}
use Rattle.window.specs.Windows.{Window, row1}
use Rattle.window.specs.Images.{Image, blank}
use Rattle.window.specs.Plans.{Summary, refusal, Plan, Outcome, row12, row13, filled, placed}
use Rattle.window.specs.Plans.Outcome.{refused, accepted}
use Rattle.text.specs.Lines.{Line, front, push, behind, lines}
use Rattle.errors.specs.Places.{Within}
use Rattle.text.specs.Scan.{Fault, State, Step, start, more, more_data, ended, located, onward, scan}
use Rattle.text.specs.Scan.Step.{refuse, skip, title, put, finish}
use Rattle.text.specs.Formats.{Format, plan}
use Rattle.text.specs.Load.{load}
use Rattle.text.proofs.FormatLaws.{IsRefusal}

-- ---- where lines stand

-- no line begins before `at`, and none before the end of the one before it
abbrev Apart : ℕ → List Line → Type 0
Apart at [] = Unit {0}
Apart at (l ∷ ls) = (at ≤ l.place) × Apart (l.place + length l.chars) ls

apart_less : (m n : ℕ) (ls : List Line) → m ≤ n → Apart n ls → Apart m ls
apart_less m n [] h a = tt
apart_less m n (l ∷ ls) h a = (omega (arith, a.0), a.1)

apart_push : (at : ℕ) (cs : List ℕ) (ls : List Line) → Apart (at + length cs) ls → Apart at (push at cs ls)
apart_push at [] ls a = apart_less at (at + 0) ls (omega arith) a
apart_push at (c ∷ cs) ls a = (omega arith, a)

-- the line l with the character at index i of the text replaced by c
unfoldable touched : ℕ → ℕ → Line → Line
touched i c l = cond (ltb i l.place) l (record { place = l.place; chars = set l.chars (i - l.place) c })

touched_later : (i c n : ℕ) (ls : List Line) → i < n → Apart n ls → map (touched i c) ls ≡ ls
unfolding touched
touched_later i c n [] h a = refl
touched_later i c n (l ∷ ls) h a =
    rw (lt-ltb i l.place (omega (arith, a.0)), touched_later i c (l.place + length l.chars) ls (omega (arith, a.0)) a.1)

touched_inside : (i c : ℕ) (l : Line) → l.place ≤ i → touched i c l ≡ record { place = l.place; chars = set l.chars (i - l.place) c }
unfolding touched
touched_inside i c l h = rw (le-ltb i l.place h)

touched_at : (at i c : ℕ) (cs : List ℕ) → touched (at + i) c (record { place = at; chars = cs }) ≡ record { place = at; chars = set cs i c }
touched_at at i c cs =
    let e : at + i - at ≡ i = omega arith in
    touched_inside (at + i) c (record { place = at; chars = cs }) (omega arith) ∙ ap (λ (k : ℕ). record { place = at; chars = set cs k c }) e

touched_earlier : (i c : ℕ) (l : Line) → l.place + length l.chars ≤ i → touched i c l ≡ l
touched_earlier i c l h =
    touched_inside i c l (omega arith)
    ∙ ap (λ (cs : List ℕ). record { place = l.place; chars = cs }) (set_out l.chars (i - l.place) c (omega arith))

module _ (gap : ℕ → Bool) where
  behind_apart : (at : ℕ) (t : List ℕ) → Apart (at + length (front gap t)) (behind gap at t)
  behind_apart at [] = tt
  behind_apart at (x ∷ t) =
      by_test (gap x)
      (λ e. rw e (apart_less (at + 0) (suc at) (push (suc at) (front gap t) (behind gap (suc at) t)) (omega arith)
      (apart_push (suc at) (front gap t) (behind gap (suc at) t) (behind_apart (suc at) t))))
      (λ e. rw e (apart_less (at + suc (length (front gap t))) (suc at + length (front gap t)) (behind gap (suc at) t) (omega arith) (behind_apart (suc at) t)))

  lines_apart : (at : ℕ) (t : List ℕ) → Apart at (lines gap at t)
  lines_apart at t = apart_push at (front gap t) (behind gap at t) (behind_apart at t)

  -- ---- one character replaced

  module _ (c : ℕ) (free : gap c ≡ false) where
    front_set : (t : List ℕ) (i : ℕ) → gap (get_or t i 0) ≡ false → front gap (set t i c) ≡ set (front gap t) i c
    front_set [] i g = refl
    front_set (x ∷ t) zero g = rw (free, g)
    front_set (x ∷ t) (suc i) g = by_test (gap x) (λ e. rw e) (λ e. rw (e, front_set t i g))

    push_set : (at i : ℕ) (cs : List ℕ) (ls : List Line) → push at (set cs i c) (map (touched (at + i) c) ls) ≡ map (touched (at + i) c) (push at cs ls)
    push_set at i [] ls = refl
    push_set at zero (x ∷ cs) ls = rw (touched_at at zero c (x ∷ cs))
    push_set at (suc i) (x ∷ cs) ls = rw (touched_at at (suc i) c (x ∷ cs))

    behind_set : (t : List ℕ) (at i : ℕ) → gap (get_or t i 0) ≡ false → behind gap at (set t i c) ≡ map (touched (at + i) c) (behind gap at t)
    behind_set [] at i g = refl
    behind_set (x ∷ t) at zero g =
        rw (free, g) (sym (touched_later (at + 0) c (suc at + length (front gap t)) (behind gap (suc at) t) (omega arith) (behind_apart (suc at) t)))
    behind_set (x ∷ t) at (suc i) g =
        let r : behind gap (suc at) (set t i c) ≡ map (touched (at + suc i) c) (behind gap (suc at) t)
        = behind_set t (suc at) i g ∙ ap (λ (k : ℕ). map (touched k c) (behind gap (suc at) t)) (omega arith) in
        by_test (gap x)
        (λ e. rw (e, front_set t i g, behind_set t (suc at) i g, push_set (suc at) i (front gap t) (behind gap (suc at) t), add-suc at i, ← (suc-add at i)))
        (λ e. rw e r)

    lines_set : (t : List ℕ) (at i : ℕ) → gap (get_or t i 0) ≡ false → lines gap at (set t i c) ≡ map (touched (at + i) c) (lines gap at t)
    lines_set t at i g = rw (front_set t i g, behind_set t at i g) (push_set at i (front gap t) (behind gap at t))

-- ---- the lines around the changed one

apart_place : (n : ℕ) (es ls : List Line) (l : Line) → Apart n (es ++ (l ∷ ls)) → n ≤ l.place
apart_place n [] ls l a = a.0
apart_place n (e ∷ es) ls l a = omega (arith, a.0, apart_place (e.place + length e.chars) es ls l a.1)

apart_later : (n : ℕ) (es ls : List Line) (l : Line) → Apart n (es ++ (l ∷ ls)) → Apart (l.place + length l.chars) ls
apart_later n [] ls l a = a.1
apart_later n (e ∷ es) ls l a = apart_later (e.place + length e.chars) es ls l a.1

-- line l with the character at index i of the text replaced by c
abbrev pub changed : Line → ℕ → ℕ → Line
changed l i c = record { place = l.place; chars = set l.chars (i - l.place) c }

touched_one : (i c n : ℕ) (es ls : List Line) (l : Line) → Apart n (es ++ (l ∷ ls)) → l.place ≤ i → i < l.place + length l.chars
    → map (touched i c) (es ++ (l ∷ ls)) ≡ es ++ (changed l i c ∷ ls)
touched_one i c n [] ls l a f t = rw (touched_inside i c l f, touched_later i c (l.place + length l.chars) ls t a.1)
touched_one i c n (e ∷ es) ls l a f t =
    let m : ℕ = e.place + length e.chars in
    rw (touched_earlier i c e (omega (arith, apart_place m es ls l a.1)), touched_one i c m es ls l a.1 f t)

module _ (gap : ℕ → Bool) (text : List ℕ) (i n : ℕ) (l : Line) (w : Within gap text i n l) (g : gap (get_or text i 0) ≡ false) where
  -- a text changed inside one line has the same other lines, and the same places
  pub lines_changed : (c : ℕ) → gap c ≡ false → lines gap 0 (set text i c) ≡ w.earlier ++ (changed l i c ∷ w.later)
  lines_changed c free =
      lines_set gap c free text 0 i g ∙ rw (w.all, zero-add) (touched_one i c 0 w.earlier w.later l (rw w.all at (lines_apart gap 0 text)) w.first w.last)

  same_line : (es ls : List Line) (k m : Line) → es ++ (k ∷ ls) ≡ es ++ (m ∷ ls) → k ≡ m
  same_line [] ls k m q = cc
  same_line (e ∷ es) ls k m q = same_line es ls k m (cc)

  -- the character of the text is that of the line
  pub char_is : get_or text i 0 ≡ get_or l.chars (i - l.place) 0
  char_is =
      let c : ℕ = get_or text i 0 in
      let q : changed l i c ≡ l
      = same_line w.earlier w.later (changed l i c) l
      (sym (lines_changed c g) ∙ ap (lines gap 0) (set-get_or text i 0) ∙ w.all) in
      sym (get_or-set_same l.chars (i - l.place) c 0 (omega (arith, w.first, w.last)))
      ∙ ap (λ (k : Line). get_or k.chars (i - l.place) 0) q

-- ---- a line that is refused once it is changed

never : (f : Refusal) (t : Summary) (img : Image) → refused f ≡ accepted t img → ⊥
never f t img q = let z : ◌≡◌ {A = ℕ} 0 1 = cc in omega arith

-- l is in an accepted text; every state refuses l, or else refuses k, for f
module _ (F : Format) (base size : ℕ) (l k : Line) (f : Fault) (t : Summary) (img' : Image)
    (bad : (s : State) → IsRefusal (F.step s l.chars) ⊎ (F.step s k.chars ≡ refuse f)) where
  abbrev walked : Image → State → List Line → Outcome
  walked img s ls = placed base img (scan F.step size s ls)

  refusal_never : (img : Image) (s : State) (at : ℕ) (go : State → Plan) (last : Entry → Plan) (x : Step) → IsRefusal x
      → placed base img (onward s at go last x) ≡ accepted t img' → ⊥
  refusal_never img s at go last (refuse f) r q = never (located (suc s.number) at f) t img' q
  refusal_never img s at go last skip r q = r
  refusal_never img s at go last (title h) r q = r
  refusal_never img s at go last (put a ds) r q = r
  refusal_never img s at go last (finish e) r q = r

  ended_never : (img : Image) (s : State) (a : Entry) (es ls : List Line) → placed base img (ended s a (es ++ (l ∷ ls))) ≡ accepted t img' → ⊥
  ended_never img s a [] ls q = never (refusal 2 (suc (suc s.number)) l.place) t img' q
  ended_never img s a (e ∷ es) ls q = never (refusal 2 (suc (suc s.number)) e.place) t img' q

  here : (img : Image) (s : State) (n : ℕ) (ls ms : List Line) → n ≡ suc s.number → walked img s (l ∷ ls) ≡ accepted t img'
      → walked img s (k ∷ ms) ≡ refused (located n k.place f)
  here img s n ls ms e q =
      ⊎_elim (λ (r : IsRefusal (F.step s l.chars)).
      absurd (refusal_never img s l.place (λ u. scan F.step size u ls) (λ a. ended s a ls) (F.step s l.chars) r q))
      (λ (r : F.step s k.chars ≡ refuse f). rw (r, e)) (bad s)

  -- with k in place of l behind the lines es, the walk is refused for f, at k's number and place
  abbrev Struck : List Line → List Line → List Line → Type 0
  Struck es ls ms = (img : Image) (s : State) (n : ℕ) → n ≡ s.number + suc (length es) → walked img s (es ++ (l ∷ ls)) ≡ accepted t img'
      → walked img s (es ++ (k ∷ ms)) ≡ refused (located n k.place f)

  struck_turn : (es ls ms : List Line) → Struck es ls ms → (at : ℕ) (img : Image) (s : State) (n : ℕ) → n ≡ suc s.number + suc (length es) → (x : Step)
      → placed base img (onward s at (λ u. scan F.step size u (es ++ (l ∷ ls))) (λ a. ended s a (es ++ (l ∷ ls))) x) ≡ accepted t img'
      → placed base img (onward s at (λ u. scan F.step size u (es ++ (k ∷ ms))) (λ a. ended s a (es ++ (k ∷ ms))) x) ≡ refused (located n k.place f)
  struck_turn es ls ms g at img s n e (refuse h) q = absurd (never (located (suc s.number) at h) t img' q)
  struck_turn es ls ms g at img s n e skip q = g img (more s s.header) n e q
  struck_turn es ls ms g at img s n e (title h) q = g img (more s h) n e q
  struck_turn es ls ms g at img s n e (put a ds) q =
      by_test (row12 base (length img) a (length ds)) (λ y. absurd (never (refusal 12 (suc s.number) at) t img' (rw y at q)))
      (λ y. by_test (row13 base img a (length ds)) (λ z. absurd (never (refusal 13 (suc s.number) at) t img' (rw (y, z) at q)))
      (λ z. rw (y, z) (g (filled base img a ds) (more_data s (length ds)) n e (rw (y, z) at q))))
  struck_turn es ls ms g at img s n e (finish a) q = absurd (ended_never img s a es ls q)

  walk_struck : (es ls ms : List Line) → Struck es ls ms
  walk_struck [] ls ms img s n e q = here img s n ls ms (omega arith) q
  walk_struck (h ∷ es) ls ms img s n e q = struck_turn es ls ms (walk_struck es ls ms) h.place img s n (omega arith) (F.step s h.chars) q

-- an accepted text with one character replaced, so that a line is refused for f that some state did not refuse: the load is refused for f there
pub load_struck : (F : Format) (W : Window) (text : List ℕ) (i c n : ℕ) (l : Line) (f : Fault) (t : Summary) (img : Image)
    → load W (plan F text) ≡ accepted t img → Within F.gap text i n l → F.gap (get_or text i 0) ≡ false → F.gap c ≡ false
    → ((s : State) → IsRefusal (F.step s l.chars) ⊎ (F.step s (changed l i c).chars ≡ refuse f))
    → load W (plan F (set text i c)) ≡ refused (located n l.place f)
unfolding load plan
load_struck F W text i c n l f t img q w g free bad =
    by_test (row1 W) (λ z. absurd (never (refusal 1 0 0) t img (rw z at q)))
    (λ z. rw (z, lines_changed F.gap text i n l w g c free, length-set text i c)
    (walk_struck F W.base (length text) l (changed l i c) f t img bad w.earlier w.later w.later (blank (length W.memory)) start n
    (omega (arith, w.number)) (rw (z, w.all) at q)))

-- a line of an accepted text is one that some state does not refuse
pub some_take : (F : Format) (W : Window) (text : List ℕ) (i n : ℕ) (l : Line) (t : Summary) (img : Image)
    → load W (plan F text) ≡ accepted t img → Within F.gap text i n l → F.gap (get_or text i 0) ≡ false
    → ((s : State) → IsRefusal (F.step s l.chars)) → ⊥
some_take F W text i n l t img q w g bad =
    let f : Fault = record { reason = 0; offset = 0; want = 0 } in
    never (located n l.place f) t img
    (sym (load_struck F W text i (get_or text i 0) n l f t img q w g g (λ s. inl (bad s)))
    ∙ (ap (λ (u : List ℕ). load W (plan F u)) (set-get_or text i 0) ∙ q))

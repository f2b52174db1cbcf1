-- A line that ends in a part: what its turn makes of the load.
use mathlib.Core.Path.{◌≡◌, refl, sym, ap, ◌∙◌, subst}
use Prim.Native.Nat.{ℕ, suc, ◌+◌, ◌-◌, ◌≤◌, ◌<◌}
use native.Mathlib.Nat.{add-zero}
use native.Mathlib.Omega.{arith}
use mathlib.Core.Bool.{true}
use mathlib.Core.List.{List, [], ◌∷◌, ◌++◌, append_assoc}
use lib.ListN.{length, take, drop, replicate, set, length-append, drop_of_length-le}
use lib.Seq.{take_all, take_at, set_at}
use Rattle.window.specs.declared.Refusal.{Refusal}
use Rattle.marks.specs.declared.Form.{Form}
use Rattle.marks.specs.Forms.{Tidy}
use Rattle.text.specs.Lines.{front}
use Rattle.srec.specs.Lines.{is_end}
use Rattle.parts.specs.Parts.{Known, Going, Stage, stage, stopped, Turn, line_turn, after_turn, counted, fed}
use Rattle.parts.specs.Parts.Status.{going, halted}
use Rattle.parts.specs.Parts.Turn.{halt, next}
use Rattle.parts.specs.Stretches.{fresh, kept_all}
use Rattle.tally.specs.declared.Tally.{Tally}
use Rattle.tally.specs.Tallies.{known_of}
use Rattle.parts.proofs.GrowthLaws.{TurnKeeps, line_keeps}
use Rattle.parts.proofs.SoundLaws.{fed_halted}
use Rattle.parts.proofs.StretchLaws.{fed_line}
use Rattle.part_lines.proofs.FreeLaws.{front_ended}

-- a refused load clears the marks, whatever they were: only their number counts
pub stopped_as : (w : Stage) (f : Refusal) (memory memory' marks marks' : List ℕ) → w ≡ stopped f memory marks → memory' ≡ memory
    → length marks' ≡ length marks → w ≡ stopped f memory' marks'
stopped_as w f memory memory' marks marks' q m l = q ∙ (λ i. stage (halted f) (sym m i) (replicate (sym l i) 0))

-- ---- the turn

module _ (base : ℕ) (memory marks : List ℕ) (g : Going) (short : length g.held ≤ 515) (xs : List ℕ) (ends : length (front is_end xs) < length xs)
  where
    -- the characters that are held of the line
    abbrev pub line_held : List ℕ
    line_held = take 515 (g.held ++ front is_end xs)

    -- its turn
    abbrev pub turn_of : Turn
    turn_of = line_turn base g.place line_held memory marks g.known

    -- what arrives is the turn, and what stands behind the line end
    to_turn : (t : Turn) → turn_of ≡ t
        → fed base (stage (going g) memory marks) xs
        ≡ fed base (after_turn (counted (kept_all g (front is_end xs))) memory marks t) (drop (suc (length (front is_end xs))) xs)
    to_turn t h =
        fed_line base memory marks xs g short ends
        ∙ ap (λ (x : Turn). fed base (after_turn (counted (kept_all g (front is_end xs))) memory marks x) (drop (suc (length (front is_end xs))) xs)) h

    -- the line is refused
    pub turn_halts : (f : Refusal) → turn_of ≡ halt f → fed base (stage (going g) memory marks) xs ≡ stopped f memory marks
    turn_halts f h =
        to_turn (halt f) h ∙ fed_halted base (drop (suc (length (front is_end xs))) xs) f memory (replicate (length marks) 0)

    -- it is taken: the next record begins behind its end, at a place of the whole text
    pub turn_goes : (k : Known) (memory' marks' : List ℕ) → turn_of ≡ next k memory' marks' → (total : ℕ) → total ≡ suc (g.total + length (front is_end xs))
        → fed base (stage (going g) memory marks) xs
        ≡ fed base (stage (going (fresh g.size total k)) memory' marks') (drop (suc (length (front is_end xs))) xs)
    turn_goes k memory' marks' h total e =
        to_turn (next k memory' marks') h
        ∙ ap (λ (n : ℕ). fed base (stage (going (fresh g.size n k)) memory' marks') (drop (suc (length (front is_end xs))) xs)) (sym e)

    -- buffers keep their lengths, numbers grow by one record, and a refusal has a reason
    pub turn_keeps : length memory ≡ length marks → (t : Turn) → turn_of ≡ t → TurnKeeps (length line_held) g.known memory marks t
    turn_keeps same t h =
        subst (TurnKeeps (length line_held) g.known memory marks) h (line_keeps g.known memory marks same base g.place line_held)

-- ---- a line by itself

-- a refused load does not go on
never_going : (f : Refusal) (g : Going) → halted f ≡ going g → ⊥
never_going f g e = let z : ◌≡◌ {A = ℕ} 0 1 = cc in omega arith

same_refusal_lem : (f g : Refusal) → halted f ≡ halted g → f ≡ g
same_refusal_lem f g e = cc

same_going : (g h : Going) → going g ≡ going h → g ≡ h
same_going g h e = cc

-- a line of at most 515 characters without a line end inside, taken as a part with a line end behind it: what its lines come to is its turn
module _ (base size place : ℕ) (memory marks : List ℕ) (k : Known) (cs : List ℕ) (free : front is_end cs ≡ cs) (short : length cs ≤ 515)
    (c : ℕ) (is-end : is_end c ≡ true) where
  abbrev xs : List ℕ
  xs = cs ++ (c ∷ [])

  abbrev g : Going
  g = fresh size place k

  abbrev turn : Turn
  turn = line_turn base place cs memory marks k

  front_is : front is_end xs ≡ cs
  front_is = front_ended cs c is-end free

  long : length xs ≡ suc (length cs)
  long = length-append cs (c ∷ []) ∙ omega arith

  ends : length (front is_end xs) < length xs
  ends = omega (arith, ap length front_is, long)

  turn_is : turn_of base memory marks g (omega arith) xs ends ≡ turn
  turn_is = ap (λ (x : List ℕ). line_turn base place x memory marks k) (ap (take 515) front_is ∙ take_all 515 cs short)

  -- it is taken, and nothing stands behind its end
  goes : (k' : Known) (memory' marks' : List ℕ) → turn ≡ next k' memory' marks'
      → fed base (stage (going g) memory marks) xs ≡ stage (going (fresh size (suc (place + length (front is_end xs))) k')) memory' marks'
  goes k' memory' marks' h =
      turn_goes base memory marks g (omega arith) xs ends k' memory' marks' (turn_is ∙ h) (suc (place + length (front is_end xs))) refl
      ∙ ap (fed base (stage (going (fresh size (suc (place + length (front is_end xs))) k')) memory' marks'))
      (drop_of_length-le xs {i = suc (length (front is_end xs))} (omega (arith, ap length front_is, long)))

  -- its lines are refused, and so is it
  refused : (t : Turn) → turn ≡ t → (f : Refusal) (memory' marks' : List ℕ)
      → fed base (stage (going g) memory marks) xs ≡ stopped f memory' marks' → (t ≡ halt f) × (memory' ≡ memory)
  refused (halt e) h f memory' marks' q =
      let w : stopped e memory marks ≡ stopped f memory' marks' = sym (turn_halts base memory marks g (omega arith) xs ends e (turn_is ∙ h)) ∙ q in
      (ap halt (same_refusal_lem e f (ap (λ (x : Stage). x.status) w)), sym (ap (λ (x : Stage). x.memory) w))
  refused (next k' m n) h f memory' marks' q =
      absurd (never_going f _ (sym (ap (λ (x : Stage). x.status) (sym (goes k' m n h) ∙ q))))

  -- they are taken, and so is it
  taken : (t : Turn) → turn ≡ t → (to : Going) (memory' marks' : List ℕ)
      → fed base (stage (going g) memory marks) xs ≡ stage (going to) memory' marks' → t ≡ next to.known memory' marks'
  taken (halt e) h to memory' marks' q =
      absurd (never_going e _ (ap (λ (x : Stage). x.status) (sym (turn_halts base memory marks g (omega arith) xs ends e (turn_is ∙ h)) ∙ q)))
  taken (next k' m n) h to memory' marks' q =
      let w = sym (goes k' m n h) ∙ q in
      let known = ap (λ (x : Going). x.known) (same_going _ _ (ap (λ (x : Stage). x.status) w)) in
      λ i. next (known i) (ap (λ (x : Stage). x.memory) w i) (ap (λ (x : Stage). x.marks) w i)

-- LF ends a line
lf_ends : is_end 10 ≡ true
unfolding is_end
lf_ends = refl

-- characters with room behind them, and LF put there
pub lf_behind : (cs rest : List ℕ) (n : ℕ) → length cs ≡ n → 0 < length rest → take (n + 1) (set (cs ++ rest) n 10) ≡ cs ++ (10 ∷ [])
lf_behind cs [] n l h = absurd (omega arith)
lf_behind cs (x ∷ rest) n l h =
    ap (take (n + 1)) (set_at cs x rest 10 n l ∙ sym (append_assoc cs (10 ∷ []) rest))
    ∙ take_at (cs ++ (10 ∷ [])) rest (n + 1) (length-append cs (10 ∷ []) ∙ omega (arith, l))

-- what `close_line` answers, as it has the line and what its lines came to
module _ (base size place : ℕ) (memory marks : List ℕ) (k : Known) (cs cs' whole : List ℕ) (free : front is_end cs ≡ cs) (short : length cs ≤ 515)
    (shown : cs ≡ cs') (ended : whole ≡ cs ++ (10 ∷ [])) where
  abbrev line : ℕ → List ℕ → Stage
  line from chars = fed base (stage (going (fresh size from k)) memory marks) chars

  alone : line place (cs ++ (10 ∷ [])) ≡ line (place + 0) whole
  alone = λ i. line (sym (add-zero place) i) (sym ended i)

  pub closed_refused : (f : Refusal) (memory' marks' : List ℕ) → line (place + 0) whole ≡ stopped f memory' marks'
      → (line_turn base place cs' memory marks k ≡ halt f) × (memory' ≡ memory)
  closed_refused f memory' marks' q =
      subst (λ (x : List ℕ). (line_turn base place x memory marks k ≡ halt f) × (memory' ≡ memory)) shown
      (refused base size place memory marks k cs free short 10 lf_ends (line_turn base place cs memory marks k) refl f memory' marks' (alone ∙ q))

  pub closed_taken : (to : Going) (memory' marks' : List ℕ) → line (place + 0) whole ≡ stage (going to) memory' marks'
      → line_turn base place cs' memory marks k ≡ next to.known memory' marks'
  closed_taken to memory' marks' q =
      subst (λ (x : List ℕ). line_turn base place x memory marks k ≡ next to.known memory' marks') shown
      (taken base size place memory marks k cs free short 10 lf_ends (line_turn base place cs memory marks k) refl to memory' marks' (alone ∙ q))

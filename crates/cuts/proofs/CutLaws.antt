-- A text in parts of equal length: what is left of it behind the parts that were fed, and that the load agrees with that of the text.
use mathlib.Core.Path.{◌≡◌, refl, sym, ap, ◌∙◌, subst}
use Prim.Native.Nat.{ℕ, zero, suc, ◌+◌, ◌-◌, ◌≤◌, ◌<◌, min, max}
use native.Mathlib.Nat.{zero-min, min-zero, suc-min-suc}
use native.Mathlib.Omega.{arith}
use mathlib.Core.List.{List, [], ◌∷◌, ◌++◌}
use lib.ListN.{length, take, drop, length-drop, take-append-drop}
use Rattle.std.proofs.Common.{length-append}
use Rattle.std.proofs.Math.Seq.{take-append_seam, drop-append_seam}
use Rattle.lists.proofs.PartLaws.{take_least}
use Rattle.lists.proofs.TestLaws.{by_test}
use Rattle.window.specs.Windows.{Window, window_of, row1}
use Rattle.window.specs.declared.Loaded.{Loaded}
use Rattle.marks.specs.declared.Form.{Form}
use Rattle.marks.specs.declared.Form.TheVariants.{Bytes}
use Rattle.text.specs.Formats.{plan}
use Rattle.text.specs.Load.{load, load_answer, marks_after}
use Rattle.srec.specs.Formats.{srec}
use Rattle.parts.specs.Parts.{Status, Stage, stage, feed, most, begun, end_in, end}
use Rattle.parts.specs.Agreement.{feeds, joined, seen, in_parts, memory_kept}
use Rattle.parts.specs.Forms.{feed_as, end_as, answered_in}
use Rattle.parts.proofs.Agreement.{short_agrees}
use Rattle.parts.proofs.FormLaws.{feed_bytes, end_bytes, answered_bytes}
use Rattle.session.specs.declared.Session.{Session}
use Rattle.session.specs.Sessions.{status_of}
use Rattle.cuts.specs.Cuts.{parts_up_to, parts_of}

-- what stands behind at most so many characters
drop_least : (k : ℕ) (l : List ℕ) → drop (min k (length l)) l ≡ drop k l
drop_least zero l = rw (zero-min (length l))
drop_least (suc k) [] = rw (min-zero (suc k))
drop_least (suc k) (x ∷ xs) = rw (suc-min-suc k (length xs)) (drop_least k xs)

-- a stage is its status, memory and marks
stage_is : {x : Status} {memory marks : List ℕ} {w : Stage} → x ≡ w.status → memory ≡ w.memory → marks ≡ w.marks → stage x memory marks ≡ w
stage_is p q r i = record { status = p i; memory = q i; marks = r i }

-- ---- a mark byte a cell

-- what a part of such a load leaves, and what its end does
module _ (s : Session) (base : ℕ) (memory marks part : List ℕ) (told : s.form ≡ Bytes) where
  pub fed_in_bytes : {x : Status} {m k : List ℕ} → let w = feed_as s.form (status_of s) (window_of base memory marks) part in
      x ≡ w.status → m ≡ w.memory → k ≡ w.marks
      → let v = feed base (stage (status_of s) memory marks) part in (x ≡ v.status) × ((m ≡ v.memory) × (k ≡ v.marks))
  fed_in_bytes p q r =
      let e = ap (λ (f : Form). feed_as f (status_of s) (window_of base memory marks) part) told ∙ feed_bytes (status_of s) (window_of base memory marks) part in
      (p ∙ ap (λ (w : Stage). w.status) e, (q ∙ ap (λ (w : Stage). w.memory) e, r ∙ ap (λ (w : Stage). w.marks) e))

module _ (s : Session) (base : ℕ) (memory marks : List ℕ) (told : s.form ≡ Bytes) where
  pub ended_in_bytes : {l : Loaded} {m k : List ℕ} → let w = end_as s.form (status_of s) (window_of base memory marks) in
      l ≡ answered_in s.form w.status w.marks → m ≡ w.memory → k ≡ w.marks
      → let v = seen (end_in (status_of s) (window_of base memory marks)) in (l ≡ v.answer) × ((m ≡ v.memory) × (k ≡ v.marks))
  ended_in_bytes p q r =
      let e = ap (λ (f : Form). end_as f (status_of s) (window_of base memory marks)) told ∙ end_bytes (status_of s) (window_of base memory marks) in (
        p ∙ (λ i. answered_in (told i) (e i).status (e i).marks) ∙ answered_bytes (end base (stage (status_of s) memory marks)).status (end base (stage (status_of s) memory marks)).marks,
        (q ∙ ap (λ (w : Stage). w.memory) e, r ∙ ap (λ (w : Stage). w.marks) e),
      )

-- ---- the parts one after the other

-- no characters, no parts
parts_none : (k n : ℕ) → parts_up_to k n [] ≡ []
parts_none zero n = refl
parts_none (suc k) n = refl

-- the first part, and those behind it
parts_first : (k n : ℕ) (xs : List ℕ) → 0 < length xs → parts_up_to (suc k) n xs ≡ take n xs ∷ parts_up_to k n (drop n xs)
parts_first k n [] h = absurd (omega arith)
parts_first k n (x ∷ xs) h = refl

-- ---- the loop

module _ (base size : ℕ) (text : List ℕ) (first : Stage) where
  -- the stage before the characters that are left: with their parts it comes to what all parts come to
  pub record Behind (rest : List ℕ) (w : Stage) : Type 0 where
    pub left : ℕ
    pub enough : length rest ≤ left
    pub whole : feeds base w (parts_up_to left size rest) ≡ feeds base first (parts_up_to (length text) size text)

  -- before all characters
  pub behind_none : (rest : List ℕ) → rest ≡ text → Behind rest first
  behind_none rest e = subst (λ (l : List ℕ). Behind l first) (sym e) (record { left = length text; enough = omega arith; whole = refl })

  -- behind one part more
  pub behind_part : (all part rest : List ℕ) (w : Stage) → 0 < size → all ≡ part ++ rest → length part ≡ min size (length all) → 0 < length all → Behind all w
      → Behind rest (feed base w part)
  behind_part all part rest w some e long h b = go b.left b.enough b.whole
    where
      part_is : take size all ≡ part
      part_is = sym (take_least size all) ∙ ap (λ (n : ℕ). take n all) (sym long) ∙ ap (λ (l : List ℕ). take (length part) l) e ∙ take-append_seam part rest

      rest_is : drop size all ≡ rest
      rest_is = sym (drop_least size all) ∙ ap (λ (n : ℕ). drop n all) (sym long) ∙ ap (λ (l : List ℕ). drop (length part) l) e ∙ drop-append_seam part rest

      lengths : length all ≡ length part + length rest
      lengths = ap (λ (l : List ℕ). length l) e ∙ length-append part rest

      go : (k : ℕ) → length all ≤ k → feeds base w (parts_up_to k size all) ≡ feeds base first (parts_up_to (length text) size text)
          → Behind rest (feed base w part)
      go zero n q = absurd (omega arith)
      go (suc k) n q =
          record {
            left = k;
            enough = omega (arith, lengths, long);
            whole = rw (← part_is, ← rest_is) (sym (ap (feeds base w) (parts_first k size all h)) ∙ q);
          }

  -- the same of the state and the buffers that a call left
  pub behind_fed : (all part rest : List ℕ) (w : Stage) (x : Status) (memory marks : List ℕ) → 0 < size → all ≡ part ++ rest → length part ≡ min size (length all)
      → 0 < length all → Behind all w → x ≡ (feed base w part).status → memory ≡ (feed base w part).memory → marks ≡ (feed base w part).marks
      → Behind rest (stage x memory marks)
  behind_fed all part rest w x memory marks some e long h b p q r = subst (Behind rest) (sym (stage_is p q r)) (behind_part all part rest w some e long h b)

  -- behind all characters
  pub behind_all : (rest : List ℕ) (w : Stage) → length rest ≡ 0 → Behind rest w → w ≡ feeds base first (parts_up_to (length text) size text)
  behind_all [] w h b = sym (ap (feeds base w) (parts_none b.left size)) ∙ b.whole
  behind_all (x ∷ xs) w h b = absurd (omega arith)

-- ---- the calls

-- begin leaves memory as it is
begun_memory : (W : Window) → W.memory ≡ (begun W).memory
unfolding begun
begun_memory W = by_test (row1 W) (λ e. rw e) (λ e. rw e)

-- begun, fed the parts and ended
pub in_parts_lem : (W : Window) (n size : ℕ) (text : List ℕ) (x y : Status) (marks memory' marks' : List ℕ) → size ≡ max n 1 → x ≡ (begun W).status
    → marks ≡ (begun W).marks
    → y ≡ (feeds W.base (stage x W.memory marks) (parts_up_to (length text) size text)).status
    → memory' ≡ (feeds W.base (stage x W.memory marks) (parts_up_to (length text) size text)).memory
    → marks' ≡ (feeds W.base (stage x W.memory marks) (parts_up_to (length text) size text)).marks
    → seen (end_in y (window_of W.base memory' marks')) ≡ in_parts W (parts_of n text)
in_parts_lem W n size text x y marks memory' marks' s p q a b c =
    let first : stage x W.memory marks ≡ begun W = stage_is p (begun_memory W) q in
    let last : stage y memory' marks' ≡ feeds W.base (stage x W.memory marks) (parts_up_to (length text) size text) = stage_is a b c in
    ap (λ (w : Stage). seen (end W.base w)) (last ∙ ap (λ (w : Stage). feeds W.base w (parts_up_to (length text) size text)) first
    ∙ ap (λ (k : ℕ). feeds W.base (begun W) (parts_up_to (length text) k text)) s)

-- ---- the text

-- parts of one character or more are cut from the text
joined_parts : (k n : ℕ) (xs : List ℕ) → 0 < n → length xs ≤ k → joined (parts_up_to k n xs) ≡ xs
joined_parts zero n [] some h = refl
joined_parts zero n (x ∷ xs) some h = absurd (omega arith)
joined_parts (suc k) n [] some h = refl
joined_parts (suc k) n (x ∷ xs) some h =
    ap (λ (ys : List ℕ). take n (x ∷ xs) ++ ys) (joined_parts k n (drop n (x ∷ xs)) some (omega (arith, length-drop n (x ∷ xs))))
    ∙ take-append-drop n (x ∷ xs)

pub joined_all : (n : ℕ) (text : List ℕ) → joined (parts_of n text) ≡ text
joined_all n text = joined_parts (length text) (max n 1) text (omega arith) (omega arith)

-- cut into parts of any length, a text that row 20 allows is loaded as at once
pub cut_agrees : (W : Window) (n : ℕ) (text : List ℕ) → length text ≤ most
    → ((in_parts W (parts_of n text)).answer ≡ load_answer (load W (plan srec text)))
    × ((in_parts W (parts_of n text)).memory ≡ memory_kept W text)
    × ((in_parts W (parts_of n text)).marks ≡ marks_after W.marks (load W (plan srec text)))
cut_agrees W n text h =
    let j = joined_all n text in
    let a = short_agrees W (parts_of n text) (rw j h) in (
      a.answer ∙ ap (λ (x : List ℕ). load_answer (load W (plan srec x))) j,
      a.memory ∙ ap (memory_kept W) j,
      a.marks ∙ ap (λ (x : List ℕ). marks_after W.marks (load W (plan srec x))) j,
    )

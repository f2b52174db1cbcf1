-- The two editions of tapes: the statements of specs/Editions.antt hold.
use mathlib.Core.Path.{◌≡◌, refl, sym, ap, ◌∙◌, subst}
use Prim.Native.Nat.{ℕ, suc, ◌+◌, ◌%◌, ◌≤◌, ◌<◌}
use native.Mathlib.Omega.{arith}
use mathlib.Core.Bool.{true, false, not, ◌&&◌}
use mathlib.Core.List.{List, [], ◌∷◌}
use lib.Dec.{eqb, lit≤}
use lib.ListN.{length, length-take}
use borrow.Author.Tests.{eqb-true, not-false, ne_eqb}
use Rattle.hex_digits.specs.Numbers.{sum}
use Rattle.lists.proofs.TestLaws.{by_test}
use Rattle.lists.proofs.ByteLaws.{BytesTake}
use Rattle.window.specs.Entries.{Entry}
use Rattle.window.specs.Windows.{Window}
use Rattle.window.specs.Images.{Image}
use Rattle.window.specs.Cells.{Cell, Run, shown}
use Rattle.window.specs.Plans.{Summary, Plan}
use Rattle.window.specs.Plans.Plan.{done}
use Rattle.window.specs.Plans.Outcome.{accepted}
use Rattle.window.proofs.PlanLaws.{final}
use Rattle.text.specs.Lines.{Line, lines}
use Rattle.text.specs.Scan.{State, Step, start, scan}
use Rattle.text.specs.Scan.Step.{skip, title, put, finish}
use Rattle.text.specs.Runs.{runs, data_lines}
use Rattle.text.specs.Formats.{plan}
use Rattle.text.specs.Load.{load}
use Rattle.text.specs.Write.{text_of, write}
use Rattle.text.specs.Terms.{Accepted}
use Rattle.text.proofs.RunLaws.{AllSized, sized_runs}
use Rattle.text.proofs.WalkLaws.{Inductive, accepted_walk}
use Rattle.text.proofs.FormatLaws.{IsRefusal}
use Rattle.text.proofs.LoadLaws.{Behind, load_inv, accepted_is}
use Rattle.tape.specs.declared.Edition.{Edition}
use Rattle.tape.specs.declared.Edition.TheVariants.{Repeat, Sum}
use Rattle.tape.specs.Lines.{is_gap}
use Rattle.tape.specs.Reading.{Read, length_in, address_in, data_in, covered, check_in, is_last, row3, row4, read}
use Rattle.tape.specs.Reading.Read.{good, bad}
use Rattle.tape.specs.Judging.{check_of, row7, row10, row11, carries, judge, judged}
use Rattle.tape.specs.Canonical.{fields, line_text, line, data_line, follow, canonical}
use Rattle.tape.specs.Formats.{tape}
use Rattle.tape.specs.Editions.{line_count, SameBelow256, SameWritten, OneAbove255}
use Rattle.tape.proofs.TapeLimitLaws.{limits, ReadOk, read_ok}
use Rattle.tape.proofs.TapeFormatLaws.{lawful}
use Rattle.tape.proofs.TapeCheckLaws.{covered_last, covered_number, check_data, check_sum, checks_meet, checks_apart}

-- ---- one line

-- the bytes that the check of a last line covers are three at most
three : (bs : List ℕ) → is_last bs ≡ true → (length_in bs ≡ 0) × (length (covered bs) ≤ 3)
unfolding is_last covered
three bs e = let z : length_in bs ≡ 0 = eqb-true (length_in bs) 0 e in (z, rw (z, length-take) (omega arith))

-- what row 10 lets pass: the number of a last line is that of the data lines
number_is : (s : State) (bs : List ℕ) → (is_last bs && row10 s (address_in bs)) ≡ false → is_last bs ≡ true → address_in bs ≡ s.records
unfolding row10
number_is s bs q e =
    let k : not (eqb (address_in bs) s.records) ≡ false = rw e at q in
    eqb-true (address_in bs) s.records (not-false (eqb (address_in bs) s.records) k)

-- where row 10 lets pass, with fewer than 256 data lines, the check is the sum in every edition
check_is : (edition : Edition) (s : State) (bs : List ℕ) → (is_last bs && row10 s (address_in bs)) ≡ false → s.records < 256
    → check_of edition (covered bs) ≡ sum (covered bs) % 65536
check_is edition s bs q l =
    by_test (is_last bs)
    (λ e. let k : (length_in bs ≡ 0) × (length (covered bs) ≤ 3) = three bs e in
    checks_meet (covered bs) (covered_last bs ∙ e) k.1 (omega (arith, covered_number bs, number_is s bs q e)) edition)
    (λ e. check_data (covered bs) (covered_last bs ∙ e) edition)

-- a line that one edition does not refuse does the same in the other, behind fewer than 256 data lines
other_judge : (edition other : Edition) (s : State) (bs : List ℕ) (x : Step) → judge edition s bs ≡ x → (IsRefusal x → ⊥) → s.records < 256
    → judge other s bs ≡ x
unfolding judge row7
other_judge edition other s bs x e n l =
    by_test (row7 edition bs) (λ p. absurd (n (subst IsRefusal (rw p at e) tt)))
    (λ p. by_test (is_last bs && row10 s (address_in bs)) (λ q. absurd (n (subst IsRefusal (rw (p, q) at e) tt)))
    (λ q. rw (check_is other s bs q l ∙ sym (check_is edition s bs q l)) e))

-- the same of a line that is read, or cannot be read
other_step : (edition other : Edition) (s : State) (r : Read) (x : Step) → judged edition s r ≡ x → (IsRefusal x → ⊥) → s.records < 256
    → judged other s r ≡ x
other_step edition other s (bad f) x e n l = e
other_step edition other s (good bs) x e n l = other_judge edition other s bs x e n l

-- ---- fewer than 256 data lines

module _ (edition other : Edition) (t : Summary) (size : ℕ) where
  -- the other edition's walk, where this one's is accepted
  abbrev SameWalk : State → List Line → Plan → Type 0
  SameWalk s ls p = (s.records ≤ t.records) × (t.records < 256 → scan (tape other).step size s ls ≡ p)

  -- it is the same at each kind of line
  same_walk : Inductive (tape edition).step t SameWalk
  same_walk = record {
    at_skip = λ s l ls p e k. (k.0, λ n. rw (other_step edition other s (read l.chars) skip e (λ r. r) (omega (arith, k.0, n))) (k.1 n));
    at_title = λ s l ls p h e k. (k.0, λ n. rw (other_step edition other s (read l.chars) (title h) e (λ r. r) (omega (arith, k.0, n))) (k.1 n));
    at_put = λ s l ls p a ds e k. (
      omega (arith, k.0),
      λ n. rw (other_step edition other s (read l.chars) (put a ds) e (λ r. r) (omega (arith, k.0, n)))
          (ap (Plan.store (suc s.number) l.place a ds) (k.1 n)),
    );
    at_finish = λ s l e q m. let c : t.records ≡ s.records = ap (λ (x : Summary). x.records) m in
        (omega (arith, c), λ n. rw (other_step edition other s (read l.chars) (finish e) q (λ r. r) (omega (arith, c, n))) (ap done (sym m)));
  }

-- the plan of a text that one edition accepts is the other's, too
same_plan : (edition other : Edition) (text : List ℕ) (t : Summary) → final (plan (tape edition) text) ≡ done t → t.records < 256
    → plan (tape other) text ≡ plan (tape edition) text
unfolding plan
same_plan edition other text t q n =
    (accepted_walk (tape edition).step t (SameWalk edition other t (length text)) (same_walk edition other t (length text)) (length text)
    (lines is_gap 0 text) start q).1 n

-- and so for an accepted load of fewer than 256 data lines
accepted_other : (edition other : Edition) (W : Window) (text : List ℕ) → line_count text < 256 → Accepted (tape edition) W text
    → plan (tape other) text ≡ plan (tape edition) text
accepted_other edition other W text n a =
    let l : (s : Summary) × (img : Image) × (load W (plan (tape edition) text) ≡ accepted s img)
    = accepted_is (tape edition) limits (lawful edition) W text a in
    let b : Behind (tape edition) limits W text l.0 l.1 = load_inv (tape edition) limits (lawful edition) W text l.0 l.1 l.2 in
    same_plan edition other text l.0 b.ends (omega (arith, b.records, n))

-- the editions accept the same texts of fewer than 256 data lines, with the same outcome
pub same_below_256 : SameBelow256
same_below_256 W t n = record {
  both = (λ a. rw (accepted_other Repeat Sum W t n a) a, λ a. rw (accepted_other Sum Repeat W t n a) a);
  same = λ a. ap (load W) (sym (accepted_other Repeat Sum W t n a));
}

-- ---- 256 data lines or more

-- the characters of the last line
abbrev last_of : List Line → List ℕ
last_of [] = []
last_of (l ∷ []) = l.chars
last_of (l ∷ k ∷ ls) = last_of (k ∷ ls)

-- a last line that an edition lets pass, behind n data lines
abbrev Ends : Edition → ℕ → Read → Type 0
Ends edition n (good bs) = (is_last bs ≡ true) × (address_in bs ≡ n) × (check_in bs ≡ check_of edition (covered bs))
Ends edition n (bad f) = ⊥

-- a line that ends the tape is such a line
ends_step : (edition : Edition) (s : State) (r : Read) (e : Entry) → judged edition s r ≡ finish e → Ends edition s.records r
unfolding judge row7 carries
ends_step edition s (bad f) e q = absurd (subst IsRefusal q tt)
ends_step edition s (good bs) e q =
    by_test (row7 edition bs) (λ x. absurd (subst IsRefusal (rw x at q) tt))
    (λ x. by_test (is_last bs && row10 s (address_in bs)) (λ y. absurd (subst IsRefusal (rw (x, y) at q) tt))
    (λ y. by_test (not (is_last bs) && row11 (address_in bs) (length (data_in bs))) (λ z. absurd (subst IsRefusal (rw (x, y, z) at q) tt))
    (λ z. by_test (is_last bs)
    (λ l. (l, number_is s bs y l, eqb-true (check_in bs) (check_of edition (covered bs)) (not-false (eqb (check_in bs) (check_of edition (covered bs))) x)))
    (λ l. absurd (no_data (rw (x, y, z, l) at q))))))
  where
    no_data : put (address_in bs) (data_in bs) ≡ finish e → ⊥
    no_data k = let z : ◌≡◌ {A = ℕ} 0 1 = cc in omega arith

module _ (edition : Edition) (t : Summary) where
  -- the last of these lines is one, behind as many data lines as are counted
  abbrev EndsWell : State → List Line → Plan → Type 0
  EndsWell s ls p = Ends edition t.records (read (last_of ls))

  -- a line before others does not change the last one
  earlier : (l : Line) (ls : List Line) → Ends edition t.records (read (last_of ls)) → Ends edition t.records (read (last_of (l ∷ ls)))
  unfolding read row3 row4
  earlier l [] k = absurd k
  earlier l (m ∷ ls) k = k

  -- so it is at each kind of line
  ends_well : Inductive (tape edition).step t EndsWell
  ends_well = record {
    at_skip = λ s l ls p e k. earlier l ls k;
    at_title = λ s l ls p h e k. earlier l ls k;
    at_put = λ s l ls p a ds e k. earlier l ls k;
    at_finish = λ s l e q m. subst (λ (u : Summary). Ends edition u.records (read l.chars)) (sym m) (ends_step edition s (read l.chars) e q);
  }

-- how an accepted text ends
ended_by : (edition : Edition) (W : Window) (text : List ℕ) → Accepted (tape edition) W text
    → Ends edition (line_count text) (read (last_of (lines is_gap 0 text)))
unfolding plan
ended_by edition W text a =
    let l : (s : Summary) × (img : Image) × (load W (plan (tape edition) text) ≡ accepted s img)
    = accepted_is (tape edition) limits (lawful edition) W text a in
    let b : Behind (tape edition) limits W text l.0 l.1 = load_inv (tape edition) limits (lawful edition) W text l.0 l.1 l.2 in
    subst (λ (n : ℕ). Ends edition n (read (last_of (lines is_gap 0 text)))) b.records
    (accepted_walk (tape edition).step l.0 (EndsWell edition l.0) (ends_well edition l.0) (length text)
    (lines is_gap 0 text) start b.ends)

-- a last line that both editions let pass has a number below 256
both_end : (n : ℕ) (r : Read) → ReadOk r → Ends Repeat n r → Ends Sum n r → n < 256
unfolding covered
both_end n (bad f) o x y = absurd x
both_end n (good bs) o x y =
    let k : (length_in bs ≡ 0) × (length (covered bs) ≤ 3) = three bs x.0 in
    omega (
      arith,
      x.1,
      covered_number bs,
      checks_apart (covered bs) (BytesTake (3 + length_in bs) bs o) (covered_last bs ∙ x.0) k.1 (sym x.2 ∙ y.2),
    )

-- of a text with 256 or more data lines at most one edition accepts
pub one_above_255 : OneAbove255
one_above_255 W W' t l a b =
    let cs : List ℕ = last_of (lines is_gap 0 t) in
    omega (arith, l, both_end (line_count t) (read cs) (read_ok cs).got (ended_by Repeat W t a) (ended_by Sum W' t b))

-- ---- what is written

-- a line whose number is its sum
same_line : (a : ℕ) (ds rest : List ℕ) → check_of Repeat (fields a ds) ≡ sum (fields a ds) % 65536 → line Repeat a ds rest ≡ line Sum a ds rest
unfolding line line_text
same_line a ds rest e = rw (e, check_sum (fields a ds)) refl

-- data lines before equal rests
same_data : (rs : List Run) (x y : List ℕ) → AllSized follow rs → x ≡ y → data_lines (data_line Repeat) rs x ≡ data_lines (data_line Sum) rs y
unfolding fields is_last
same_data [] x y h e = e
same_data (r ∷ rs) x y h e =
    same_line r.addr r.bytes (data_lines (data_line Repeat) rs x)
    (check_data (fields r.addr r.bytes) (ne_eqb (length r.bytes) 0 (λ q. omega (arith, h.0, q))) Repeat)
    ∙ ap (line Sum r.addr r.bytes) (same_data rs x y h.2 e)

-- the last line
same_last : (n : ℕ) → n < 256 → line Repeat n [] [] ≡ line Sum n [] []
unfolding fields is_last address_in
same_last n l = same_line n [] [] (checks_meet (fields n []) refl (lit≤ tt) (omega arith) Repeat)

-- the canonical tape
same_canonical : (cs : List Cell) → length (runs follow cs) < 256 → canonical Repeat cs ≡ canonical Sum cs
unfolding canonical
same_canonical cs l =
    same_data (runs follow cs) (line Repeat (length (runs follow cs)) [] []) (line Sum (length (runs follow cs)) [] []) (sized_runs follow cs)
    (same_last (length (runs follow cs)) l)

-- the editions write the same tapes of fewer than 256 data lines, and refuse alike
pub same_written : SameWritten
unfolding write text_of
same_written W header entry room l = rw (same_canonical (shown W) l) refl

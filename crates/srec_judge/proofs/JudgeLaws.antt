-- Rows 8, 10 and 11 by numbers: each answer of the function `judge`, and what it says of the step that the definitions take.
use mathlib.Core.Path.{◌≡◌, refl, sym, ap, ◌∙◌, subst}
use Prim.Native.Nat.{ℕ, ◌+◌, ◌*◌, ◌^◌, ◌≤◌, ◌<◌}
use native.Mathlib.Nat.{add-zero}
use native.Mathlib.Omega.{arith}
use mathlib.Core.Bool.{true, false}
use mathlib.Core.List.{List, []}
use mathlib.Core.Option.{Option, none, some}
use lib.Dec.{ltb}
use lib.ListN.{length, replicate, length-replicate}
use borrow.Author.Tests.{eq-eqb, ne_eqb, lt-ltb, le-ltb}
use Rattle.srec.specs.Kinds.{Kind, kind_of, type_of, width, is_known, known}
use Rattle.srec.specs.Kinds.Kind.{S0, Data, S5, End}
use Rattle.std.specs.Prelude.{Some}
use Rattle.text.specs.declared.State.{State}
use Rattle.text.specs.declared.Step.{Step}
use Rattle.text.specs.declared.Step.TheVariants.{Refuse, Pass, Put, Finish}
use Rattle.text.specs.Scan.{State as ScanState, more, more_data}
use Rattle.text.specs.Scan.Step.{put}
use Rattle.text.specs.Steps.{CanCount, numbers, state_with, as_step}
use Rattle.text.proofs.StepLaws.{Counting}
use Rattle.srec.specs.Reading.{Read, read}
use Rattle.srec.specs.Reading.Read.{good, bad}
use Rattle.srec.specs.Judging.{row8, row10, row11, carried, judge, judged}
use Rattle.srec.specs.Formats.{srec}
use Rattle.lists.proofs.TestLaws.{by_test}
use Rattle.text.specs.declared.Fault.{Fault}
use Rattle.srec_fields.specs.Records.{width_or0, as_record}
use Rattle.srec_fields.proofs.KindLaws.{Known, known_kind, type_of_kind}
use Rattle.srec_fields.proofs.FieldLaws.{refused, read_fields, Got}

-- ---- kinds by their character

-- a known type has a kind
pub some_kind : (c : ℕ) → is_known (kind_of c) ≡ true → (k : Kind) × (kind_of c ≡ some k)
some_kind c h = go (kind_of c) refl
  where
    go : (o : Option Kind) → kind_of c ≡ o → (k : Kind) × (kind_of c ≡ some k)
    go none e = absurd (let q : false ≡ true = ap is_known (sym e) ∙ h in let z : ◌≡◌ {A = ℕ} 0 1 = cc in omega arith)
    go (some k) e = (k, e)

-- which kind a character with w address bytes stands for
pub record Sort (c w : ℕ) (k : Kind) : Type 0 where
  pub s0 : c ≡ 48 → k ≡ S0
  pub s5 : c ≡ 53 → k ≡ S5
  pub data_is : (c ≡ 48 → ⊥) → (c ≡ 53 → ⊥) → c ≤ 53 → k ≡ Data w
  pub end_is : 53 < c → k ≡ End w
  pub data_by_type : 49 ≤ c → c ≤ 51 → k ≡ Data w
  pub end_by_type : (c ≡ 48 → ⊥) → (c ≡ 53 → ⊥) → (49 ≤ c → c ≤ 51 → ⊥) → k ≡ End w
  pub low : 2 ≤ w
  pub high : w ≤ 4

-- each kind with 2 to 4 address bytes is the one that its type character stands for
sort : (k : Kind) (c : ℕ) → type_of k ≡ c → 2 ≤ width k → width k ≤ 4 → Sort c (width k) k
sort S0 c e l h = record {
  s0 = λ q. refl;
  s5 = λ q. absurd (omega arith);
  data_is = λ n m q. absurd (n (sym e));
  end_is = λ q. absurd (omega arith);
  data_by_type = λ p q. absurd (omega arith);
  end_by_type = λ n m q. absurd (n (sym e));
  low = l;
  high = h;
}
sort (Data w) c e l h = record {
  s0 = λ q. absurd (omega arith);
  s5 = λ q. absurd (omega arith);
  data_is = λ n m q. refl;
  end_is = λ q. absurd (omega arith);
  data_by_type = λ p q. refl;
  end_by_type = λ n m q. absurd (q (omega arith) (omega arith));
  low = l;
  high = h;
}
sort S5 c e l h = record {
  s0 = λ q. absurd (omega arith);
  s5 = λ q. refl;
  data_is = λ n m q. absurd (m (sym e));
  end_is = λ q. absurd (omega arith);
  data_by_type = λ p q. absurd (omega arith);
  end_by_type = λ n m q. absurd (m (sym e));
  low = l;
  high = h;
}
sort (End w) c e l h = record {
  s0 = λ q. absurd (omega arith);
  s5 = λ q. absurd (omega arith);
  data_is = λ n m q. absurd (omega arith);
  end_is = λ q. refl;
  data_by_type = λ p q. absurd (omega arith);
  end_by_type = λ n m q. refl;
  low = l;
  high = h;
}

-- what the type character says of a known kind
pub sort_of : (c : ℕ) → is_known (kind_of c) ≡ true → Sort c (width_or0 (kind_of c)) (known (kind_of c))
sort_of c h =
    let k : (k : Kind) × (kind_of c ≡ some k) = some_kind c h in
    let t : Known c (width k.0) = known_kind c k.0 k.1 in
    subst (λ (o : Option Kind). Sort c (width_or0 o) (known o)) (sym k.1) (sort k.0 c (type_of_kind c k.0 k.1) t.low t.high)

-- a known type has 2 to 4 address bytes
pub width_low : (c : ℕ) → is_known (kind_of c) ≡ true → 2 ≤ width_or0 (kind_of c)
width_low c h = (sort_of c h).low

pub width_high : (c : ℕ) → is_known (kind_of c) ≡ true → width_or0 (kind_of c) ≤ 4
width_high c h = (sort_of c h).high

-- ---- each answer of `judge`

module _ (place : ℕ) (n : State) (k : Kind) (a count : ℕ) where
  -- the step that the definitions take
  abbrev taken : Step
  taken = as_step place (state_with [] n) (judge (state_with [] n) k a (replicate count 0))

  -- the state behind one record more
  abbrev next : State
  next = numbers (more (state_with [] n) [])

  -- an S0 that is not the first record
  pub row_8 : k ≡ S0 → (n.number ≡ 0 → ⊥) → Refuse 8 place 0 ≡ taken
  unfolding judge row8
  row_8 e z = rw (e, ne_eqb n.number 0 z, add-zero)

  -- an S0 that is the first record
  pub passed_s0 : k ≡ S0 → n.number ≡ 0 → Pass next ≡ taken
  unfolding judge row8
  passed_s0 e z = rw (e, eq-eqb n.number 0 z)

  -- an S5 with another number
  pub row_10 : k ≡ S5 → (a ≡ n.records → ⊥) → Refuse 10 place 0 ≡ taken
  unfolding judge row10
  row_10 e z = rw (e, ne_eqb a n.records z, add-zero)

  -- an S5 with the right number
  pub passed_s5 : k ≡ S5 → a ≡ n.records → Pass next ≡ taken
  unfolding judge row10
  passed_s5 e z = rw (e, eq-eqb a n.records z)

  -- a terminator, of any width
  pub finished : (w : ℕ) → k ≡ End w → Finish next (Some a) ≡ taken
  unfolding judge
  finished w e = rw e

  -- the data passes the end of its own width
  pub row_11 : (w : ℕ) → k ≡ Data w → 2 ^ (8 * w) < a + count → Refuse 11 place 0 ≡ taken
  unfolding judge row11
  row_11 w e l = rw (e, length-replicate, lt-ltb (2 ^ (8 * w)) (a + count) l, add-zero)

  -- data within its own width
  pub stored : (w : ℕ) → k ≡ Data w → a + count ≤ 2 ^ (8 * w) → Put (numbers (more_data (state_with [] n) count)) a count ≡ taken
  unfolding judge row11
  stored w e l = rw (e, length-replicate, le-ltb (2 ^ (8 * w)) (a + count) l, length-replicate)

-- ---- the same by the type character

module _ (place : ℕ) (n : State) (c a count : ℕ) (h : is_known (kind_of c) ≡ true) where
  -- the kind of the character, and its address bytes
  abbrev own : Kind
  own = known (kind_of c)

  abbrev wide : ℕ
  wide = width_or0 (kind_of c)

  -- the step that the definitions take
  abbrev typed : Step
  typed = taken place n own a count

  -- the state behind one record more
  abbrev behind : State
  behind = next place n own a count

  pub row_8_by_type : c ≡ 48 → (n.number ≡ 0 → ⊥) → Refuse 8 place 0 ≡ typed
  row_8_by_type e z = row_8 place n own a count ((sort_of c h).s0 e) z

  pub passed_s0_by_type : c ≡ 48 → n.number ≡ 0 → Pass behind ≡ typed
  passed_s0_by_type e z = passed_s0 place n own a count ((sort_of c h).s0 e) z

  pub row_10_by_type : c ≡ 53 → (a ≡ n.records → ⊥) → Refuse 10 place 0 ≡ typed
  row_10_by_type e z = row_10 place n own a count ((sort_of c h).s5 e) z

  pub passed_s5_by_type : c ≡ 53 → a ≡ n.records → Pass behind ≡ typed
  passed_s5_by_type e z = passed_s5 place n own a count ((sort_of c h).s5 e) z

  pub finished_by_type : (c ≡ 48 → ⊥) → (c ≡ 53 → ⊥) → (49 ≤ c → c ≤ 51 → ⊥) → Finish behind (Some a) ≡ typed
  finished_by_type p q r = finished place n own a count wide ((sort_of c h).end_by_type p q r)

  pub row_11_by_type : 49 ≤ c → c ≤ 51 → 2 ^ (8 * wide) < a + count → Refuse 11 place 0 ≡ typed
  row_11_by_type p q l = row_11 place n own a count wide ((sort_of c h).data_by_type p q) l

  pub stored_by_type : 49 ≤ c → c ≤ 51 → a + count ≤ 2 ^ (8 * wide) → Put (numbers (more_data (state_with [] n) count)) a count ≡ typed
  stored_by_type p q l = stored place n own a count wide ((sort_of c h).data_by_type p q) l

-- the answers of `judge`
pub ruleset judge_laws = (
  row_8_by_type,
  passed_s0_by_type,
  row_10_by_type,
  passed_s5_by_type,
  finished_by_type,
  row_11_by_type,
  stored_by_type,
  width_low,
  width_high,
)

-- ---- the numbers decide the step

-- the data bytes do not matter to it
judge_numbers : (place : ℕ) (s : ScanState) (k : Kind) (a : ℕ) (ds : List ℕ)
    → as_step place s (judge s k a (replicate (length ds) 0)) ≡ as_step place s (judge s k a ds)
unfolding judge row11
judge_numbers place s S0 a ds = by_test (row8 s) (λ e. rw e refl) (λ e. rw e refl)
judge_numbers place s (Data w) a ds =
    by_test (ltb (2 ^ (8 * w)) (a + length ds)) (λ e. rw (length-replicate, e) refl) (λ e. rw (length-replicate, e, length-replicate) refl)
judge_numbers place s S5 a ds = by_test (row10 s a) (λ e. rw e refl) (λ e. rw e refl)
judge_numbers place s (End w) a ds = refl

-- a record that was read has a type in the table
pub type_known : {chars : List ℕ} {kind a count : ℕ} → Got chars kind a count → is_known (kind_of kind) ≡ true
type_known g = ap is_known g.known_is

module _ (place : ℕ) (n : State) (chars : List ℕ) where
  -- the step that the definitions take of the characters
  abbrev whole : Step
  whole = as_step place (state_with [] n) (judged (state_with [] n) (read chars))

  -- what `judge` asks of the numbers: where they have room for a record's characters, they have it for what it adds
  pub counts_fit : {kind a count : ℕ} → Got chars kind a count → CanCount n (length chars)
      → (n.number + 1 < 2 ^ 64) × (n.records + 1 < 2 ^ 64) × (n.cells + count < 2 ^ 64) × (count < 2 ^ 32)
  counts_fit g room =
      let long = g.fields.long in
      (omega (arith, room.0, long), omega (arith, room.1, long), omega (arith, room.2, long, g.len), omega (arith, g.small.1))

  -- all that `judge` asks
  pub judge_fits : {kind a count : ℕ} → Got chars kind a count → CanCount n (length chars)
      → (is_known (kind_of kind) ≡ true) × (n.number + 1 < 2 ^ 64) × (n.records + 1 < 2 ^ 64) × (n.cells + count < 2 ^ 64) × (count < 2 ^ 32)
  judge_fits g room = let fit = counts_fit g room in (type_known g, fit.0, fit.1, fit.2, fit.3)

  -- a record that was read is judged
  pub step_good : {kind a count : ℕ} → Got chars kind a count → (r : Step)
      → r ≡ as_step place (state_with [] n) (judge (state_with [] n) (known (kind_of kind)) a (replicate count 0)) → r ≡ whole
  step_good {kind} {a} {count} g r q =
      q ∙ (λ i. as_step place (state_with [] n) (judge (state_with [] n) (known (g.known_is i)) a (replicate (sym g.len i) 0)))
      ∙ judge_numbers place (state_with [] n) g.k a g.ds
      ∙ ap (λ (x : Read). as_step place (state_with [] n) (judged (state_with [] n) x)) (sym g.is)

  -- a record that cannot be read is refused where its row says
  pub step_bad : (reason at want : ℕ) → refused reason at want ≡ as_record place (read chars) → Refuse reason at want ≡ whole
  step_bad reason at want q = go (read chars) q
    where
      go : (r : Read) → refused reason at want ≡ as_record place r → Refuse reason at want ≡ as_step place (state_with [] n) (judged (state_with [] n) r)
      go (good k a ds) e = absurd (let z : ◌≡◌ {A = ℕ} 0 1 = cc in omega arith)
      go (bad f) e =
          let same : ◌≡◌ {A = Fault} (record { row = reason; place = at; want = want }) (record { row = f.reason; place = place + f.offset; want = f.want }) = cc in
          ap (λ (x : Fault). Refuse x.row x.place x.want) same

-- ---- S-records count

-- the header so far does not matter to the step
headless : (h : List ℕ) (n : State) (r : Read) → judged (state_with h n) r ≡ judged (state_with [] n) r
unfolding judge row8 row10
headless h n (bad f) = refl
headless h n (good S0 a ds) = refl
headless h n (good (Data w) a ds) = refl
headless h n (good S5 a ds) = refl
headless h n (good (End w) a ds) = refl

-- a record has a character for each of its data bytes
roomy : (cs : List ℕ) (a : ℕ) (ds : List ℕ) → carried (read cs) ≡ put a ds → length ds ≤ length cs
roomy cs a ds q = go (read cs) refl q
  where
    go : (r : Read) → read cs ≡ r → carried r ≡ put a ds → length ds ≤ length cs
    go (bad f) e p = absurd (let z : ◌≡◌ {A = ℕ} 0 1 = cc in omega arith)
    go (good S0 b es) e p = absurd (let z : ◌≡◌ {A = ℕ} 0 1 = cc in omega arith)
    go (good (Data v) b es) e p =
        let same : es ≡ ds = cc in
        omega (arith, (read_fields cs (Data v) b es e).long, ap length same)
    go (good S5 b es) e p = absurd (let z : ◌≡◌ {A = ℕ} 0 1 = cc in omega arith)
    go (good (End v) b es) e p = absurd (let z : ◌≡◌ {A = ℕ} 0 1 = cc in omega arith)

-- the numbers of an S-record walk can be kept
pub counting : Counting srec
counting = record { headless = λ h n cs. headless h n (read cs); roomy = roomy }

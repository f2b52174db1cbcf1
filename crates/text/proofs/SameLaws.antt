-- Tests that say that two lists, cells, refusals or results are equal, or that cells, header and entry can be stored.
use mathlib.Core.Path.{◌≡◌, refl, ap, ap₂}
use Prim.Native.Nat.{ℕ, suc, ◌^◌, ◌<◌}
use mathlib.Core.Bool.{Bool, true, false, ◌&&◌}
use mathlib.Core.List.{List, [], ◌∷◌}
use mathlib.Core.Logic.{inl, inr}
use lib.Dec.{T, leb, ltb, eqb, eqb→eq, leb→le, ltb→lt}
use lib.ListN.{length}
use native.Mathlib.Omega.{arith}
use mir.Facts.{and_yes}
use Rattle.window.specs.declared.Refusal.{Refusal}
use Rattle.window.specs.Cells.{Cell}
use Rattle.window.proofs.OrderLaws.{Rising}
use Rattle.window.specs.Entries.{Entry}
use Rattle.std.specs.Prelude.{None, Some}
use Rattle.window.specs.Plans.{is_present, address_of}
use Rattle.window.proofs.CellLaws.{In}
use Rattle.lists.proofs.ByteLaws.{Bytes}
use Rattle.text.specs.Cases.{Result}
use Rattle.text.specs.Cases.Result.{fails, passes}
use Rattle.text.proofs.FormatLaws.{Limits, Storable}
use Rattle.text.proofs.CaseTests.{same_list, same_cells, same_refusal, same_entry, same_result, is_rising, all_bytes, all_small, same_test, is_storable}

-- lists of numbers that pass the test are equal
pub same_list_lem : (x y : List ℕ) → T (same_list x y) → x ≡ y
same_list_lem [] [] t = refl
same_list_lem [] (y ∷ ys) t = absurd t
same_list_lem (x ∷ xs) [] t = absurd t
same_list_lem (x ∷ xs) (y ∷ ys) t =
    let k : T (eqb x y) × T (same_list xs ys) = and_yes (eqb x y) (same_list xs ys) t in
    ap₂ {B = List ℕ} (λ (a : ℕ) (r : List ℕ). a ∷ r) (eqb→eq x y k.0) (same_list_lem xs ys k.1)

-- lists of cells that pass the test are equal
same_cell_list : (x y : List Cell) → T (same_cells x y) → x ≡ y
same_cell_list [] [] t = refl
same_cell_list [] (y ∷ ys) t = absurd t
same_cell_list (x ∷ xs) [] t = absurd t
same_cell_list (x ∷ xs) (y ∷ ys) t =
    let k : T (eqb x.addr y.addr) × T (eqb x.byte y.byte && same_cells xs ys)
    = and_yes (eqb x.addr y.addr) (eqb x.byte y.byte && same_cells xs ys) t in
    let l : T (eqb x.byte y.byte) × T (same_cells xs ys) = and_yes (eqb x.byte y.byte) (same_cells xs ys) k.1 in
    λ i. record { addr = eqb→eq x.addr y.addr k.0 i; byte = eqb→eq x.byte y.byte l.0 i } ∷ same_cell_list xs ys l.1 i

-- refusals that pass the test are equal
pub same_refusal_lem : (f g : Refusal) → T (same_refusal f g) → f ≡ g
same_refusal_lem f g t =
    let place : Bool = eqb f.place g.place && eqb f.want g.want in
    let k : T (eqb f.reason g.reason) × T (eqb f.ordinal g.ordinal && place)
    = and_yes (eqb f.reason g.reason) (eqb f.ordinal g.ordinal && place) t in
    let l : T (eqb f.ordinal g.ordinal) × T place = and_yes (eqb f.ordinal g.ordinal) place k.1 in
    let m : T (eqb f.place g.place) × T (eqb f.want g.want) = and_yes (eqb f.place g.place) (eqb f.want g.want) l.1 in
    λ i. record {
      reason = eqb→eq f.reason g.reason k.0 i;
      ordinal = eqb→eq f.ordinal g.ordinal l.0 i;
      place = eqb→eq f.place g.place m.0 i;
      want = eqb→eq f.want g.want m.1 i;
    }

-- entries that pass the test are equal
same_entry_lem : (x y : Entry) → T (same_entry x y) → x ≡ y
same_entry_lem None None t = refl
same_entry_lem None (Some b) t = absurd t
same_entry_lem (Some a) None t = absurd t
same_entry_lem (Some a) (Some b) t = ap Some (eqb→eq a b t)

-- results that pass the test are equal
pub same_result_lem : (x y : Result) → T (same_result x y) → x ≡ y
same_result_lem (fails f) (fails g) q = ap fails (same_refusal_lem f g q)
same_result_lem (fails f) (passes h e r cs) q = absurd q
same_result_lem (passes h e r cs) (fails f) q = absurd q
same_result_lem (passes h e r cs) (passes h' e' r' cs') q =
    let k : T (same_list h h') × T (same_entry e e' && (eqb r r' && same_cells cs cs'))
    = and_yes (same_list h h') (same_entry e e' && (eqb r r' && same_cells cs cs')) q in
    let l : T (same_entry e e') × T (eqb r r' && same_cells cs cs') = and_yes (same_entry e e') (eqb r r' && same_cells cs cs') k.1 in
    let m : T (eqb r r') × T (same_cells cs cs') = and_yes (eqb r r') (same_cells cs cs') l.1 in
    λ i. passes (same_list_lem h h' k.0 i) (same_entry_lem e e' l.0 i) (eqb→eq r r' m.0 i) (same_cell_list cs cs' m.1 i)

-- cells that pass the test are in rising order
pub rising_of : (lo : ℕ) (cs : List Cell) → T (is_rising lo cs) → Rising lo cs
rising_of lo [] t = tt
rising_of lo (c ∷ cs) t =
    let k : T (leb lo c.addr) × T (is_rising (suc c.addr) cs) = and_yes (leb lo c.addr) (is_rising (suc c.addr) cs) t in
    (leb→le lo c.addr k.0, rising_of (suc c.addr) cs k.1)

-- numbers that pass the test are bytes
bytes_of : (bs : List ℕ) → T (all_bytes bs) → Bytes bs
bytes_of [] t = tt
bytes_of (b ∷ bs) t = let k : T (ltb b 256) × T (all_bytes bs) = and_yes (ltb b 256) (all_bytes bs) t in (ltb→lt b 256 k.0, bytes_of bs k.1)

-- cells that pass the test are below top and hold bytes
small_of : (top : ℕ) (cs : List Cell) → T (all_small top cs) → (A B : ℕ) → In A B cs → (A < top) × (B < 256)
small_of top [] t A B k = absurd k
small_of top (c ∷ cs) t A B (inl e) =
    let k : T (ltb c.addr top) × T (ltb c.byte 256 && all_small top cs) = and_yes (ltb c.addr top) (ltb c.byte 256 && all_small top cs) t in
    let l : T (ltb c.byte 256) × T (all_small top cs) = and_yes (ltb c.byte 256) (all_small top cs) k.1 in
    (omega (arith, ltb→lt c.addr top k.0, e.0), omega (arith, ltb→lt c.byte 256 l.0, e.1))
small_of top (c ∷ cs) t A B (inr m) =
    let k : T (ltb c.addr top) × T (ltb c.byte 256 && all_small top cs) = and_yes (ltb c.addr top) (ltb c.byte 256 && all_small top cs) t in
    small_of top cs (and_yes (ltb c.byte 256) (all_small top cs) k.1).1 A B m

-- truth values that pass the test are equal
same_test_lem : (a b : Bool) → T (same_test a b) → a ≡ b
same_test_lem true true t = refl
same_test_lem true false t = absurd t
same_test_lem false true t = absurd t
same_test_lem false false t = refl

-- cells, header and entry that pass the test can be stored
pub storable_of : (L : Limits) (cs : List Cell) (h : List ℕ) (e : Entry) → T (is_storable L cs h e) → Storable L cs h e
storable_of L cs h e t =
    let head : Bool = all_bytes h && leb (length h) L.most in
    let last : Bool = same_test (is_present e) L.started && ltb (address_of e) (2 ^ 32) in
    let k : T (is_rising 0 cs && all_small L.top cs) × T (head && last) = and_yes (is_rising 0 cs && all_small L.top cs) (head && last) t in
    let c : T (is_rising 0 cs) × T (all_small L.top cs) = and_yes (is_rising 0 cs) (all_small L.top cs) k.0 in
    let m : T head × T last = and_yes head last k.1 in
    let a : T (all_bytes h) × T (leb (length h) L.most) = and_yes (all_bytes h) (leb (length h) L.most) m.0 in
    let z : T (same_test (is_present e) L.started) × T (ltb (address_of e) (2 ^ 32))
    = and_yes (same_test (is_present e) L.started) (ltb (address_of e) (2 ^ 32)) m.1 in
    record {
      rising = rising_of 0 cs c.0;
      small = small_of L.top cs c.1;
      header = record { bytes = bytes_of h a.0; short = leb→le (length h) L.most a.1 };
      entry = record { present = same_test_lem (is_present e) L.started z.0; small = ltb→lt (address_of e) (2 ^ 32) z.1 };
    }

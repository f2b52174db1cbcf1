-- Bytes stored from the front, one by one or block by block.
use mathlib.Core.Path.{◌≡◌, sym, ap, ◌∙◌}
use Prim.Native.Nat.{ℕ, suc, ◌+◌, ◌-◌, ◌*◌, ◌≤◌, ◌<◌}
use native.Mathlib.Numerals.{add-one}
use native.Mathlib.Omega.{arith}
use mathlib.Core.List.{List, ◌++◌, append_assoc, append-nil}
use lib.ListN.{length, get_or, set, take, drop, take-append-drop, drop_of_length-le}
use lib.Seq.{length-take-le, take_at, drop_at, drop-cons, drop-drop, set_at, append_snoc, take-suc, take_all, take-append-add}
use borrow.Rule.Slice.PartMut.{put_mid}
use Rattle.hex_digits.specs.Digits.{byte_of, bytes}
use Rattle.hex_digits.proofs.PairLaws.{length_bytes, drop_bytes, take_bytes, byte_at}

-- one byte more is stored: a turn of `store_pairs`
pub store_turn : (cs d : List ℕ) (k : ℕ) → length cs ≡ 2 * length d → k < length d
    → set (take k (bytes cs) ++ drop k d) k (byte_of (get_or cs (2 * k) 0) (get_or cs (2 * k + 1) 0)) ≡ take (k + 1) (bytes cs) ++ drop (k + 1) d
store_turn cs d k e h =
    let len : length (bytes cs) ≡ length d = length_bytes (length d) cs e in
    let l : length (take k (bytes cs)) ≡ k = length-take-le k (bytes cs) (omega arith) in
    rw (drop-cons d k 0 h, add-one k, take-suc (bytes cs) k 0 (omega arith), byte_at k cs (omega arith))
    (set_at (take k (bytes cs)) (get_or d k 0) (drop (suc k) d) (byte_of (get_or cs (2 * k) 0) (get_or cs (2 * k + 1) 0)) k l
    ∙ sym (append_snoc (take k (bytes cs)) (byte_of (get_or cs (2 * k) 0) (get_or cs (2 * k + 1) 0)) (drop (suc k) d)))

-- all bytes are stored: the end of `store_pairs`
pub store_end : (cs d : List ℕ) (k : ℕ) → length cs ≡ 2 * length d → length d ≤ k → take k (bytes cs) ++ drop k d ≡ bytes cs
store_end cs d k e h =
    rw (take_all k (bytes cs) (omega (arith, length_bytes (length d) cs e)), drop_of_length-le d h, append-nil)

-- the first i elements and k more
take_more : (bs : List ℕ) (i k : ℕ) → i ≤ length bs → take (i + k) bs ≡ take i bs ++ take k (drop i bs)
take_more bs i k h = rw (length-take-le i bs h, take-append-drop i bs) at (take-append-add (take i bs) (drop i bs) k)

-- k elements more are put behind the first i
block_put : (bs d : List ℕ) (i k : ℕ) → length bs ≡ length d → i + k ≤ length d
    → put_mid i k (take i bs ++ drop i d) (take k (drop i bs)) ≡ take (i + k) bs ++ drop (i + k) d
block_put bs d i k e h =
    let l : length (take i bs) ≡ i = length-take-le i bs (omega arith) in
    rw (take_at (take i bs) (drop i d) i l, drop_at (take i bs) (drop i d) i l, drop-drop k i d)
    (sym (append_assoc (take i bs) (take k (drop i bs)) (drop (i + k) d))
    ∙ ap (λ (r : List ℕ). r ++ drop (i + k) d) (sym (take_more bs i k (omega arith))))

-- the bytes from i up to j are stored behind the first i: a turn of `store_digits`, and its end
pub block_turn : (cs d : List ℕ) (i j : ℕ) (part : List ℕ) → length cs ≡ 2 * length d → i ≤ j → j ≤ length d
    → part ≡ bytes (take (2 * j - 2 * i) (drop (2 * i) cs))
    → put_mid i (j - i) (take i (bytes cs) ++ drop i d) part ≡ take j (bytes cs) ++ drop j d
block_turn cs d i j part e l h q =
    let k : ℕ = j - i in
    let f : 2 * j - 2 * i ≡ 2 * k = omega arith in
    let g : i + k ≡ j = omega arith in
    let p : part ≡ take k (drop i (bytes cs))
    = q ∙ ap (λ (m : ℕ). bytes (take m (drop (2 * i) cs))) f ∙ sym (take_bytes k (drop (2 * i) cs)) ∙ ap (take k) (sym (drop_bytes i cs)) in
    ap (put_mid i k (take i (bytes cs) ++ drop i d)) p
    ∙ block_put (bytes cs) d i k (length_bytes (length d) cs e) (omega arith)
    ∙ ap (λ (m : ℕ). take m (bytes cs) ++ drop m d) g

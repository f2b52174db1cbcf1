-- Lists of bytes.
use Prim.Native.Nat.{ℕ, zero, suc, ◌<◌}
use mathlib.Core.List.{List, [], ◌∷◌, ◌++◌}
use lib.Dec.{lit<}
use lib.ListN.{get_or, take, drop}

-- every number of the list is a byte: below 256
abbrev pub Bytes : List ℕ → Type 0
Bytes [] = Unit {0}
Bytes (b ∷ bs) = (b < 256) × Bytes bs

-- two lists of bytes joined are bytes
pub BytesAppend : (xs ys : List ℕ) → Bytes xs → Bytes ys → Bytes (xs ++ ys)
BytesAppend [] ys hx hy = hy
BytesAppend (x ∷ xs) ys hx hy = (hx.0, BytesAppend xs ys hx.1 hy)

-- the first n numbers of a list of bytes are bytes
pub BytesTake : (n : ℕ) (bs : List ℕ) → Bytes bs → Bytes (take n bs)
BytesTake zero bs h = tt
BytesTake (suc n) [] h = tt
BytesTake (suc n) (b ∷ bs) h = (h.0, BytesTake n bs h.1)

-- the numbers behind the first n of a list of bytes are bytes
pub BytesDrop : (n : ℕ) (bs : List ℕ) → Bytes bs → Bytes (drop n bs)
BytesDrop zero bs h = h
BytesDrop (suc n) [] h = tt
BytesDrop (suc n) (b ∷ bs) h = BytesDrop n bs h.1

-- the byte at any index is below 256; behind the end 0 is read
pub BytesAt : (bs : List ℕ) (i : ℕ) → Bytes bs → get_or bs i 0 < 256
BytesAt [] i h = lit< tt
BytesAt (b ∷ bs) zero h = h.0
BytesAt (b ∷ bs) (suc i) h = BytesAt bs i h.1

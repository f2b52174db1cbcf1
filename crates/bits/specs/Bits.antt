-- Packed marks (Req 08): "cell i in bit i modulo 8 of byte i / 8, spare bits zero".
use Rattle.std.specs.Prelude.{ℕ, zero, suc, ◌+◌, ◌*◌, ◌-◌, ◌/◌, ◌%◌, ◌^◌, List, [], ◌∷◌, length, get_or}
use Rattle.std.specs.Int.Count.{ones}

-- ---- reading

-- "cell i in bit i modulo 8 of byte i / 8": 0 or 1
unfoldable pub bit : List ℕ → ℕ → ℕ
bit marks i = get_or marks (i / 8) 0 / 2 ^ (i % 8) % 2

-- the bits of n cells from cell i on
abbrev pub bits : List ℕ → ℕ → ℕ → List ℕ
bits marks i zero = []
bits marks i (suc n) = bit marks i ∷ bits marks (suc i) n

-- the bits behind those of n cells, up to the end of the last byte
abbrev pub spare : ℕ → List ℕ → List ℕ
spare n marks = bits marks n (8 * length marks - n)

-- ---- storing

-- "cells / 8 rounded up": how many bytes the marks of n cells take
abbrev pub byte_count : ℕ → ℕ
byte_count n = (n + 7) / 8

-- k flags from i on as one number, the first in its lowest bit, and a zero for each that is not there: "spare bits zero"
unfoldable pub byte_of : List ℕ → ℕ → ℕ → ℕ
byte_of fs i zero = 0
byte_of fs i (suc k) = get_or fs i 0 + 2 * byte_of fs (suc i) k

-- n bytes of flags, from byte k on
abbrev pub pack_from : List ℕ → ℕ → ℕ → List ℕ
pack_from fs k zero = []
pack_from fs k (suc n) = byte_of fs (8 * k) 8 ∷ pack_from fs (suc k) n

-- "pack the marks": flags, one number 0 or 1 a cell, eight to a byte
unfoldable pub pack : List ℕ → List ℕ
pack fs = pack_from fs 0 (byte_count (length fs))

-- ---- counting

-- "the ones in the packed bytes"
abbrev pub ones_of : List ℕ → ℕ
ones_of [] = 0
ones_of (b ∷ bs) = ones b + ones_of bs

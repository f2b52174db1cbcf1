-- What the canonical text and its length are made of.
use Rattle.std.specs.Prelude.{ℕ, ◌+◌, ◌*◌, cond, List, [], leb}
use Rattle.srec.specs.Canonical.{count_line}

-- the S5 record of a number of data records
abbrev pub count_text : ℕ → List ℕ
count_text records = count_line records []

-- the canonical text's length, for a header of so many bytes and a width: S0, the data records, the terminator, and S5 if
-- it is written; each has S, type, count, checksum and LF, 7 characters
unfoldable pub length_for : ℕ → ℕ → ℕ → ℕ → ℕ
length_for records cells header width =
    11 + 2 * header + (records * (7 + 2 * width) + 2 * cells) + (7 + 2 * width) + cond (leb records 65535) 11 0

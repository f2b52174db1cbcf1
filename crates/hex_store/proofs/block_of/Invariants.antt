-- The first k bytes are in the block.
use Rattle.std.proofs.Common.{◌≡◌, ◌++◌, replicate, take, drop}
use Rattle.hex_digits.specs.Digits.{bytes}
use Rattle.hex_store.proofs.block_of.Given as goal

abbrev pub invariant-loop-k : goal.invariant-loop-k
invariant-loop-k l = l.byte-items ≡ take l.k (bytes l.chars) ++ drop l.k (replicate 16 0)

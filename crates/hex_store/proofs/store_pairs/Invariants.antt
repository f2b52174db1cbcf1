-- The first k bytes are stored.
use Rattle.std.proofs.Common.{◌≡◌, ◌++◌, take, drop}
use Rattle.hex_digits.specs.Digits.{bytes}
use Rattle.hex_store.proofs.store_pairs.Given as goal

abbrev pub invariant-loop-k : goal.invariant-loop-k
invariant-loop-k l = l.part ≡ take l.k (bytes l.chars) ++ drop l.k l.initial.part

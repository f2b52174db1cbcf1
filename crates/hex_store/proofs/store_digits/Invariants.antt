-- The first k blocks are stored.
use Rattle.std.proofs.Common.{◌≡◌, ◌*◌, ◌++◌, take, drop}
use Rattle.hex_digits.specs.Digits.{bytes}
use Rattle.hex_store.proofs.store_digits.Given as goal

abbrev pub invariant-loop-k : goal.invariant-loop-k
invariant-loop-k l = l.part ≡ take (16 * l.k) (bytes l.chars) ++ drop (16 * l.k) l.initial.part

-- The invariant: the number so far is that of the digits that the loop has passed, and below the power of 16 for so many.
use Rattle.std.proofs.Common.{◌≡◌, ◌<◌, ◌^◌, take}
use Rattle.words.specs.Words.{digits_after}
use Rattle.words.proofs.number.Given as goal

abbrev pub invariant-loop-c : goal.invariant-loop-c
invariant-loop-c l = (l.a < 16 ^ l.c-index) × (l.a ≡ digits_after 0 (take l.c-index l.c-items))

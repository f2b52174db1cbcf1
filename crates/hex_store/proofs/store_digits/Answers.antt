use Rattle.std.proofs.Common.{◌≡◌, ◌+◌, ◌-◌, ◌*◌, ◌/◌, length, take, drop, ◌++◌, arith, ◌∙◌}
use Rattle.hex_digits.specs.Digits.{bytes}
use Rattle.hex_digits.proofs.DigitLaws.{digits_part}
use Rattle.lists.proofs.PartLaws.{part_long}
use Rattle.hex_store.proofs.BlockLaws.{block_turn, store_end}
use Rattle.hex_store.proofs.store_digits.Goals as goal

pub block_of-requires : goal.block_of-requires
block_of-requires c =
    let cs = c.args.chars.now in
    let at = 16 * c.loop-k.k in (
      part_long cs (2 * at) (2 * (at + 16)) (omega arith) (omega arith) ∙ omega arith,
      digits_part (2 * (at + 16) - 2 * at) (2 * at) cs c.requires.1,
    )

pub loop-k-preserved : goal.loop-k-preserved
loop-k-preserved c =
    let l = c.loop-k in
    let a = c.args in
    let e : 16 * (l.k + 1) ≡ 16 * l.k + 16 = omega arith in
    rw (l.invariant, e) (block_turn a.chars.now a.part.now (16 * l.k) (16 * l.k + 16) _ c.requires.0 (omega arith) (omega arith)
    (c.copy_from_slice.ensures.after ∙ c.block_of.ensures))

pub returns : goal.returns
returns c =
    let l = c.loop-k in
    let cs = c.args.chars.now in
    let d = c.args.part.now in
    let at = 16 * (length d / 16) in
    let e : 16 * l.k ≡ at = omega arith in
    let n : length l.part ≡ length d = omega arith in
    let v : l.part ≡ take at (bytes cs) ++ drop at d = rw e at l.invariant in
    rw (n, v) (block_turn cs d at (length d) _ c.requires.0 (omega arith) (omega arith) (rw c.requires.0 at c.store_pairs.ensures)
    ∙ store_end cs d (length d) c.requires.0 (omega arith))

-- `put_run` meets its contract: a line of the format that it was told.
use mathlib.Core.Path.{◌≡◌, ap, ◌∙◌}
use Prim.Native.Nat.{ℕ, ◌+◌, ◌*◌}
use native.Mathlib.Omega.{arith}
use lib.ListN.{length}
use Rattle.lists.specs.Lists.{over}
use Rattle.data_lines.specs.Pieces.{run_text}
use Rattle.data_lines.proofs.DataLineLaws.{record_chosen, record_length, tape_chosen, tape_length}
use borrow.Author.Rules.{rules}
use Rattle.data_lines.proofs.put_run.Statement.{statement}
use Rattle.data_lines.proofs.put_run.Tie as tie

-- the call, where the format is known
abbrev records : tie.In-Records → tie.Start
records c = c.before.before.before

abbrev tape : tie.In-Tape → tie.Start
tape c = c.before.before.before

-- the length of the line
record-long : (c : tie.In-Records) → let a = (records c).args in
    7 + 2 * a.width + 2 * length a.bytes.now ≡ length (run_text a.format a.width a.address a.bytes.now)
record-long c = let a = (records c).args in record_length a.format a.width a.address a.bytes.now c.in-Records.is

tape-long : (c : tie.In-Tape) → let a = (tape c).args in
    13 + 2 * length a.bytes.now ≡ length (run_text a.format a.width a.address a.bytes.now)
tape-long c = let a = (tape c).args in tape_length a.format a.width a.address a.bytes.now c.in-Tape.edition c.in-Tape.is

put-line-requires : tie.Need-put_line-requires
put-line-requires c κs =
    let s = records c.before in
    ((s.requires.0.0, omega (arith, s.requires.0)), omega (arith, s.requires.1, record-long c.before))

put-line-requires-2 : tie.Need-put_line-requires-in-Tape
put-line-requires-2 c κs =
    let told = c.before in
    let s = tape told in
    (omega (arith, s.requires.0), omega (arith, s.requires.1, tape-long told))

returns : tie.Need-returns-in-Records
returns c =
    let at_put = c.before.before in
    let told = at_put.before.before in
    let a = (records told).args in (
      at_put.put_line.ensures.0 ∙ ap (λ (n : ℕ). a.at + n) (record-long told),
      at_put.put_line.ensures.1
          ∙ ap (over a.out.now a.at) (record_chosen a.format a.width a.address a.bytes.now told.in-Records.is),
    )

returns-2 : tie.Need-returns-in-Tape
returns-2 c =
    let at_put = c.before.before in
    let told = at_put.before.before in
    let a = (tape told).args in (
      at_put.put_line-in-Tape.ensures.0 ∙ ap (λ (n : ℕ). a.at + n) (tape-long told),
      at_put.put_line-in-Tape.ensures.1
          ∙ ap (over a.out.now a.at) (tape_chosen a.format a.width a.address a.bytes.now told.in-Tape.edition told.in-Tape.is),
    )

pub put_run_spec : {M : Type 1} → statement M
put_run_spec =
    tie.close
    (tie.spec
    (λ c. search rules)
    (λ c. search rules)
    (λ c. search rules)
    put-line-requires
    (λ c. search rules)
    put-line-requires-2
    (λ c. search rules)
    returns
    (λ c. search rules)
    returns-2)

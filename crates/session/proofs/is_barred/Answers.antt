-- Each test is the definition's.
use native.Mathlib.Omega.{arith}
use Rattle.std.proofs.lemmas.Bool.Decides.{nat_tests}
use Rattle.window.specs.Windows.{window_of}
use Rattle.marks.proofs.RowLaws.{plain_allowed}
use Rattle.parts.specs.Parts.{row1_later}
use Rattle.parts.specs.Forms.{row1_later_in}
use Rattle.session.proofs.is_barred.Goals as goal

pub returns-then-memory-session : goal.returns-then-memory-session
unfolding row1_later_in row1_later
returns-then-memory-session c =
    let a = c.args in
    let p = plain_allowed a.session.form (window_of a.base a.memory.now a.marks.now) in
    grind (arith, nat_tests)

pub returns-else-memory-session : goal.returns-else-memory-session
unfolding row1_later_in row1_later
returns-else-memory-session c =
    let a = c.args in
    let p = plain_allowed a.session.form (window_of a.base a.memory.now a.marks.now) in
    grind (arith, nat_tests)

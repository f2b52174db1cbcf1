-- `next_line` meets its contract: what stands between lines is passed, and the line behind it is the first.
use mathlib.Core.Path.{◌≡◌, ap, ap₂, ◌∙◌}
use Prim.Native.Nat.{ℕ, ◌+◌}
use native.Mathlib.Omega.{arith}
use mathlib.Core.List.{List}
use lib.ListN.{length, drop}
use Rattle.text.specs.Lines.{front}
use Rattle.formats.specs.Choices.{format_of}
use Rattle.text.specs.Finds.{leading}
use Rattle.lists.proofs.PartLaws.{rest}
use Rattle.text.proofs.FindLaws.{stands, next_nothing, next_at}
use borrow.Author.Rules.{rules}
use Rattle.lines.proofs.next_line.Statement.{statement}
use Rattle.lines.proofs.next_line.Tie as tie

-- how many separators were counted
gaps-at : (c : tie.After-count_gaps) → let a = c.args in
    c.count_gaps.result ≡ leading (format_of a.format).gap (drop a.at a.text.now)
gaps-at c =
    let a = c.args in
    c.count_gaps.ensures.0 ∙ ap (leading (format_of a.format).gap) (rest a.at a.text.now)

returns : tie.Need-returns-then-from-text
returns c =
    let a = c.args in
    next_nothing (format_of a.format).gap a.text.now a.at (omega (arith, gaps-at c.before, c.if-from-text.true))

returns-2 : tie.Need-returns
returns-2 c =
    let a = c.args in
    let gap = (format_of a.format).gap in
    let e = c.before.before.before in
    let n : c.count_chars.result ≡ length (front gap (drop (a.at + e.count_gaps.result) a.text.now))
    = c.count_chars.ensures.0 ∙ ap (λ (l : List ℕ). length (front gap l)) (rest (a.at + e.count_gaps.result) a.text.now) in
    ap₂ stands (ap (λ (k : ℕ). a.at + k) (gaps-at e))
    (ap₂ ◌+◌ (ap (λ (k : ℕ). a.at + k) (gaps-at e)) (n ∙ ap (λ (k : ℕ). length (front gap (drop (a.at + k) a.text.now))) (gaps-at e)))
    ∙ next_at gap a.text.now a.at (omega (arith, gaps-at e, c.if-from-text.false, e.count_gaps.ensures.1))

pub next_line_spec : {M : Type 1} → statement M
next_line_spec =
    tie.close
    (tie.spec
    (λ c. search rules)
    (λ c. search rules)
    (λ c. search rules)
    (λ c κs. search rules)
    (λ c. search rules)
    returns
    (λ c. search rules)
    (λ c. search rules)
    (λ c. search rules)
    (λ c κs. search rules)
    (λ c. search rules)
    returns-2)

-- What is held, with a line end behind it, is taken as a part.
use Rattle.std.proofs.Common.{◌≡◌, ℕ, ◌+◌, ◌≤◌, min, List, [], ◌∷◌, ◌++◌, map, length, take, drop, Err, ap, ◌∙◌, arith, rules}
use lib.ListN.{set, length-map, length-drop}
use lib.Seq.{length-take-le}
use Rattle.text.specs.Lines.{front}
use Rattle.srec.specs.Lines.{is_end}
use Rattle.session.specs.Sessions.{visible}
use Rattle.holding.proofs.VisibleLaws.{shown_free, shown_more}
use Rattle.part_lines.proofs.TurnLaws.{lf_behind, closed_refused, closed_taken}
use Rattle.cut_line.proofs.close_line.Goals.{After-hide_ends}
use Rattle.cut_line.proofs.close_line.Goals as goal

module _ (c : After-hide_ends) where
  -- how many characters are held, the line that has them, and they as they are shown
  abbrev n : ℕ
  n = c.hold-n.result

  abbrev line : List ℕ
  line = c.hold-n.new.line

  abbrev chars : List ℕ
  chars = c.hide_ends.new.chars

  line_long : length line ≡ 516
  line_long = c.hold-n.auto.line ∙ c.requires.0

  long : length chars ≡ n
  long = ap length c.hide_ends.ensures ∙ length-map (take n line) visible ∙ length-take-le n line (omega (arith, c.hold-n.ensures.1, line_long))

  short : length chars ≤ 515
  short = omega (arith, long, c.hold-n.ensures.1)

  -- none of them ends a line
  free : front is_end chars ≡ chars
  free = rw c.hide_ends.ensures (shown_free (take n line))

  -- they are those that were held and those that came
  shown : chars ≡ take 515 (map visible (take (min c.args.held 515) c.args.line.now) ++ c.args.chars.now)
  shown =
      c.hide_ends.ensures ∙ ap (λ (l : List ℕ). map visible l) c.hold-n.ensures.0
      ∙ shown_more (take (min c.args.held 515) c.args.line.now) c.args.chars.now c.requires.4

  -- the line with LF behind them
  ended : take (n + 1) (set (chars ++ drop n line) n 10) ≡ chars ++ (10 ∷ [])
  ended = lf_behind chars (drop n line) n long (omega (arith, length-drop n line, line_long, c.hold-n.ensures.1))

pub returns-in_err-rest-clause-took : goal.returns-in_err-rest-clause-took
returns-in_err-rest-clause-took c =
    let j = (goal.at.returns-in_err-rest-clause-took c).After-hide_ends in
    let is : c.from_residual.result ≡ Err c.in_err-rest.field-0.0 = search rules in
    rw is (closed_refused _ _ c.args.place _ _ _ _ _ _ (free j) (short j) (shown j) (ended j) _ _ _ c.in_err-rest.ensures.0)

pub returns-clause-took : goal.returns-clause-took
returns-clause-took c =
    let j = (goal.at.returns-clause-took c).After-hide_ends in
    closed_taken _ _ c.args.place _ _ _ _ _ _ (free j) (short j) (shown j) (ended j) _ _ _ c.in_ok-rest.ensures.0

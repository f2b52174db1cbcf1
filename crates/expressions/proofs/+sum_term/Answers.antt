-- `sum` and `term`, which call each other, meet their contracts: a law for each way out, and for a turn of the loop.
use mathlib.Core.Path.{sym, ◌∙◌}
use Rattle.std.proofs.Common.{arith}
use Rattle.expressions.proofs.SumLaws.{term_end, term_number, term_deep, term_open, term_name, term_none, first_bad, first_going, sum_ends, text_ends, other_bad, goes_on}
use Rattle.expressions.proofs.+sum_term.Goals as goal

pub sum-returns-in_err-so_far : goal.sum-returns-in_err-so_far
sum-returns-in_err-so_far t c = rw c.from_residual.ensures (first_bad _ _ _ _ c.in_err-so_far.ensures)

pub sum-loop-sign-init : goal.sum-loop-sign-init
sum-loop-sign-init t c = first_going _ _ _ _ _ c.in_ok-so_far.ensures

pub sum-returns-in_err-other : goal.sum-returns-in_err-other
sum-returns-in_err-other t c =
    let l = c.in-Some.ensures.lookup.3 in
    rw c.from_residual-in_err-other.ensures
    (other_bad _ _ _ _ _ c.loop-sign.invariant l.0 _ (l.1 0) c.if-not-is_sign.ensures c.in_err-other.ensures)

pub sum-loop-sign-smaller : goal.sum-loop-sign-smaller
sum-loop-sign-smaller t c =
    let l = c.in-Some.ensures.lookup.3 in
    omega (arith, (goes_on _ _ _ _ _ c.loop-sign.invariant l.0 _ (l.1 0) c.if-not-is_sign.ensures _ c.in_ok-other.ensures _ c.join-so_far.ensures).0)

pub sum-loop-sign-preserved : goal.sum-loop-sign-preserved
sum-loop-sign-preserved t c =
    let l = c.in-Some.ensures.lookup.3 in
    (goes_on _ _ _ _ _ c.loop-sign.invariant l.0 _ (l.1 0) c.if-not-is_sign.ensures _ c.in_ok-other.ensures _ c.join-so_far.ensures).1

pub sum-returns-then-not-is_sign : goal.sum-returns-then-not-is_sign
sum-returns-then-not-is_sign t c =
    sum_ends _ _ _ _ _ c.loop-sign.invariant _ (c.in-Some.ensures.lookup.3.1 0) c.if-not-is_sign.ensures

pub sum-returns-in_default : goal.sum-returns-in_default
sum-returns-in_default t c = text_ends _ _ _ _ _ c.loop-sign.invariant (omega (arith, c.in_default.ensures.lookup))

pub term-returns-in_err-c : goal.term-returns-in_err-c
term-returns-in_err-c t c = rw c.from_residual.ensures (term_end _ _ _ _ (omega (arith, c.in_err-c.ensures.lookup)))

pub term-returns-in_err-checked_sub-in-40 : goal.term-returns-in_err-checked_sub-in-40
term-returns-in_err-checked_sub-in-40 t c =
    let l = c.in_ok-c.ensures.lookup.3 in
    rw c.from_residual-in_err-checked_sub-in-40.ensures
    (term_deep _ _ _ _ (sym (l.1 0) ∙ c.in-40.is) (omega (arith, c.in_err-checked_sub-in-40.ensures)))

pub term-returns-in_ok-checked_sub-in-40 : goal.term-returns-in_ok-checked_sub-in-40
term-returns-in_ok-checked_sub-in-40 t c =
    let l = c.in_ok-c.ensures.lookup.3 in
    let k = c.in_ok-checked_sub-in-40.ensures in
    c.close.ensures
    ∙ term_open _ _ _ _ (sym (l.1 0) ∙ c.in-40.is) (λ z. omega (arith, k.0)) _ (rw (k.1) at c.sum-inner.ensures)

pub term-returns-in-36 : goal.term-returns-in-36
term-returns-in-36 t c =
    c.number.ensures ∙ term_number _ _ _ _ (sym (c.in_ok-c.ensures.lookup.3.1 0) ∙ c.in-36.is)

pub term-returns-in_default : goal.term-returns-in_default
term-returns-in_default t c =
    let e = c.in_ok-c.ensures.lookup.3.1 0 in
    c.name.ensures ∙ term_name _ _ _ _ (λ z. omega (arith, e)) (λ z. omega (arith, e)) (cc (e, c.if-is_letter.ensures))

pub term-returns-in_default-2 : goal.term-returns-in_default-2
term-returns-in_default-2 t c =
    let e = c.in_ok-c.ensures.lookup.3.1 0 in
    term_none _ _ _ _ (λ z. omega (arith, e)) (λ z. omega (arith, e)) (cc (e, c.if-is_letter.ensures))

-- `survex::walk::walk` meets its contract.
use Rattle.std.proofs.Common.{arith}
use Rattle.std.proofs.lemmas.Result.{err_from_is_err_and}
use borrow.Author.Tests.{not-true, not-false}
use Rattle.survex.proofs.Walks.{going_start, going_end, leg_order, leg_within, leg_next, leg_unfed, leg_wrong, leg_on}
use Rattle.survex.proofs.walk.walk.Goals as goal

pub loop-kept-init : goal.loop-kept-init
loop-kept-init c = going_start _ _ _ _ _ c.requires

pub returns-in_default : goal.returns-in_default
returns-in_default c = rw c.ok_or.ensures.value (going_end _ _ _ _ _ c.loop-kept.at c.loop-kept.line c.loop-kept.m c.loop-kept.invariant _ c.line_from-l.ensures c.in_default.is)

pub overflow_add-line : goal.overflow_add-line
overflow_add-line c = let n = leg_next _ _ _ _ _ c.loop-kept.at c.loop-kept.line c.loop-kept.m c.loop-kept.invariant _ c.line_from-l.ensures _ c.in-Some.is in omega (arith, n.2)

pub returns-then-not-kept : goal.returns-then-not-kept
returns-then-not-kept c = leg_unfed _ _ _ _ _ c.loop-kept.at c.loop-kept.line c.loop-kept.m c.loop-kept.invariant _ c.line_from-l.ensures _ c.in-Some.is (not-true _ c.if-not-kept.true) _

pub slice_bounds-take_leg-count : goal.slice_bounds-take_leg-count
slice_bounds-take_leg-count c = leg_order _ _ _ _ _ c.loop-kept.at c.loop-kept.line c.loop-kept.m c.loop-kept.invariant _ c.line_from-l.ensures _ c.in-Some.is

pub slice_bounds-take_leg-start : goal.slice_bounds-take_leg-start
slice_bounds-take_leg-start c = leg_order _ _ _ _ _ c.loop-kept.at c.loop-kept.line c.loop-kept.m c.loop-kept.invariant _ c.line_from-l.ensures _ c.in-Some.is

pub slice_bounds-take_leg-end : goal.slice_bounds-take_leg-end
slice_bounds-take_leg-end c = omega (arith, leg_within _ _ _ _ _ c.loop-kept.at c.loop-kept.line c.loop-kept.m c.loop-kept.invariant _ c.line_from-l.ensures _ c.in-Some.is)

pub returns-in_err-m : goal.returns-in_err-m
returns-in_err-m c =
    let p = err_from_is_err_and c.from_residual.result c.from_residual.ensures.1 in
    rw (p.1, p.2)
    (leg_wrong _ _ _ _ _ c.loop-kept.at c.loop-kept.line c.loop-kept.m c.loop-kept.invariant _ c.line_from-l.ensures _ c.in-Some.is (not-false _ c.if-not-kept.false) _ _ c.take_leg.ensures _ c.in_err-m.was)

pub overflow_add-line-in-loop-kept : goal.overflow_add-line-in-loop-kept
overflow_add-line-in-loop-kept c = let n = leg_next _ _ _ _ _ c.loop-kept.at c.loop-kept.line c.loop-kept.m c.loop-kept.invariant _ c.line_from-l.ensures _ c.in-Some.is in omega (arith, n.2)

pub loop-kept-smaller : goal.loop-kept-smaller
loop-kept-smaller c = let n = leg_next _ _ _ _ _ c.loop-kept.at c.loop-kept.line c.loop-kept.m c.loop-kept.invariant _ c.line_from-l.ensures _ c.in-Some.is in omega (arith, n.0, n.1)

pub loop-kept-preserved : goal.loop-kept-preserved
loop-kept-preserved c = leg_on _ _ _ _ _ c.loop-kept.at c.loop-kept.line c.loop-kept.m c.loop-kept.invariant _ c.line_from-l.ensures _ c.in-Some.is (not-false _ c.if-not-kept.false) _ _ c.take_leg.ensures _ c.in_ok-m.was c.take_leg.auto.out

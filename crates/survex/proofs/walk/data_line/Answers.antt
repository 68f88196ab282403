-- `survex::walk::data_line` meets its contract.
use Rattle.std.proofs.Common.{arith}
use borrow.Author.Tests.{not-true, not-false}
use Rattle.survex.proofs.Walks.{data_passed, data_none, data_unfed, data_order, data_within, data_other, data_here}
use Rattle.survex.proofs.walk.data_line.Goals as goal

pub overflow_add-line : goal.overflow_add-line
overflow_add-line c = omega (arith, data_passed _ _ c.line_from-l.ensures)

pub returns-in_default : goal.returns-in_default
returns-in_default c = data_none _ _ c.line_from-l.ensures c.in_default.is

pub returns-then-not-kept : goal.returns-then-not-kept
returns-then-not-kept c = data_unfed _ _ c.line_from-l.ensures _ c.in-Some.is (not-true _ c.if-not-kept.true)

pub slice_bounds-is_data-count : goal.slice_bounds-is_data-count
slice_bounds-is_data-count c = data_order _ _ c.line_from-l.ensures _ c.in-Some.is

pub slice_bounds-is_data-start : goal.slice_bounds-is_data-start
slice_bounds-is_data-start c = data_order _ _ c.line_from-l.ensures _ c.in-Some.is

pub slice_bounds-is_data-end : goal.slice_bounds-is_data-end
slice_bounds-is_data-end c = omega (arith, data_within _ _ c.line_from-l.ensures _ c.in-Some.is)

pub returns-then-not-is_data : goal.returns-then-not-is_data
returns-then-not-is_data c = data_other _ _ c.line_from-l.ensures _ c.in-Some.is (not-false _ c.if-not-kept.false) _ c.is_data.ensures c.if-not-is_data.true

pub overflow_add-result : goal.overflow_add-result
overflow_add-result c =
    let s = (data_here _ _ c.line_from-l.ensures _ c.in-Some.is (not-false _ c.if-not-kept.false) _ c.is_data.ensures c.if-not-is_data.false).1 in
    omega (arith, s.place, s.few)

pub returns : goal.returns
returns c = data_here _ _ c.line_from-l.ensures _ c.in-Some.is (not-false _ c.if-not-kept.false) _ c.is_data.ensures c.if-not-is_data.false

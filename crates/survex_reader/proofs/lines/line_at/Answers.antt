-- `survex_reader::lines::line_at` meets its contract.
use Rattle.std.proofs.Common.{arith, sym, ◌∙◌}
use Rattle.text.proofs.Split.{end_within}
use Rattle.survex_reader.proofs.Places.{passing_start, passing_end, passing_on, handed_out, kept_within, line_within}
use Rattle.survex_reader.proofs.lines.line_at.Goals as goal

pub loop-place-init : goal.loop-place-init
loop-place-init c = passing_start _ _

pub slice_bounds-kept_of-end : goal.slice_bounds-kept_of-end
slice_bounds-kept_of-end c = omega (arith, c.line_end-end.ensures, (end_within c.args.text.now _ c.loop-place-test.true).1)

pub overflow_add-result : goal.overflow_add-result
overflow_add-result c = omega (arith, (kept_within _ _ c.loop-place.place c.loop-place.passed c.loop-place.invariant c.loop-place-test.true _ c.line_end-end.ensures _ c.kept_of-kept.ensures).0)

pub overflow_add-result-then-is_left : goal.overflow_add-result-then-is_left
overflow_add-result-then-is_left c = omega (arith, (kept_within _ _ c.loop-place.place c.loop-place.passed c.loop-place.invariant c.loop-place-test.true _ c.line_end-end.ensures _ c.kept_of-kept.ensures).1)

pub returns-then-is_left : goal.returns-then-is_left
returns-then-is_left c = handed_out _ _ c.loop-place.place c.loop-place.passed c.loop-place.invariant c.loop-place-test.true _ c.line_end-end.ensures _ c.kept_of-kept.ensures (sym c.is_left.ensures ∙ c.if-is_left.true)

pub loop-place-smaller : goal.loop-place-smaller
loop-place-smaller c = let w = line_within _ _ c.loop-place.place c.loop-place.passed c.loop-place.invariant c.loop-place-test.true _ c.line_end-end.ensures _ c.kept_of-kept.ensures in omega (arith, w.0, w.1)

pub loop-place-preserved : goal.loop-place-preserved
loop-place-preserved c = passing_on _ _ c.loop-place.place c.loop-place.passed c.loop-place.invariant c.loop-place-test.true _ c.line_end-end.ensures _ c.kept_of-kept.ensures (sym c.is_left.ensures ∙ c.if-is_left.false)

pub overflow_add-passed : goal.overflow_add-passed
overflow_add-passed c = omega (arith, c.loop-place.invariant.few, c.loop-place-test.true)

pub returns : goal.returns
returns c = passing_end _ _ _ _ c.loop-place.invariant c.loop-place-test.false
